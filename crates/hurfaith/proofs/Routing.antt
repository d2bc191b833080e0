-- A law for each branch of the call of routing.
use mathlib.Core.Path.{◌≡◌, sym, refl, subst}
use mathlib.Core.Bool.{Bool, true, false, cond, ◌&&◌}
use mathlib.Core.List.{List, ◌∷◌}
use Prim.Native.Nat.{ℕ, ◌≤◌, ◌<◌}
use native.Mathlib.Omega.{arith}
use lib.Dec.{leb, ltb}
use lib.ListN.{length, get_or, drop}
use borrow.Author.Tests.{ltb-true, le-leb, lt-leb, leb-true}
use Rattle.std.specs.Prelude.{Result, Ok, Err, IfOk, IsErrAnd, ⊤}
use Rattle.refusal.specs.declared.Refusal.{Refusal}
use Rattle.refusal.specs.declared.Refusal.TheVariants.{OutOfRange}
use Rattle.refusal.specs.Numbers.{number_in}
use Rattle.routing.specs.Arcs.{from, to}
use Rattle.routing.specs.AtMostTwo.{listed, at_most_two}
use Rattle.routing.specs.Answers.{in_range, neighbours_of}
use Rattle.routing.specs.declared.Neighbours.{Neighbours}
use Rattle.lists.proofs.BoolLaws.{and_left, and_right}
use Rattle.routing.proofs.FewArcs.{from-few, to-few, first-two-of}
use Rattle.packing.specs.Packed.{number_at}
use Rattle.hurfaith.specs.Exported.{routed}

-- every number fits sixteen bits
pub record Small (r : Neighbours) : Type 0 where
  pub from_first : get_or (listed r.from) 0 0 < 65536
  pub from_second : get_or (listed r.from) 1 0 < 65536
  pub to_first : get_or (listed r.to) 0 0 < 65536
  pub to_second : get_or (listed r.to) 1 0 < 65536

neighbours-small : (N own : ℕ) → IfOk (neighbours_of N own) Small
unfolding neighbours_of
neighbours-small N own = by (in_range N && ltb own N) refl
  where
    by : (b : Bool) → (in_range N && ltb own N) ≡ b
        → IfOk (cond b (Ok (record { from = at_most_two (from N own); to = at_most_two (to N own) })) (Err OutOfRange)) Small
    by true e =
        let below = ltb-true own N (and_right (in_range N) (ltb own N) e) in
        let high = leb-true N 65535 (and_right (leb 1 N) (leb N 65535) (and_left (in_range N) (ltb own N) e)) in
        let f = from-few N own below in
        let t = to-few N own below in
        let l = first-two-of (from N own) f.two in
        let k = first-two-of (to N own) t.two in
        record { from_first = rw l (omega arith); from_second = rw l (omega arith); to_first = rw k (omega arith); to_second = rw k (omega arith) }
    by false e = tt

module _ (N own : ℕ) {r : Neighbours} (e : Ok r ≡ neighbours_of N own) where
  pub small : Small r
  small = subst (λ (x : Result Neighbours Refusal). IfOk x Small) (sym e) (neighbours-small N own)

-- the branches
pub route-refused : (N own : ℕ) (l : List ℕ) {why : Refusal} (answer : Result ⊤ Refusal) → IsErrAnd answer (λ x. x ≡ why) → Err why ≡ neighbours_of N own
    → record { answer = number_in answer; neighbours = l } ≡ routed N own l
unfolding routed
route-refused N own l (Ok x) h e = absurd h
route-refused N own l (Err x) h e = rw (h, ← e)

module _ (N own : ℕ) (l : List ℕ) {r : Neighbours} (e : Ok r ≡ neighbours_of N own) where
  pub route-no-room : length l < 4 → record { answer = 5; neighbours = l } ≡ routed N own l
  unfolding routed
  route-no-room k = rw (← e, lt-leb 4 (length l) k)

  pub route-found : 4 ≤ length l → {a b c d : ℕ} {after : List ℕ} → a ≡ number_at r.from 0 → b ≡ number_at r.from 1 → c
      ≡ number_at r.to 0 → d ≡ number_at r.to 1
      → after ≡ a ∷ b ∷ c ∷ d ∷ drop 4 l → record { answer = 0; neighbours = after } ≡ routed N own l
  unfolding routed
  route-found k p q s t f = rw (← e, le-leb 4 (length l) k, ← p, ← q, ← s, ← t, f)
