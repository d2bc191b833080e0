-- The branches of the code as those of Figure 2.
use mathlib.Core.Path.{◌≡◌, sym, ap, subst, ◌∙◌}
use mathlib.Core.Logic.{◌⊎◌, inl, inr}
use mathlib.Core.Bool.{true, false, and-false}
use mathlib.Core.List.{List}
use borrow.Author.Tests.{le-leb, lt-leb, lt-ltb, le-ltb}
use Prim.Native.Nat.{ℕ, ◌+◌, ◌*◌, ◌-◌, ◌/◌, ◌^◌, ◌≤◌, ◌<◌}
use native.Mathlib.Omega.{arith}
use Rattle.std.specs.Prelude.{Bool, Ok, Err}
use Rattle.refusal.specs.declared.Refusal.TheVariants.{OutOfRange}
use Rattle.routing.specs.declared.Totals.{Totals}
use Rattle.routing.specs.AtMostTwo.{listed, at_most_two}
use Rattle.routing.specs.declared.at_most_two.AtMostTwo.{AtMostTwo}
use Rattle.routing.specs.declared.at_most_two.AtMostTwo.TheVariants.{None, One, Two}
use Rattle.routing.specs.Figure2.{Row}
use Rattle.routing.specs.Arcs.{from, to, shared, mid0, mid1, arc_count, round_messages}
use Rattle.routing.specs.Answers.{in_range, neighbours_of, totals_of}
use Rattle.routing.proofs.Shape.{From, To}
use Rattle.routing.proofs.Reading.{RowIs, mids, middles-are, from_is, to_is}
use Rattle.routing.proofs.Theorems.{count-is, round_is}

pub from-answer : {n own a b : ℕ} {l : List ℕ} → a ≡ mid0 n → b ≡ mid1 n → own < n → From n a b own l → l ≡ from n own
from-answer {n} {own} p q h g = sym (from_is n own h (rw (← p, ← q) g))

pub to-answer : {n own a b : ℕ} {l : List ℕ} → a ≡ mid0 n → b ≡ mid1 n → own < n → To n a b own l → l ≡ to n own
to-answer {n} {own} p q h g = sym (to_is n own h (rw (← p, ← q) g))

-- where the code's loop stops
pub record Widened (n pen0 : ℕ) : Type 0 where
  pub k : ℕ
  pub power : pen0 + 1 ≡ 2 * 2 ^ k
  pub reached : 2 ^ k ≤ (n - 1) / 2 + 1

-- what is kept of the row
pub record Row-of (n A B : ℕ) (s : Bool) : Type 0 where
  pub figure : (s ≡ shared n) × (A ≡ mid0 n) × (B ≡ mid1 n)
  pub below : (A < n) × (B < n)

pub mids-answer : {n pen0 A B : ℕ} {r : Row} → 1 ≤ n → (w : Widened n pen0) → (n - 1) / 2 + 1 ≤ pen0 → RowIs n (pen0 / 2 + 1) A B r
    → Row-of n A B r.shared
mids-answer {n} {pen0} {A} {B} {r} h w e g =
    let p : pen0 / 2 + 1 ≡ 2 ^ w.k = omega (arith, w.power) in
    let are = middles-are n w.k h (record { low = omega (arith, w.reached); high = omega (arith, w.power) }) (subst (λ (P : ℕ). RowIs n P A B r) p g) in
    let s = (mids n 0 h).split in
    record { figure = are; below = (omega (arith, are, s), omega (arith, are, s)) }

-- N within its range, and beyond it
in-range : (n : ℕ) → 1 ≤ n → n ≤ 65535 → in_range n ≡ true
in-range n low high = rw (le-leb 1 n low, le-leb n 65535 high)

too_many : (n : ℕ) → 65535 < n → in_range n ≡ false
too_many n h = rw (le-leb 1 n (omega arith), lt-leb n 65535 h)

-- routing's answers by their values
pub first-two : {a : AtMostTwo ℕ} {l : List ℕ} → listed a ≡ l → a ≡ at_most_two l
first-two {a = None} e = ap at_most_two e
first-two {a = One x} e = ap at_most_two e
first-two {a = Two x y} e = ap at_most_two e

module _ (n own : ℕ) where
  pub out-of-range : ((65535 < n) ⊎ ((n ≤ 65535) × (n ≤ own))) → Err OutOfRange ≡ neighbours_of n own
  unfolding neighbours_of
  out-of-range (inl h) = rw (too_many n h)
  out-of-range (inr h) = rw (le-ltb own n h.1, and-false (in_range n))

  pub good : {f t : AtMostTwo ℕ} {k : ℕ} → n ≤ 65535 → own < n → k ≡ n → listed f ≡ from k own → listed t ≡ to k own
      → Ok (record { from = f; to = t }) ≡ neighbours_of n own
  unfolding neighbours_of
  good h l e f t = rw (in-range n (omega arith) h, lt-ltb own n l, ← e, first-two f, first-two t)

pub no-totals : (n : ℕ) → ((n < 1) ⊎ ((1 ≤ n) × (65535 < n))) → Err OutOfRange ≡ totals_of n
unfolding totals_of
no-totals n (inl h) = rw (lt-leb 1 n h)
no-totals n (inr h) = rw (too_many n h.1)

pub totals-found : (n : ℕ) {k : ℕ} {t : Totals} → 1 ≤ n → n ≤ 65535 → k ≡ n → (t.arcs ≡ arc_count k) × (t.messages ≡ round_messages k) → Ok t ≡ totals_of n
unfolding totals_of
totals-found n h l e (a, b) =
    rw (in-range n h l) (λ i. Ok (record { arcs = (a ∙ ap arc_count e) i; messages = (b ∙ ap round_messages e) i }))

pub counted : (n : ℕ) {m : ℕ} → 1 ≤ n → m ≡ mid0 n → (n - 1 + m / 2 ≡ arc_count n) × (2 * (n - 1 + m / 2) + n - 1 ≡ round_messages n)
counted n h e = (omega (arith, count-is n h), omega (arith, count-is n h, round_is n h))
