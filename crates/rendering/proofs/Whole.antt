-- The whole listing, and what is answered with it.
use mathlib.Core.Path.{◌≡◌, refl, sym, ◌∙◌, ap, subst}
use mathlib.Core.List.{List, [], ◌∷◌, ◌++◌}
use Prim.Native.Nat.{ℕ, zero, suc, ◌+◌, ◌≤◌, ◌<◌}
use native.Mathlib.Omega.{arith}
use native.Mathlib.Decide.{dec_le}
use lib.ListN.{length, set, length-append, length-set}
use borrow.Author.Tests.{le-leb, lt-leb}
use Rattle.lists.specs.Lists.{joined}
use Rattle.buffer.specs.Slice.{write}
use Rattle.routing.specs.declared.Totals.{Totals}
use Rattle.routing.specs.Arcs.{arcs, arc_count, round_messages}
use Rattle.std.specs.Prelude.{Result, Ok, Err, IfOk}
use Rattle.refusal.specs.declared.Refusal.{Refusal}
use Rattle.refusal.specs.declared.Refusal.TheVariants.{NoRoom}
use Rattle.listing.specs.Output.{first_line, listing, number_in, printed, RenderResult, rendered, rendering, arc_line}
use Rattle.listing.proofs.Theorems.{laws}
use Rattle.buffer.proofs.Putting.{puts-byte, puts-more}

-- the two answers
module _ (bytes m : List ℕ) where
  pub put_whole : {L : ℕ} {now : List ℕ} → length bytes ≤ length m → L ≡ length bytes → now ≡ write 0 bytes m
      → record { answer = Ok L; out = now } ≡ rendered bytes m
  unfolding rendered
  put_whole h e w = rw (le-leb (length bytes) (length m) h) (λ i. record { answer = Ok (e i); out = w i })

  pub too_short : length m < length bytes → record { answer = Err NoRoom; out = m } ≡ rendered bytes m
  unfolding rendered
  too_short h = rw (lt-leb (length bytes) (length m) h)

-- 8 alone
pub refusal-put : (m : List ℕ) → 2 ≤ length m → record { answer = Ok 2; out = set (set m 0 56) 1 10 } ≡ rendered (listing 0) m
unfolding listing
refusal-put m h =
    put_whole (56 ∷ 10 ∷ []) m h refl
    (puts-more {xs = 56 ∷ []} (omega arith) (puts-byte 0 56 m (omega arith)) (puts-byte 1 10 (set m 0 56) (rw (length-set m 0 56) h))).output

pub refusal-short : (m : List ℕ) → length m < 2 → record { answer = Err NoRoom; out = m } ≡ rendered (listing 0) m
unfolding listing
refusal-short m h = too_short (56 ∷ 10 ∷ []) m h

-- the listing of a number from 1
pub listing-is : (n : ℕ) → 1 ≤ n → listing n ≡ first_line n (arc_count n) (round_messages n) ++ joined arc_line (arcs n)
unfolding listing
listing-is zero h = absurd (omega arith)
listing-is (suc n) h = refl

module _ (n : ℕ) (low : 1 ≤ n) {k : ℕ} (same : k ≡ n) {t : Totals} (e : (t.arcs ≡ arc_count k) × (t.messages ≡ round_messages k)) where
  pub listing-of : {j : ℕ} → j ≡ n → listing n ≡ first_line j t.arcs t.messages ++ joined arc_line (arcs k)
  listing-of f = listing-is n low ∙ rw (f, e.0, e.1, same)

  pub listing-length : length (listing n) ≡ length (first_line n t.arcs t.messages) + length (joined arc_line (arcs k))
  listing-length = ap length (listing-of refl) ∙ length-append (first_line n t.arcs t.messages) (joined arc_line (arcs k))

  module _ (m : List ℕ) {L : ℕ} (long : L ≡ length (first_line n t.arcs t.messages) + length (joined arc_line (arcs k))) where
    pub listing-fits : L ≤ length m → length (first_line k t.arcs t.messages) + length (joined arc_line (arcs k)) ≤ length m
    listing-fits h = omega (arith, ap (λ (j : ℕ). length (first_line j t.arcs t.messages)) same)

    pub listing-short : length m < L → record { answer = Err NoRoom; out = m } ≡ rendered (listing n) m
    listing-short h = too_short (listing n) m (omega (arith, listing-length))

    pub listing-put : {now : List ℕ} → L ≤ length m → now ≡ write 0 (first_line k t.arcs t.messages ++ joined arc_line (arcs k)) m
        → record { answer = Ok L; out = now } ≡ rendered (listing n) m
    listing-put h w =
        put_whole (listing n) m (omega (arith, listing-length)) (omega (arith, listing-length))
        (w ∙ ap (λ (l : List ℕ). write 0 l m) (sym (listing-of same)))

-- the input's number
pub rendering-is : (input m : List ℕ) {n : ℕ} → n ≡ number_in input → rendered (listing n) m ≡ rendering input m
unfolding rendering printed
rendering-is input m e = ap (λ (n : ℕ). rendered (listing n) m) e

-- the output afterwards
module _ (input m : List ℕ) {r : Result ℕ Refusal} {now : List ℕ} (e : record { answer = r; out = now } ≡ rendering input m) where
  pub put-out : now ≡ (rendering input m).out
  put-out = ap (λ (s : RenderResult). s.out) e

  -- what was put is within the output
  put-within' : IfOk (rendering input m).answer (λ put. put ≤ length m)
  unfolding rendering rendered
  put-within' = go (dec_le (length (printed input)) (length m))
    where
      go : Dec (length (printed input) ≤ length m) → IfOk (rendered (printed input) m).answer (λ put. put ≤ length m)
      go (yes h) = rw (le-leb (length (printed input)) (length m) h) h
      go (no h) = rw (lt-leb (length (printed input)) (length m) (omega arith)) tt

  pub put-within : {put : ℕ} → r ≡ Ok put → put ≤ length m
  put-within f = subst (λ (x : Result ℕ Refusal). IfOk x (λ put. put ≤ length m)) (sym (ap (λ (s : RenderResult). s.answer) e) ∙ f) put-within'

-- 1,100,000 bytes hold every listing
pub whole-listing : (input m : List ℕ) → length m ≡ 1100000 → (rendering input m).out ≡ write 0 (printed input) m
unfolding rendering rendered
whole-listing input m h = rw (le-leb (length (printed input)) (length m) (omega (arith, laws.held input)))
