-- The round at a gateway after each of its steps: phase and arrivals are possible, and the note fits its field.
use mathlib.Core.Path.{◌≡◌, refl, ap}
use mathlib.Core.Bool.{Bool, true, false, cond, not, ◌&&◌, ◌||◌, true≢false, false≢true}
use mathlib.Core.List.{List, [], ◌∷◌}
use Prim.Native.Nat.{ℕ, zero, suc, ◌+◌, ◌*◌, ◌≤◌, ◌<◌, min}
use native.Mathlib.Omega.{arith}
use lib.Dec.{leb, eqb}
use lib.ListN.{length}
use borrow.Author.Tests.{leb-true, eqb-true, eqb-false, not-true, le-leb}
use Rattle.routing.proofs.FewArcs.{from-few, to-few}
use Rattle.routing.specs.Arcs.{from, to}
use Rattle.routing.proofs.Theorems.{laws}
use Rattle.frame.specs.Limits.{nothing_due}
use Rattle.memory.specs.Records.{Gateway}
use Rattle.memory.specs.Validity.{one_of_two, arrivals_possible, round_possible}
use Rattle.memory.specs.declared.Sent.{Sent}
use Rattle.memory.specs.declared.Phase.{Phase}
use Rattle.memory.specs.declared.Phase.TheVariants.{Idle, Counting, Stopped}
use Rattle.lists.proofs.BoolLaws.{and_left, and_right, and_both}
use Rattle.gateway.specs.Rounds.{least_outstanding, idle, value_at, finished, begun, is_idle, bit_of, all_bits, stands, awaited, one_start, value_in, one_lvt}
use Rattle.gateway.proofs.Maintaining.{Standing, with-round, with-agreed, either-stands}

-- what has arrived along so many arcs while more is awaited: nothing, or one of two
data Arrived (arcs arrived : ℕ) : Type 0 where
  nothing : arrived ≡ 0 → Arrived arcs arrived
  one_of_two_lem : arcs ≡ 2 → 1 ≤ arrived → arrived ≤ 2 → Arrived arcs arrived

one-of-two-is : {arcs arrived : ℕ} → eqb arcs 2 ≡ true → one_of_two arrived ≡ true → Arrived arcs arrived
one-of-two-is {arcs} {arrived} h k =
    one_of_two_lem (eqb-true arcs 2 h) (leb-true 1 arrived (and_left (leb 1 arrived) (leb arrived 2) k)) (leb-true arrived 2 (and_right (leb 1
    arrived) (leb arrived 2) k))

arrived-idle : (arrived froms tos : ℕ) (phase : Phase) → is_idle phase ≡ true → arrivals_possible arrived froms tos phase ≡ true → Arrived froms arrived
arrived-idle arrived froms tos Idle h = by-case (eqb arrived 0) refl
  where
    by-case : (b : Bool) → eqb arrived 0 ≡ b → (b || (eqb froms 2 && one_of_two arrived)) ≡ true → Arrived froms arrived
    by-case true e k = nothing (eqb-true arrived 0 e)
    by-case false e k = one-of-two-is (and_left (eqb froms 2) (one_of_two arrived) k) (and_right (eqb froms 2) (one_of_two arrived) k)
arrived-idle arrived froms tos Counting h = absurd (false≢true h)
arrived-idle arrived froms tos Stopped h = absurd (false≢true h)

arrived-open : (arrived froms tos : ℕ) (phase : Phase) → is_idle phase ≡ false → arrivals_possible arrived froms tos phase ≡ true → Arrived tos arrived
arrived-open arrived froms tos Idle h k = absurd (true≢false h)
arrived-open arrived froms tos Counting h k = nothing (eqb-true arrived 0 (and_left (eqb arrived 0) (leb 1 tos) k))
arrived-open arrived froms tos Stopped h k = one-of-two-is (and_left (eqb tos 2) (one_of_two arrived) k) (and_right (eqb tos 2) (one_of_two arrived) k)

-- one more arrival, and not all: then it is one of two
of_two : (bit arrived : ℕ) → 1 ≤ bit → bit ≤ 2 → arrived ≤ 2 → stands bit arrived ≡ false → eqb (arrived + bit) 3 ≡ false → one_of_two (arrived + bit) ≡ true
of_two zero arrived h i j k l = absurd (omega arith)
of_two (suc zero) zero h i j k l = refl
of_two (suc zero) (suc zero) h i j k l = absurd (true≢false k)
of_two (suc zero) (suc (suc zero)) h i j k l = absurd (true≢false l)
of_two (suc zero) (suc (suc (suc n))) h i j k l = absurd (omega arith)
of_two (suc (suc zero)) zero h i j k l = refl
of_two (suc (suc zero)) (suc zero) h i j k l = absurd (true≢false l)
of_two (suc (suc zero)) (suc (suc zero)) h i j k l = absurd (true≢false k)
of_two (suc (suc zero)) (suc (suc (suc n))) h i j k l = absurd (omega arith)
of_two (suc (suc (suc n))) arrived h i j k l = absurd (omega arith)

record OneOfTwo (arcs arrived : ℕ) : Type 0 where
  two : eqb arcs 2 ≡ true
  one : one_of_two arrived ≡ true

one_more : (k : ℕ) (l : List ℕ) (arrived : ℕ) → length l ≤ 2 → Arrived (length l) arrived → awaited k l arrived ≡ true → eqb (arrived +
    bit_of k l) (all_bits l) ≡ false
    → OneOfTwo (length l) (arrived + bit_of k l)
unfolding bit_of all_bits
one_more k [] arrived few a h e = absurd (false≢true h)
one_more k (x ∷ []) arrived few a h e = by-case (eqb k x) h e
  where
    none_yet : Arrived 1 arrived → arrived ≡ 0
    none_yet (nothing p) = p
    none_yet (one_of_two_lem p q r) = absurd (omega arith)

    by-case : (b : Bool) → (leb 1 (cond b 1 0) && not (stands (cond b 1 0) arrived)) ≡ true → eqb (arrived + cond b 1 0) 1 ≡ false →
        OneOfTwo 1 (arrived + cond b 1 0)
    by-case true h e = absurd (eqb-false (arrived + 1) 1 e (ap (λ (n : ℕ). n + 1) (none_yet a)))
    by-case false h e = absurd (false≢true h)
one_more k (x ∷ y ∷ []) arrived few a h e = by-case (eqb k x) (eqb k y) h e
  where
    most : Arrived 2 arrived → arrived ≤ 2
    most (nothing p) = omega arith
    most (one_of_two_lem p q r) = r

    by-case : (b c : Bool) → (leb 1 (cond b 1 (2 * cond c 1 0)) && not (stands (cond b 1 (2 * cond c 1 0)) arrived)) ≡ true → eqb (arrived +
        cond b 1 (2 * cond c 1 0)) 3 ≡ false
        → OneOfTwo 2 (arrived + cond b 1 (2 * cond c 1 0))
    by-case true c h e = record { two = refl; one = of_two 1 arrived (omega arith) (omega arith) (most a) (not-true (stands 1 arrived) h) e }
    by-case false true h e = record { two = refl; one = of_two 2 arrived (omega arith) (omega arith) (most a) (not-true (stands 2 arrived) h) e }
    by-case false false h e = absurd (false≢true h)
one_more k (x ∷ y ∷ z ∷ l) arrived few a h e = absurd (omega arith)

or_right : (a : Bool) {b : Bool} → b ≡ true → (a || b) ≡ true
or_right true h = refl
or_right false h = h

-- the least hours are at most nothing due
outstanding-most : (xs : List Sent) → least_outstanding xs ≤ nothing_due
unfolding least_outstanding
outstanding-most [] = omega arith
outstanding-most (x ∷ xs) = omega (arith, outstanding-most xs)

-- the gateways that it hears from, and those that it tells
abbrev heard_by : Gateway → List ℕ
heard_by g = from g.settings.n g.settings.own

abbrev told_by : Gateway → List ℕ
told_by g = to g.settings.n g.settings.own

-- the steps of a round
module _ {g : Gateway} (k : Standing g.settings g) where
  few-heard : length (heard_by g) ≤ 2
  few-heard = (from-few g.settings.n g.settings.own k.settings.own).two

  few-told : length (told_by g) ≤ 2
  few-told = (to-few g.settings.n g.settings.own k.settings.own).two

  -- only the last gateway tells none
  some-told : eqb (g.settings.own + 1) g.settings.n ≡ false → 1 ≤ length (told_by g)
  some-told h = by-case (told_by g) refl
    where
      by-case : (l : List ℕ) → told_by g ≡ l → 1 ≤ length l
      by-case [] e = absurd (eqb-false (g.settings.own + 1) g.settings.n h (((laws g.settings.n k.settings.some).last
          g.settings.own k.settings.own).0 e))
      by-case (x ∷ l) e = omega arith

  pub finished-stands : (value : ℕ) → value < 4294967296 → Standing g.settings (finished value g).gateway
  unfolding finished round_possible
  finished-stands value h =
      let closed = with-round k idle refl (omega arith) in
      either-stands (eqb g.settings.own 0) _ _ (λ e. with-agreed closed value h) (λ e. closed)

  pub begun-stands : Standing g.settings (begun g).gateway
  unfolding begun round_possible
  begun-stands =
      let note = least_outstanding g.outstanding in
      let few : note < 4294967296 = omega (arith, outstanding-most g.outstanding) in
      either-stands (eqb (g.settings.own + 1) g.settings.n) _ _
      (λ e. finished-stands (value_at note g) (omega arith))
      (λ e. with-round k _ (le-leb 1 (length (told_by g)) (some-told e)) few)

  -- taking a Start
  pub start-stands : (sender : ℕ) → is_idle g.round.phase ≡ true → awaited sender (heard_by g) g.round.arrived ≡ true
      → Standing g.settings (one_start (all_bits (heard_by g)) (g.round.arrived + bit_of sender (heard_by g)) g).gateway
  unfolding one_start round_possible
  start-stands sender h w =
      let arrived = g.round.arrived + bit_of sender (heard_by g) in
      either-stands (eqb arrived (all_bits (heard_by g))) _ _
      (λ e. begun-stands)
      (λ e.
      let o = one_more sender (heard_by g) g.round.arrived few-heard (arrived-idle g.round.arrived (length (heard_by g)) (length
      (told_by g)) g.round.phase h k.round) w e in
      with-round k _ (or_right (eqb arrived 0) (and_both (eqb (length (heard_by g)) 2) (one_of_two arrived) o.two o.one)) k.note)

  -- taking an Lvt
  value-most : (phase : Phase) → value_in phase g < 4294967296
  value-most Idle = omega arith
  value-most Counting = omega (arith, k.note)
  value-most Stopped = k.note

  pub lvt-stands : (sender hour : ℕ) → is_idle g.round.phase ≡ false → awaited sender (told_by g) g.round.arrived ≡ true
      → Standing g.settings (one_lvt (all_bits (told_by g)) (g.round.arrived + bit_of sender (told_by g)) (min (value_in g.round.phase g) hour) g).gateway
  unfolding one_lvt round_possible
  lvt-stands sender hour h w =
      let arrived = g.round.arrived + bit_of sender (told_by g) in
      let few : min (value_in g.round.phase g) hour < 4294967296 = omega (arith, value-most g.round.phase) in
      either-stands (eqb arrived (all_bits (told_by g))) _ _
      (λ e. finished-stands _ few)
      (λ e.
      let o = one_more sender (told_by g) g.round.arrived few-told (arrived-open g.round.arrived (length (heard_by g)) (length (told_by
      g)) g.round.phase h k.round) w e in
      with-round k _ (and_both (eqb (length (told_by g)) 2) (one_of_two arrived) o.two o.one) few)
