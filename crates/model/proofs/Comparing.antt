-- Laws of comparing lists of numbers.
use mathlib.Core.Path.{◌≡◌, refl, sym, ◌∙◌, ap}
use mathlib.Core.Bool.{true, false, false≢true}
use Prim.Native.Nat.{ℕ, ◌<◌}
use native.Mathlib.Omega.{arith}
use mathlib.Core.List.{List, [], ◌∷◌, ◌++◌}
use lib.ListN.{length}
use borrow.Author.Tests.{lt-ltb, le-ltb, eq-eqb}
use Rattle.std.specs.declared.cmp.Ordering.{Ordering}
use Rattle.std.specs.declared.cmp.Ordering.TheVariants.{Less, Equal, Greater}
use Rattle.std.specs.Ordering.{MatchOrdering, ordering_then, is_ne, nat_cmp}
use Rattle.model.specs.EventOrder.{compared}

module _ (x y : ℕ) where
  pub less : x < y → nat_cmp x y ≡ Less
  less h = rw (lt-ltb x y h)

  pub same-number : x ≡ y → nat_cmp x y ≡ Equal
  same-number e = rw (le-ltb x y (omega arith), eq-eqb x y e)

pub then_assoc : (a b c : Ordering) → ordering_then a (ordering_then b c) ≡ ordering_then (ordering_then a b) c
then_assoc Less b c = refl
then_assoc Equal b c = refl
then_assoc Greater b c = refl

pub then-equal : (a : Ordering) → ordering_then a Equal ≡ a
then-equal Less = refl
then-equal Equal = refl
then-equal Greater = refl

-- lists of one length, and then what follows them
pub compared-append : (xs ys us vs : List ℕ) → length xs ≡ length ys → compared (xs ++ us) (ys ++ vs) ≡ ordering_then (compared xs ys) (compared us vs)
unfolding compared
compared-append [] [] us vs e = refl
compared-append [] (y ∷ ys) us vs e = absurd (let z : ⊥ = omega arith in z)
compared-append (x ∷ xs) [] us vs e = absurd (let z : ⊥ = omega arith in z)
compared-append (x ∷ xs) (y ∷ ys) us vs e =
    ap (ordering_then (nat_cmp x y)) (compared-append xs ys us vs (omega arith))
    ∙ then_assoc (nat_cmp x y) (compared xs ys) (compared us vs)

-- what `then_with` promises, where the call that it may make answers x
pub then-with : (first r x : Ordering) {P : Type 0} → (P → r ≡ x) → MatchOrdering first (r ≡ Less) P (r ≡ Greater) → r ≡ ordering_then first x
then-with Less r x f p = p
then-with Equal r x f p = f p
then-with Greater r x f p = p

-- a comparison that finds a difference decides, one that finds none does not
pub then-decided : (c r : Ordering) → is_ne c ≡ true → ordering_then c r ≡ c
then-decided Less r h = refl
then-decided Equal r h = absurd (false≢true h)
then-decided Greater r h = refl

pub then-open : (c r : Ordering) → is_ne c ≡ false → ordering_then c r ≡ r
then-open Less r h = absurd (false≢true (sym h))
then-open Equal r h = refl
then-open Greater r h = absurd (false≢true (sym h))
