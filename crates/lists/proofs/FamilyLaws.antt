-- Laws of families: a changed place and the others, and sums.
use mathlib.Core.Bool.{Bool, true, false}
use mathlib.Core.Path.{◌≡◌, refl, ap, subst}
use mathlib.Core.Logic.{◌≢◌}
use Prim.Native.Nat.{ℕ, zero, suc, ◌+◌, ◌*◌, ◌≤◌, ◌<◌}
use native.Mathlib.Omega.{arith}
use lib.Dec.{T, eqb, eqb→eq, eqb_refl}
use mathlib.Core.List.{List}
use Rattle.lists.specs.Lists.{All, nil}
use Rattle.lists.specs.Families.{change, put, sum, together}
use Rattle.lists.proofs.ListLaws.{all_append}

-- two numbers are the same or not, with what the test says
pub data Same (i k : ℕ) : Type 0 where
  same : i ≡ k → eqb i k ≡ true → Same i k
  other : i ≢ k → eqb i k ≡ false → Same i k

pub same? : (i k : ℕ) → Same i k
same? i k = go (eqb i k) refl
  where
    go : (b : Bool) → eqb i k ≡ b → Same i k
    go true e = same (eqb→eq i k (rw e tt)) e
    go false e = other (λ p. subst T e (subst (λ x. T (eqb i x)) p (eqb_refl i))) e

-- the place that is changed, or another
pub data Changed {A : Type 0} (i : ℕ) (v : A) (f : ℕ → A) (k : ℕ) : Type 0 where
  at : i ≡ k → change i v f k ≡ v → Changed i v f k
  off : i ≢ k → change i v f k ≡ f k → Changed i v f k

pub change? : {A : Type 0} (i : ℕ) (v : A) (f : ℕ → A) (k : ℕ) → Changed i v f k
unfolding change
change? i v f k = go (same? i k)
  where
    go : Same i k → Changed i v f k
    go (same p e) = at p (rw e)
    go (other n e) = off n (rw e)

pub change-at : {A : Type 0} (i : ℕ) (v : A) (f : ℕ → A) (k : ℕ) → i ≡ k → change i v f k ≡ v
change-at i v f k p = go (change? i v f k)
  where
    go : Changed i v f k → change i v f k ≡ v
    go (at q e) = e
    go (off n e) = absurd (n p)

pub change-off : {A : Type 0} (i : ℕ) (v : A) (f : ℕ → A) (k : ℕ) → i ≢ k → change i v f k ≡ f k
change-off i v f k m = go (change? i v f k)
  where
    go : Changed i v f k → change i v f k ≡ f k
    go (at q e) = absurd (m q)
    go (off n e) = e

-- the pair of places that is put, or another
pub data Put {A : Type 0} (i j : ℕ) (v : A) (f : ℕ → ℕ → A) (k l : ℕ) : Type 0 where
  at : i ≡ k → j ≡ l → put i j v f k l ≡ v → Put i j v f k l
  off : (i ≡ k → j ≢ l) → put i j v f k l ≡ f k l → Put i j v f k l

pub put? : {A : Type 0} (i j : ℕ) (v : A) (f : ℕ → ℕ → A) (k l : ℕ) → Put i j v f k l
unfolding put
put? i j v f k l = go (change? i (change j v (f i)) f k) (change? j v (f i) l)
  where
    go : Changed i (change j v (f i)) f k → Changed j v (f i) l → Put i j v f k l
    go (at p e) (at q d) = at p q (rw (e, d))
    go (at p e) (off n d) = off (λ p'. n) (rw (e, d, p))
    go (off n e) (at q d) = off (λ p. absurd (n p)) (rw e)
    go (off n e) (off m d) = off (λ p. absurd (n p)) (rw e)

-- a property of each place holds after one is changed
pub change-each : {A : Type 0} (p : ℕ → A → Type 0) (i : ℕ) (v : A) (f : ℕ → A) → p i v → ((k : ℕ) → p k (f k)) → (k : ℕ) → p k (change i v f k)
change-each p i v f h t k = go (change? i v f k)
  where
    go : Changed i v f k → p k (change i v f k)
    go (at e q) = rw q (subst (λ (j : ℕ). p j v) e h)
    go (off e q) = rw q (t k)

-- the row that is put in, or another
module _ {A : Type 0} (i j : ℕ) (v : A) (f : ℕ → ℕ → A) (k : ℕ) where
  pub row_at : i ≡ k → put i j v f k ≡ change j v (f i)
  unfolding put
  row_at p = change-at i (change j v (f i)) f k p

  pub row-off : i ≢ k → put i j v f k ≡ f k
  unfolding put
  row-off n = change-off i (change j v (f i)) f k n

module _ {A : Type 0} (i j : ℕ) (v : A) (f : ℕ → ℕ → A) (k l : ℕ) where
  pub put-at : i ≡ k → j ≡ l → put i j v f k l ≡ v
  put-at p q = go (put? i j v f k l)
    where
      go : Put i j v f k l → put i j v f k l ≡ v
      go (at p' q' e) = e
      go (off n e) = absurd (n p q)

  pub put-off : (i ≡ k → j ≢ l) → put i j v f k l ≡ f k l
  put-off m = go (put? i j v f k l)
    where
      go : Put i j v f k l → put i j v f k l ≡ f k l
      go (at p q e) = absurd (m p q)
      go (off n e) = e

-- sums of families that agree
pub sum-agree : (n : ℕ) (f g : ℕ → ℕ) → ((k : ℕ) → k < n → f k ≡ g k) → sum n f ≡ sum n g
unfolding sum
sum-agree zero f g e = refl
sum-agree (suc n) f g e = omega (arith, sum-agree n f g (λ k h. e k (omega arith)), e n (omega arith))

pub sum-at-most : (n : ℕ) (f g : ℕ → ℕ) → ((k : ℕ) → k < n → f k ≤ g k) → sum n f ≤ sum n g
unfolding sum
sum-at-most zero f g e = omega arith
sum-at-most (suc n) f g e = omega (arith, sum-at-most n f g (λ k h. e k (omega arith)), e n (omega arith))

pub sum-add : (n : ℕ) (f g : ℕ → ℕ) → sum n (λ k. f k + g k) ≡ sum n f + sum n g
unfolding sum
sum-add zero f g = refl
sum-add (suc n) f g = omega (arith, sum-add n f g)

pub sum-constant : (n c : ℕ) → sum n (λ k. c) ≡ c * n
unfolding sum
sum-constant zero c = omega arith
sum-constant (suc n) c = omega (arith, sum-constant n c)

-- the order of two sums does not matter
pub sum-swap : (m n : ℕ) (f : ℕ → ℕ → ℕ) → sum m (λ i. sum n (f i)) ≡ sum n (λ j. sum m (λ i. f i j))
unfolding sum
sum-swap zero n f = omega (arith, sum-constant n 0)
sum-swap (suc m) n f = omega (arith, sum-swap m n f, sum-add n (λ j. sum m (λ i. f i j)) (f m))

-- the sum of what w makes of each place, after one is changed
pub sum-change : {A : Type 0} (n i : ℕ) (v : A) (f : ℕ → A) (w : ℕ → A → ℕ) → i < n
    → sum n (λ k. w k (change i v f k)) + w i (f i) ≡ sum n (λ k. w k (f k)) + w i v
unfolding sum
sum-change zero i v f w h = absurd (omega arith)
sum-change (suc n) i v f w h = go (change? i v f n) (λ l. sum-change n i v f w l)
  where
    before : (k : ℕ) → ℕ
    before k = w k (f k)

    after : (k : ℕ) → ℕ
    after k = w k (change i v f k)

    go : Changed i v f n → (i < n → sum n after + before i ≡ sum n before + w i v)
        → sum n after + after n + before i ≡ sum n before + before n + w i v
    go (at p e) ih =
        omega (
          arith,
          sum-agree n after before (λ k l. ap (w k) (change-off i v f k (omega arith))),
          ap (w n) e,
          ap before p,
          ap (λ k. w k v) p,
        )
    go (off m e) ih = omega (arith, ih (omega arith), ap (w n) e)

-- what all elements of all lists of a family have, those of the lists together have
pub together-all : {A : Type 0} {p : A → Type 0} (n : ℕ) (f : ℕ → List A) → ((i : ℕ) → i < n → All p (f i)) → All p (together n f)
unfolding together
together-all zero f h = nil
together-all (suc n) f h = all_append (together-all n f (λ i d. h i (omega arith))) (h n (omega arith))
