-- Laws of the searches of a list: whether an element passes a test, and the list cut at the first or the last that does.
use mathlib.Core.Path.{◌≡◌, refl, ◌∙◌, ap}
use mathlib.Core.Logic.{⊎_elim}
use mathlib.Core.Bool.{Bool, true, false, cond, ◌||◌, true≢false, false≢true}
use mathlib.Core.List.Memᴰ
use mathlib.Core.List.Sublistᴰ.{slnil as neither}
use mathlib.Core.List.{List, [], ◌∷◌, ◌++◌, Sublistᴰ}
use mathlib.Core.List.Memᴰ.{head as member-first}
use mathlib.Core.List.Memᴰ.{tail as member-later}
use mathlib.Core.List.Sublistᴰ
use mathlib.Core.List.Sublistᴰ.{cons as leave}
use mathlib.Core.List.Sublistᴰ.{cons-cons as keep}
use Rattle.lists.specs.Lists.{◌∈◌, any, without_first, before_first, from_first, before_last, from_last, tail_of}

module _ {A : Type 0} (f : A → Bool) where
  pub none_passes : (xs : List A) → any f xs ≡ false → (x : A) → x ∈ xs → f x ≡ false
  unfolding any
  none_passes [] h x m = absurd (Memᴰ.not-nil m)
  none_passes (y ∷ ys) h x m =
      ⊎_elim (λ (e : x ≡ y). ap f e ∙ first (f y) h) (λ n. none_passes ys (rest (f y) h) x n) (Memᴰ.cases_cons m)
    where
      first : (t : Bool) → (t || any f ys) ≡ false → t ≡ false
      first true k = k
      first false k = refl

      rest : (t : Bool) → (t || any f ys) ≡ false → any f ys ≡ false
      rest true k = absurd (true≢false k)
      rest false k = k

  pub without-part : (xs : List A) → Sublistᴰ (without_first f xs) xs
  unfolding without_first
  without-part [] = neither
  without-part (x ∷ xs) = by-case (f x) (without-part xs)
    where
      by-case : (t : Bool) → Sublistᴰ (without_first f xs) xs → Sublistᴰ (cond t xs (x ∷ without_first f xs)) (x ∷ xs)
      by-case true p = leave (Sublistᴰ.refl xs)
      by-case false p = keep refl p

  pub around-last : (xs : List A) → any f xs ≡ true → before_last f xs ++ from_last f xs ≡ xs
  unfolding any before_last from_last
  around-last [] h = refl
  around-last (x ∷ xs) h = by-case (any f xs) (f x) (around-last xs) h
    where
      by-case : (t u : Bool) → (t ≡ true → before_last f xs ++ from_last f xs ≡ xs) → (u || t) ≡ true
          → cond t (x ∷ before_last f xs) [] ++ cond t (from_last f xs) (cond u (x ∷ xs) []) ≡ x ∷ xs
      by-case true u p k = ap (λ l. x ∷ l) (p refl)
      by-case false true p k = refl
      by-case false false p k = absurd (false≢true k)

-- a list cut at the first element that passes
module _ {A : Type 0} (f : A → Bool) where
  pub cut-first : (xs : List A) → before_first f xs ++ from_first f xs ≡ xs
  unfolding before_first from_first
  cut-first [] = refl
  cut-first (x ∷ xs) = by-case (f x) (cut-first xs)
    where
      by-case : (t : Bool) → before_first f xs ++ from_first f xs ≡ xs → cond t [] (x ∷ before_first f xs) ++ cond t (x ∷ xs) (from_first f xs) ≡ x ∷ xs
      by-case true p = refl
      by-case false p = ap (λ l. x ∷ l) p

  pub before-fails : (xs : List A) (y : A) → y ∈ before_first f xs → f y ≡ false
  unfolding before_first
  before-fails [] y n = absurd (Memᴰ.not-nil n)
  before-fails (x ∷ xs) y n = by-case (f x) refl (before-fails xs y) n
    where
      by-case : (t : Bool) → f x ≡ t → (y ∈ before_first f xs → f y ≡ false) → y ∈ cond t [] (x ∷ before_first f xs) → f y ≡ false
      by-case true h rest n = absurd (Memᴰ.not-nil n)
      by-case false h rest n = ⊎_elim (λ (p : y ≡ x). ap f p ∙ h) rest (Memᴰ.cases_cons n)

  pub before-member : (xs : List A) (y : A) → y ∈ before_first f xs → y ∈ xs
  unfolding before_first
  before-member [] y n = n
  before-member (x ∷ xs) y n = by-case (f x) (before-member xs y) n
    where
      by-case : (t : Bool) → (y ∈ before_first f xs → y ∈ xs) → y ∈ cond t [] (x ∷ before_first f xs) → y ∈ x ∷ xs
      by-case true rest n = absurd (Memᴰ.not-nil n)
      by-case false rest n = ⊎_elim (λ (p : y ≡ x). member-first p) (λ (m : y ∈ before_first f xs). member-later (rest m)) (Memᴰ.cases_cons n)

  module _ (x : A) (xs : List A) where
    pub before-stop : f x ≡ true → before_first f (x ∷ xs) ≡ []
    unfolding before_first
    before-stop p = rw p

    pub before-go : f x ≡ false → before_first f (x ∷ xs) ≡ x ∷ before_first f xs
    unfolding before_first
    before-go p = rw p

    pub from-stop : f x ≡ true → from_first f (x ∷ xs) ≡ x ∷ xs
    unfolding from_first
    from-stop p = rw p

    pub from-go : f x ≡ false → from_first f (x ∷ xs) ≡ from_first f xs
    unfolding from_first
    from-go p = rw p

pub part-tail : {A : Type 0} (xs : List A) → Sublistᴰ (tail_of xs) xs
part-tail [] = neither
part-tail (x ∷ xs) = leave (Sublistᴰ.refl xs)

pub part-behind : {A : Type 0} (us : List A) {vs ws : List A} → Sublistᴰ vs ws → Sublistᴰ (us ++ vs) (us ++ ws)
part-behind [] p = p
part-behind (u ∷ us) p = keep refl (part-behind us p)
