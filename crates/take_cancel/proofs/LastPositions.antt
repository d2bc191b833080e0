-- Laws of the last element that passes a test, by the place behind it.
use mathlib.Core.Path.{◌≡◌, refl, sym, ◌∙◌, ap}
use mathlib.Core.Bool.{Bool, true, false, cond, ◌||◌, true≢false, false≢true}
use mathlib.Core.List.{List, [], ◌∷◌}
use Prim.Native.Nat.{ℕ, zero, suc, ◌-◌, ◌≤◌, ◌<◌}
use native.Mathlib.Omega.{arith}
use lib.ListN.{length, take, drop}
use Rattle.lists.specs.Inside.Positions.{past_last}
use Rattle.lists.specs.Lists.{any, before_last, from_last, tail_of}

-- what stands behind the first of what is left
pub tail-drop : {A : Type 0} (k : ℕ) (xs : List A) → tail_of (drop k xs) ≡ drop (suc k) xs
tail-drop zero [] = refl
tail-drop zero (x ∷ xs) = refl
tail-drop (suc k) [] = refl
tail-drop (suc k) (x ∷ xs) = tail-drop k xs

module _ {A : Type 0} (f : A → Bool) where
  -- it is a place of the list, and not 0 exactly if some element passes
  pub past_bound : (xs : List A) → past_last f xs ≤ length xs
  unfolding past_last any
  past_bound [] = omega arith
  past_bound (x ∷ xs) = by (any f xs) (f x) (past_bound xs)
    where
      by : (a b : Bool) → past_last f xs ≤ length xs → cond a (suc (past_last f xs)) (cond b 1 0) ≤ suc (length xs)
      by true b h = omega arith
      by false true h = omega arith
      by false false h = omega arith

  pub past-some : (xs : List A) → any f xs ≡ true → 0 < past_last f xs
  unfolding past_last any
  past-some [] h = absurd (false≢true h)
  past-some (x ∷ xs) h = by (any f xs) (f x) h
    where
      by : (a b : Bool) → (b || a) ≡ true → 0 < cond a (suc (past_last f xs)) (cond b 1 0)
      by true b h = omega arith
      by false true h = omega arith
      by false false h = absurd (false≢true h)

  pub past-none : (xs : List A) → any f xs ≡ false → past_last f xs ≡ 0
  unfolding past_last any
  past-none [] h = refl
  past-none (x ∷ xs) h = by (any f xs) (f x) h
    where
      by : (a b : Bool) → (b || a) ≡ false → cond a (suc (past_last f xs)) (cond b 1 0) ≡ 0
      by true true h = absurd (true≢false h)
      by true false h = absurd (true≢false h)
      by false true h = absurd (true≢false h)
      by false false h = refl

  pub any-past : (xs : List A) → 0 < past_last f xs → any f xs ≡ true
  any-past xs h = by (any f xs) refl
    where
      by : (b : Bool) → any f xs ≡ b → b ≡ true
      by true e = refl
      by false e = absurd (omega (arith, past-none xs e))

  pub none-past : (xs : List A) → past_last f xs ≡ 0 → any f xs ≡ false
  none-past xs h = by (any f xs) refl
    where
      by : (b : Bool) → any f xs ≡ b → b ≡ false
      by true e = absurd (omega (arith, past-some xs e))
      by false e = refl

  -- what stands before the last, and from it on
  take_more : (x : A) (xs : List A) (p : ℕ) → 0 < p → take p (x ∷ xs) ≡ x ∷ take (p - 1) xs
  take_more x xs p h = let e : p ≡ suc (p - 1) = omega arith in ap (λ (n : ℕ). take n (x ∷ xs)) e

  drop_more : (x : A) (xs : List A) (p : ℕ) → 0 < p → drop p (x ∷ xs) ≡ drop (p - 1) xs
  drop_more x xs p h = let e : p ≡ suc (p - 1) = omega arith in ap (λ (n : ℕ). drop n (x ∷ xs)) e

  pub before_last_lem : (xs : List A) → any f xs ≡ true → before_last f xs ≡ take (past_last f xs - 1) xs
  unfolding before_last past_last any
  before_last_lem [] h = refl
  before_last_lem (x ∷ xs) h = by (any f xs) refl (f x) (before_last_lem xs) h
    where
      by : (a : Bool) → any f xs ≡ a → (b : Bool) → (a ≡ true → before_last f xs ≡ take (past_last f xs - 1) xs) → (b || a) ≡ true
          → cond a (x ∷ before_last f xs) [] ≡ take (cond a (suc (past_last f xs)) (cond b 1 0) - 1) (x ∷ xs)
      by true e b r h =
          let p : suc (past_last f xs) - 1 ≡ past_last f xs = omega arith in
          ap (◌∷◌ x) (r refl) ∙ rw p (sym (take_more x xs (past_last f xs) (past-some xs e)))
      by false e true r h = refl
      by false e false r h = absurd (false≢true h)

  pub from_last_lem : (xs : List A) → any f xs ≡ true → from_last f xs ≡ drop (past_last f xs - 1) xs
  unfolding from_last past_last any
  from_last_lem [] h = refl
  from_last_lem (x ∷ xs) h = by (any f xs) refl (f x) (from_last_lem xs) h
    where
      by : (a : Bool) → any f xs ≡ a → (b : Bool) → (a ≡ true → from_last f xs ≡ drop (past_last f xs - 1) xs) → (b || a) ≡ true
          → cond a (from_last f xs) (cond b (x ∷ xs) []) ≡ drop (cond a (suc (past_last f xs)) (cond b 1 0) - 1) (x ∷ xs)
      by true e b r h =
          let p : suc (past_last f xs) - 1 ≡ past_last f xs = omega arith in
          r refl ∙ rw p (sym (drop_more x xs (past_last f xs) (past-some xs e)))
      by false e true r h = refl
      by false e false r h = absurd (false≢true h)
