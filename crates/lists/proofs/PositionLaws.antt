-- Laws of the position of the first or the last element that passes a test.
use mathlib.Core.Path.{◌≡◌, refl, ap}
use mathlib.Core.Bool.{Bool, true, false, cond, ◌||◌}
use mathlib.Core.List.{List, [], ◌∷◌, ◌++◌}
use Prim.Native.Nat.{suc, ◌≤◌, ◌<◌}
use native.Mathlib.Omega.{arith}
use lib.ListN.{length, take, drop, get_or}
use Rattle.lists.specs.Lists.{any, without_first, before_first, from_first}
use Rattle.lists.specs.Inside.Positions.{first_where, past_last}

module _ {A : Type 0} (f : A → Bool) where
  pub first-bound : (xs : List A) → first_where f xs ≤ length xs
  unfolding first_where
  first-bound [] = omega arith
  first-bound (x ∷ xs) = here (f x) (first-bound xs)
    where
      here : (b : Bool) → first_where f xs ≤ length xs → cond b 0 (suc (first_where f xs)) ≤ suc (length xs)
      here true h = omega arith
      here false h = omega arith

  -- some element passes exactly if the first that does stands in the list
  pub any_found : (xs : List A) → first_where f xs < length xs → any f xs ≡ true
  unfolding first_where any
  any_found [] h = absurd (omega arith)
  any_found (x ∷ xs) h = here (f x) h (any_found xs)
    where
      here : (b : Bool) → cond b 0 (suc (first_where f xs)) < suc (length xs) → (first_where f xs < length xs → any f xs ≡ true) → (b || any f xs) ≡ true
      here true h r = refl
      here false h r = r (omega arith)

  pub any_none : (xs : List A) → length xs ≤ first_where f xs → any f xs ≡ false
  unfolding first_where any
  any_none [] h = refl
  any_none (x ∷ xs) h = here (f x) h (any_none xs)
    where
      here : (b : Bool) → suc (length xs) ≤ cond b 0 (suc (first_where f xs)) → (length xs ≤ first_where f xs → any f xs ≡ false) → (b || any f xs) ≡ false
      here true h r = absurd (omega arith)
      here false h r = r (omega arith)

  -- the element found passes
  pub found-passes : (xs : List A) (d : A) → first_where f xs < length xs → f (get_or xs (first_where f xs) d) ≡ true
  unfolding first_where
  found-passes [] d h = absurd (omega arith)
  found-passes (x ∷ xs) d h = here (f x) refl h (found-passes xs d)
    where
      here : (b : Bool) → f x ≡ b → cond b 0 (suc (first_where f xs)) < suc (length xs)
          → (first_where f xs < length xs → f (get_or xs (first_where f xs) d) ≡ true) → f (get_or (x ∷ xs) (cond b 0 (suc (first_where f xs))) d) ≡ true
      here true e h r = e
      here false e h r = r (omega arith)

  -- the list without it is what stands before it and what stands behind it
  pub without-first : (xs : List A) → without_first f xs ≡ take (first_where f xs) xs ++ drop (suc (first_where f xs)) xs
  unfolding first_where without_first
  without-first [] = refl
  without-first (x ∷ xs) = here (f x) (without-first xs)
    where
      here : (b : Bool) → without_first f xs ≡ take (first_where f xs) xs ++ drop (suc (first_where f xs)) xs
          → cond b xs (x ∷ without_first f xs) ≡ take (cond b 0 (suc (first_where f xs))) (x ∷ xs) ++ drop (suc (cond b 0 (suc (first_where f xs)))) (x ∷ xs)
      here true r = refl
      here false r = ap (◌∷◌ x) r

  any_snoc : (xs : List A) (y : A) → any f (xs ++ (y ∷ [])) ≡ any f xs || f y
  unfolding any
  any_snoc [] y = flip (f y)
    where
      flip : (b : Bool) → (b || false) ≡ (false || b)
      flip true = refl
      flip false = refl
  any_snoc (x ∷ xs) y = here (f x) (any_snoc xs y)
    where
      here : (b : Bool) → any f (xs ++ (y ∷ [])) ≡ any f xs || f y → (b || any f (xs ++ (y ∷ []))) ≡ (b || any f xs) || f y
      here true r = refl
      here false r = r

  -- the place behind the last one, by the last element of all
  pub past-snoc : (xs : List A) (y : A) → past_last f (xs ++ (y ∷ [])) ≡ cond (f y) (suc (length xs)) (past_last f xs)
  unfolding past_last any
  past-snoc [] y = refl
  past-snoc (x ∷ xs) y = here (f y) (any f xs) (any_snoc xs y) (past-snoc xs y)
    where
      here : (b a : Bool) → any f (xs ++ (y ∷ [])) ≡ a || b → past_last f (xs ++ (y ∷ [])) ≡ cond b (suc (length xs)) (past_last f xs)
          → cond (any f (xs ++ (y ∷ []))) (suc (past_last f (xs ++ (y ∷ [])))) (cond (f x) 1 0)
          ≡ cond b (suc (suc (length xs))) (cond a (suc (past_last f xs)) (cond (f x) 1 0))
      here true true e r = rw (e, r)
      here true false e r = rw (e, r)
      here false true e r = rw (e, r)
      here false false e r = rw e

  -- the list cut at the first that passes
  pub before-first : (xs : List A) → before_first f xs ≡ take (first_where f xs) xs
  unfolding before_first first_where
  before-first [] = refl
  before-first (x ∷ xs) = here (f x) (before-first xs)
    where
      here : (b : Bool) → before_first f xs ≡ take (first_where f xs) xs → cond b [] (x ∷ before_first f xs) ≡ take (cond b 0 (suc (first_where f xs))) (x ∷ xs)
      here true r = refl
      here false r = ap (◌∷◌ x) r

  pub from_first_lem : (xs : List A) → from_first f xs ≡ drop (first_where f xs) xs
  unfolding from_first first_where
  from_first_lem [] = refl
  from_first_lem (x ∷ xs) = here (f x) (from_first_lem xs)
    where
      here : (b : Bool) → from_first f xs ≡ drop (first_where f xs) xs → cond b (x ∷ xs) (from_first f xs) ≡ drop (cond b 0 (suc (first_where f xs))) (x ∷ xs)
      here true r = refl
      here false r = r
