-- Positions in a list.
use Rattle.std.specs.Prelude.{ℕ, suc, Bool, cond, List, [], ◌∷◌, ◌++◌, take, drop}
use Rattle.lists.specs.Lists.{any}

-- the position of the first element that passes the test, or the length where none does
unfoldable pub first_where : {A : Type 0} → (A → Bool) → List A → ℕ
first_where f [] = 0
first_where f (x ∷ xs) = let rest = suc (first_where f xs) in cond (f x) 0 rest

-- the position behind the last element that passes the test, or 0 where none does
unfoldable pub past_last : {A : Type 0} → (A → Bool) → List A → ℕ
unfolding any
past_last f [] = 0
past_last f (x ∷ xs) = let rest = suc (past_last f xs) in cond (any f xs) rest (cond (f x) 1 0)

-- the list without its element at position k
abbrev pub without : {A : Type 0} → ℕ → List A → List A
without k xs = take k xs ++ drop (suc k) xs
