-- Families: a value for each gateway, changed at one place, and what those of gateways 0 to n − 1 come to.
use Rattle.std.specs.Prelude.{cond, List, [], ◌++◌, ℕ, zero, suc, ◌+◌, eqb}

-- the family f with v at i
unfoldable pub change {ℓ} : {A : Type ℓ} → ℕ → A → (ℕ → A) → ℕ → A
change i v f k = cond (eqb i k) v (f k)

-- the family f with v at i and j
unfoldable pub put {ℓ} : {A : Type ℓ} → ℕ → ℕ → A → (ℕ → ℕ → A) → ℕ → ℕ → A
put i j v f = change i (change j v (f i)) f

-- f 0 + .. + f (n − 1)
unfoldable pub sum : ℕ → (ℕ → ℕ) → ℕ
sum zero f = 0
sum (suc n) f = sum n f + f n

-- the lists f 0 to f (n − 1), one behind the other
unfoldable pub together : {A : Type 0} → ℕ → (ℕ → List A) → List A
together zero f = []
together (suc n) f = together n f ++ f n
