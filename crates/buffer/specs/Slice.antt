-- A part of a slice, and a slice after bytes were written into it.
use Rattle.std.specs.Prelude.{◌≡◌, ℕ, ◌+◌, ◌<◌, Bool, true, false, ◌&&◌, List, [], ◌∷◌, ◌++◌, eqb, length, take, drop, get_or}

-- every element is a byte
abbrev pub Bytes : List ℕ → Type 0
Bytes m = (i : ℕ) → get_or m i 0 < 256

-- the two lists are equal, byte by byte
unfoldable pub same_bytes : List ℕ → List ℕ → Bool
same_bytes [] [] = true
same_bytes [] (y ∷ ys) = false
same_bytes (x ∷ xs) [] = false
same_bytes (x ∷ xs) (y ∷ ys) = eqb x y && same_bytes xs ys

-- the n bytes of m from position at on
unfoldable pub part : List ℕ → ℕ → ℕ → List ℕ
part m at n = take n (drop at m)

-- m with the bytes xs from position at on; every other byte as it was
unfoldable pub write : ℕ → List ℕ → List ℕ → List ℕ
write at xs m = take at m ++ (xs ++ drop (at + length xs) m)

-- bytes were put from position at on, and the position behind them was answered
pub record Puts (at : ℕ) (bytes before after : List ℕ) (behind : ℕ) : Type 0 where
  pub position : behind ≡ at + length bytes
  pub output : after ≡ write at bytes before
