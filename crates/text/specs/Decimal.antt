-- Decimal text as bytes: the digits of a number, most significant first and without leading zeros, and the number that a text spells.
use Rattle.std.specs.Prelude.{◌≡◌, ◌↔◌, true, false, cond, ◌&&◌, List, [], ◌∷◌, ◌++◌, Option, Some, None}
use Rattle.std.specs.Prelude.{ℕ, zero, suc, ◌+◌, ◌*◌, ◌-◌, ◌/◌, ◌%◌, ◌≤◌, ◌<◌, leb, ltb}
use Rattle.buffer.specs.Slice.{same_bytes}

-- The byte of a digit.
abbrev pub digit : ℕ → ℕ
digit d = 48 + d

-- Below ten the digit itself, else the text of n / 10 and then the digit n % 10; at most so many digits and one more.
unfoldable pub digits : (most n : ℕ) → List ℕ
digits zero n = digit (n % 10) ∷ []
digits (suc most) n =
    elim (ltb n 10) [ true ↦ digit n ∷ [] | false ↦ digits most (n / 10) ++ (digit (n % 10) ∷ []) ]

-- The decimal text of n.
unfoldable pub decimal : (n : ℕ) → List ℕ
decimal n = digits n n

-- A number and a blank.
unfoldable pub field : (n : ℕ) → List ℕ
unfolding decimal
field n = decimal n ++ (32 ∷ [])

-- The value of digits that stand behind others of value n: ten times that, and the digit.
unfoldable pub value_from : (n : ℕ) → List ℕ → ℕ
value_from n [] = n
value_from n (b ∷ text) = value_from (10 * n + (b - 48)) text

-- The value of a text of digits.
unfoldable pub value : List ℕ → ℕ
value text = value_from 0 text

-- The number up to most that a text spells: its value, if the text is the decimal text of that.
unfoldable pub spelled : (most : ℕ) → List ℕ → Option ℕ
spelled most text = cond (same_bytes (decimal (value text)) text && leb (value text) most) (Some (value text)) None

-- What holds of decimal text.
pub record Laws : Type 0 where
  -- below ten it is the digit, and from ten on the text of n / 10 and the digit n % 10
  pub small : (n : ℕ) → n < 10 → decimal n ≡ digit n ∷ []
  pub more : (n : ℕ) → 10 ≤ n → decimal n ≡ decimal (n / 10) ++ (digit (n % 10) ∷ [])
  -- it has the value n, so that no two numbers have the same text
  pub valued : (n : ℕ) → value (decimal n) ≡ n
  -- a text spells n exactly if it is the decimal text of n, up to most
  pub converse : (most n : ℕ) (text : List ℕ) → (spelled most text ≡ Some n) ↔ ((decimal n ≡ text) × (n ≤ most))
