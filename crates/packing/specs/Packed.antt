-- An answer of several numbers in one, and a gateway's neighbours in an array of four.
use Rattle.std.specs.Prelude.{◌≡◌, ℕ, ◌+◌, ◌*◌, ◌/◌, ◌%◌, get_or}
use Rattle.routing.specs.AtMostTwo.{listed}
use Rattle.routing.specs.declared.at_most_two.AtMostTwo.{AtMostTwo}

-- a number below 256, the bytes written, below 16,777,216, and a count below 4,294,967,296 in one number of 64 bits
unfoldable pub packed : ℕ → ℕ → ℕ → ℕ
packed number written count = number + 256 * written + 4294967296 * count

-- each part is read back from a packed answer, as a C program does it
pub record ReadBack (n w c : ℕ) : Type 0 where
  pub number : packed n w c % 256 ≡ n
  pub written : packed n w c / 256 % 16777216 ≡ w
  pub count : packed n w c / 4294967296 ≡ c

-- a number below 256 and one below 2^56 in one number of 64 bits
unfoldable pub packed_two : ℕ → ℕ → ℕ
packed_two number written = number + 256 * written

-- and read back
pub record ReadBackTwo (n w : ℕ) : Type 0 where
  pub number : packed_two n w % 256 ≡ n
  pub written : packed_two n w / 256 ≡ w

-- the gateway of that index, 65,535 where there is none
abbrev pub number_at : AtMostTwo ℕ → ℕ → ℕ
number_at among i = get_or (listed among) i 65535
