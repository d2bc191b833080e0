-- Laws of numbers as bytes, over the width: each direction undoes the other.
use mathlib.Core.Path.{◌≡◌, refl, ◌∙◌, ap, ap₂}
use Prim.Native.Nat.{ℕ, zero, suc, ◌+◌, ◌*◌, ◌/◌, ◌%◌, ◌^◌, ◌<◌}
use native.Mathlib.Nat.{pow-succ', add-mul, zero-add, mul_assoc, mod-eq_of_lt, add_assoc}
use native.Mathlib.Omega.{arith}
use mathlib.Core.List.{List, [], ◌∷◌}
use lib.ListN.{length}
use lib.Arith.{mod-mul, digits_lt, digits_div, digits_mod}
use Rattle.buffer.specs.Slice.{Bytes}
use Rattle.buffer.specs.Number.{bytes_of, number_from, number_of}
use Rattle.std.specs.Int.{from_be_bytes, w16, w32}

pow-positive : (width : ℕ) → 0 < 256 ^ width
pow-positive zero = omega arith
pow-positive (suc width) = rw pow-succ' (let h = pow-positive width in omega arith)

pub length-bytes_of : (width n : ℕ) → length (bytes_of width n) ≡ width
unfolding bytes_of
length-bytes_of zero n = refl
length-bytes_of (suc width) n = ap suc (length-bytes_of width n)

-- the bytes spell the number's remainder at their width
from_bytes : (width a n : ℕ) → number_from a (bytes_of width n) ≡ a * 256 ^ width + n % 256 ^ width
unfolding bytes_of number_from
from_bytes zero a n = omega arith
from_bytes (suc width) a n =
    let p : ℕ = 256 ^ width in
    let d : ℕ = n / p % 256 in
    from_bytes width (a * 256 + d) n
    ∙ rw (pow-succ', mod-mul n {m = 256} {c = 256 ^ width} (omega arith) (pow-positive width), add-mul, mul_assoc, add_assoc)

-- a number that fits is what its bytes spell
pub number-of-bytes : (width n : ℕ) → n < 256 ^ width → number_of (bytes_of width n) ≡ n
unfolding number_of
number-of-bytes width n h = from_bytes width 0 n ∙ rw (mod-eq_of_lt h) (omega arith)

-- the higher bytes weigh as much as their place says, and the others stay below that
from-higher : (bs : List ℕ) (a : ℕ) → Bytes bs → (number_from a bs ≡ a * 256 ^ length bs + number_from 0 bs) × (number_from 0 bs < 256 ^ length bs)
unfolding number_from
from-higher [] a h = (omega arith, omega arith)
from-higher (b ∷ bs) a h =
    let here : b < 256 = h 0 in
    let high = from-higher bs (a * 256 + b) (λ i. h (suc i)) in
    let low = from-higher bs (0 + b) (λ i. h (suc i)) in (
      high.0 ∙ rw (low.0, pow-succ', zero-add, add-mul, mul_assoc, add_assoc),
      rw (low.0, zero-add, pow-succ') (digits_lt here low.1),
    )

-- bytes are those of the number that they spell
bytes-from : (bs : List ℕ) (a : ℕ) → Bytes bs → bytes_of (length bs) (number_from a bs) ≡ bs
unfolding bytes_of number_from
bytes-from [] a h = refl
bytes-from (b ∷ bs) a h =
    let rest : Bytes bs = λ i. h (suc i) in
    let split = from-higher bs (a * 256 + b) rest in
    let high : number_from (a * 256 + b) bs / 256 ^ length bs ≡ a * 256 + b = rw split.0 (digits_div (a * 256 + b) split.1) in
    let top : number_from (a * 256 + b) bs / 256 ^ length bs % 256 ≡ b = rw high (digits_mod a (h 0)) in
    ap₂ ◌∷◌ top (bytes-from bs (a * 256 + b) rest)

pub bytes-of-number : (bs : List ℕ) → Bytes bs → bytes_of (length bs) (number_of bs) ≡ bs
unfolding number_of
bytes-of-number bs h = bytes-from bs 0 h

pub number-below : (bs : List ℕ) → Bytes bs → number_of bs < 256 ^ length bs
unfolding number_of
number-below bs h = (from-higher bs 0 h).1

-- std's number of the same bytes
pub from-two : (bs : List ℕ) → length bs ≡ 2 → from_be_bytes w16 bs ≡ number_of bs
unfolding number_of number_from
from-two [] e = absurd (omega arith)
from-two (a ∷ []) e = absurd (omega arith)
from-two (a ∷ b ∷ []) e = omega arith
from-two (a ∷ b ∷ c ∷ bs) e = absurd (omega arith)

pub from-four : (bs : List ℕ) → length bs ≡ 4 → from_be_bytes w32 bs ≡ number_of bs
unfolding number_of number_from
from-four [] e = absurd (omega arith)
from-four (a ∷ []) e = absurd (omega arith)
from-four (a ∷ b ∷ []) e = absurd (omega arith)
from-four (a ∷ b ∷ c ∷ []) e = absurd (omega arith)
from-four (a ∷ b ∷ c ∷ d ∷ []) e = omega arith
from-four (a ∷ b ∷ c ∷ d ∷ x ∷ bs) e = absurd (omega arith)

-- a number of one byte
pub one_byte : (n : ℕ) → n < 256 → bytes_of 1 n ≡ n ∷ []
unfolding bytes_of
one_byte n h = ap (λ (x : ℕ). x ∷ []) (omega arith)
