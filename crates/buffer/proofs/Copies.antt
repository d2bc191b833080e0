-- Laws of parts that are copied as numbers, and of copies one behind the other.
use mathlib.Core.Path.{◌≡◌, ◌∙◌, ap}
use mathlib.Core.List.{List}
use Prim.Native.Nat.{ℕ, ◌+◌, ◌≤◌}
use lib.ListN.{length}
use Rattle.buffer.specs.Slice.{Bytes, part, write}
use Rattle.buffer.specs.Number.{bytes_of, number_of}
use Rattle.buffer.proofs.Lent.{bytes-part}
use Rattle.buffer.proofs.Numbers.{bytes-of-number}
use Rattle.buffer.proofs.Standing.{part-add}
use Rattle.buffer.proofs.Writes.{length_part, length-write, write-join}

-- a number in bytes is made of the same bytes again
pub number-again : (m : List ℕ) → Bytes m → (at n : ℕ) → at + n ≤ length m → bytes_of n (number_of (part m at n)) ≡ part m at n
number-again m bytes at n fits = rw (length_part m at n fits) at (bytes-of-number (part m at n) (bytes-part m at n bytes))

-- so that a part is copied by its number
pub number-copied : (s : List ℕ) → Bytes s → (at from n : ℕ) (m : List ℕ) {after : List ℕ} {number : ℕ} → from + n ≤ length s → number ≡ number_of (part s from n)
    → after ≡ write at (bytes_of n number) m → after ≡ write at (part s from n) m
number-copied s bytes at from n m fits e p = p ∙ ap (λ (l : List ℕ). write at l m) (rw e (number-again s bytes from n fits))

-- a part, and the part behind it
module _ (s m : List ℕ) (at from a : ℕ) (room : at + a ≤ length m) (fits : from + a ≤ length s) {one : List ℕ} (p : one ≡ write at (part s from a) m) where
  pub copy-length : length one ≡ length m
  copy-length = ap length p ∙ length-write at (part s from a) m (rw (length_part s from a fits) room)

  pub copy_more : (b : ℕ) {two : List ℕ} → two ≡ write (at + a) (part s (from + a) b) one → two ≡ write at (part s from (a + b)) m
  copy_more b q =
      let size = length_part s from a fits in
      let join = write-join at (part s from a) (part s (from + a) b) m (rw size room) in
      q ∙ rw (p, part-add s from a b) (rw size at join)
