-- Laws of bytes put one behind the other.
use mathlib.Core.Path.{◌≡◌, refl, sym, ◌∙◌, ap}
use mathlib.Core.List.{List, [], ◌∷◌, ◌++◌}
use Prim.Native.Nat.{ℕ, ◌+◌, ◌≤◌, ◌<◌}
use native.Mathlib.Omega.{arith}
use lib.ListN.{length, set, length-append}
use Rattle.buffer.specs.Slice.{write, Puts}
use Rattle.buffer.proofs.Writes.{write-nil, write-join, length-write, set-write}

-- nothing
pub puts-nothing : (at : ℕ) (m : List ℕ) → Puts at [] m m at
puts-nothing at m = record { position = omega arith; output = sym (write-nil at m) }

-- one byte
pub puts-byte : (at x : ℕ) (m : List ℕ) → at < length m → Puts at (x ∷ []) m (set m at x) (at + 1)
puts-byte at x m h = record { position = refl; output = set-write m at x h }

module _ {at p : ℕ} {xs m now : List ℕ} where
  -- more bytes behind
  pub puts-more : {ys later : List ℕ} {q : ℕ} → at + length xs ≤ length m → Puts at xs m now p → Puts p ys now later q → Puts at (xs ++ ys) m later q
  puts-more {ys} room a b =
      record {
        position = omega (arith, length-append xs ys);
        output = b.output ∙ (λ i. write (a.position i) ys (a.output i)) ∙ write-join at xs ys m room;
      }

  -- the length stays
  pub puts-length : at + length xs ≤ length m → Puts at xs m now p → length now ≡ length m
  puts-length room a = ap length a.output ∙ length-write at xs m room
