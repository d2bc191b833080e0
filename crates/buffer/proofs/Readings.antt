-- Laws of bytes that are read from a slice one by one.
use mathlib.Core.Path.{◌≡◌}
use Prim.Native.Nat.{ℕ, ◌+◌, ◌<◌, ◌≤◌}
use native.Mathlib.Omega.{arith}
use mathlib.Core.List.{List}
use lib.ListN.{length, get_or}
use lib.Seq.{get_or-take, get_or-drop}
use Rattle.buffer.specs.Slice.{part}
use Rattle.buffer.specs.Number.{number_of, number_from}
use Rattle.buffer.proofs.Writes.{part-cons, part-nil}

-- the number in one byte
pub read_one : (m : List ℕ) (at : ℕ) → at + 1 ≤ length m → get_or m at 0 ≡ number_of (part m at 1)
unfolding number_of number_from
read_one m at h = rw (part-cons m at 0 (omega arith), part-nil) (omega arith)

pub get_d_part : (m : List ℕ) (at n i : ℕ) → i < n → get_or (part m at n) i 0 ≡ get_or m (at + i) 0
unfolding part
get_d_part m at n i h = rw (get_or-take, get_or-drop)
