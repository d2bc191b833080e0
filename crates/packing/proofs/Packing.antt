-- Laws of packed numbers: each is read back, and each of those put into an array stands at its place.
use mathlib.Core.Path.{◌≡◌, refl}
use Prim.Native.Nat.{ℕ, ◌+◌, ◌*◌, ◌≤◌, ◌<◌}
use native.Mathlib.Omega.{arith}
use Rattle.packing.specs.Packed.{packed, ReadBack, packed_two, ReadBackTwo}

-- the sum
pub packed-sum : (number written count : ℕ) → number + 256 * written + 4294967296 * count ≡ packed number written count
unfolding packed
packed-sum number written count = refl

pub two-sum : (number written : ℕ) → number + 256 * written ≡ packed_two number written
unfolding packed_two
two-sum number written = refl

pub read-back-two : (number written : ℕ) → number < 256 → ReadBackTwo number written
unfolding packed_two
read-back-two number written h = record { number = omega arith; written = omega arith }

-- the parts are read back
pub read_back : (number written count : ℕ) → number < 256 → written < 16777216 → ReadBack number written count
unfolding packed
read_back number written count h k = record { number = omega arith; written = omega arith; count = omega arith }
