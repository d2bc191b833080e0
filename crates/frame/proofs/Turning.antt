-- The number that a frame's numbers and hour are refused with.
use Prim.Native.Nat.{ℕ, ◌<◌}
use native.Mathlib.Omega.{arith}
use mathlib.Core.Bool.{Bool, true, false, cond, ◌&&◌}
use Rattle.frame.specs.Limits.{numbers_below, hour_allowed, refusal_where}
use Rattle.frame.specs.declared.Frame.{Frame}

-- it is small
pub refusal-few : (here : Bool) (f : Frame) (n last : ℕ) → refusal_where here f n last < 10
unfolding refusal_where
refusal-few here f n last = by-case (numbers_below n f.message && here) (hour_allowed last f.message)
  where
    by-case : (a b : Bool) → cond a (cond b 0 3) 2 < 10
    by-case true true = omega arith
    by-case true false = omega arith
    by-case false b = omega arith
