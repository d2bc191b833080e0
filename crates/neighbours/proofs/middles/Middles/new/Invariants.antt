use Prim.Native.Nat.{◌+◌, ◌-◌, ◌≤◌}
use Rattle.neighbours.proofs.Branches.{Widened}
use Rattle.neighbours.proofs.middles.Middles.new.Given as goal

abbrev pub invariant-loop-pen0 : goal.invariant-loop-pen0
invariant-loop-pen0 l = record { power : Widened l.n l.pen0; small : l.pen0 ≤ 65535 }

abbrev pub decreases-loop-pen0 : goal.decreases-loop-pen0
decreases-loop-pen0 l = l.mid0 + 1 - l.pen0
