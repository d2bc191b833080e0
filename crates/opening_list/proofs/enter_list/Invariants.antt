use mathlib.Core.Path.{◌≡◌}
use Prim.Native.Nat.{◌-◌}
use lib.ListN.{length}
use Rattle.opening_list.proofs.Entering.{Entering}
use Rattle.opening_list.proofs.enter_list.Given as goal

abbrev pub invariant-loop-at : goal.invariant-loop-at
invariant-loop-at l = Entering l.initial.memory l.list l.memory l.count l.at × (length l.memory ≡ length l.initial.memory)

abbrev pub decreases-loop-at : goal.decreases-loop-at
decreases-loop-at l = length l.list - l.at
