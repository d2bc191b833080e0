use Prim.Native.Nat.{◌-◌}
use lib.ListN.{length}
use Rattle.opening_list.proofs.Checking.{Checking}
use Rattle.opening_list.proofs.check_list.Given as goal

abbrev pub invariant-loop-at : goal.invariant-loop-at
invariant-loop-at l = Checking l.list l.settings l.count l.at

abbrev pub decreases-loop-at : goal.decreases-loop-at
decreases-loop-at l = length l.list - l.at
