use Rattle.frame.proofs.Walking.{Walking}
use Rattle.reader.proofs.walk.Given as goal

abbrev pub invariant-loop-left : goal.invariant-loop-left
invariant-loop-left l = Walking l.bytes l.map l.at l.rest l.left l.bit l.fields

abbrev pub decreases-loop-left : goal.decreases-loop-left
decreases-loop-left l = l.rest
