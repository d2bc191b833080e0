-- `neighbours_of` answers 8 outside the ranges, and else what Figure 2 gives.
use Rattle.neighbours.proofs.Branches.{out-of-range, good}
use Rattle.neighbours.proofs.neighbours_of.Goals as goal

pub returns-then-n-gt65535 : goal.returns-then-n-gt65535
returns-then-n-gt65535 c = search out-of-range

pub returns : goal.returns
returns c = good _ _ c.if-n-gt65535.false c.if-own-n.false c.new-middles.ensures c.from_of.ensures c.to_of.ensures
