-- `totals_of` answers 8 outside the range, and else what is counted.
use Rattle.neighbours.proofs.Branches.{no-totals, totals-found}
use Rattle.neighbours.proofs.totals_of.Goals as goal

pub returns-then-n-lt1 : goal.returns-then-n-lt1
returns-then-n-lt1 c = search no-totals

pub returns : goal.returns
returns c = totals-found _ c.if-n-lt1.false c.if-n-gt65535.false c.new.ensures c.totals.ensures
