-- `totals` counts by the closed form: n - 1 arcs and half of Mid0 more.
use Rattle.neighbours.proofs.Branches.{counted}
use Rattle.neighbours.proofs.middles.Middles.totals.Goals as goal

pub returns : goal.returns
returns c = counted _ c.args.self.in_range.0 c.args.self.figure.1
