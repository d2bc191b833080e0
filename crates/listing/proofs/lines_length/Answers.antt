-- `lines_length` is the length of the lines of no, one or two arcs.
use mathlib.Core.Path.{ap}
use native.Mathlib.Omega.{arith}
use lib.ListN.{length}
use Rattle.listing.proofs.Lines.{no_line, one_line, two-length}
use Rattle.listing.proofs.lines_length.Goals as goal

pub returns-in-None : goal.returns-in-None
returns-in-None c = omega (arith, ap length (no_line c.args.own c.in-None.is))

pub returns-in-One : goal.returns-in-One
returns-in-One c = omega (arith, ap length (one_line c.args.own _ c.in-One.is))

pub returns-in-Two : goal.returns-in-Two
returns-in-Two c = omega (arith, two-length c.args.own _ _ c.in-Two.is)
