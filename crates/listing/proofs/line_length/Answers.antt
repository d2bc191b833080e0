-- `line_length` is the length of an arc's line.
use native.Mathlib.Omega.{arith}
use Rattle.listing.proofs.Lines.{length-arc_line}
use Rattle.listing.proofs.line_length.Goals as goal

pub returns : goal.returns
returns c = omega (arith, length-arc_line c.args.from c.args.to)
