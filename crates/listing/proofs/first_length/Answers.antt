-- `first_length` is the length of the first line.
use native.Mathlib.Omega.{arith}
use Rattle.listing.proofs.Lines.{length-first_line}
use Rattle.listing.proofs.first_length.Goals as goal

pub returns : goal.returns
returns c =
    omega (arith, length-first_line c.args.n c.args.totals.arcs c.args.totals.messages)
