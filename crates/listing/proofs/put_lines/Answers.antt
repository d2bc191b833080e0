-- `put_lines` puts the lines of no, one or two arcs.
use mathlib.Core.Path.{ap}
use native.Mathlib.Omega.{arith}
use lib.ListN.{length}
use Rattle.listing.proofs.Lines.{one_line, two-length, none-put, one-put, two-put}
use Rattle.listing.proofs.put_lines.Goals as goal

pub returns-in-None : goal.returns-in-None
returns-in-None c = none-put _ _ _ c.in-None.is

pub put_arc-requires : goal.put_arc-requires
put_arc-requires c = omega (arith, ap length (one_line c.args.own _ c.in-One.is))

pub returns-in-One : goal.returns-in-One
returns-in-One c = one-put _ _ _ c.in-One.is c.put_arc.ensures

pub put_arc-next-requires : goal.put_arc-next-requires
put_arc-next-requires c = omega (arith, two-length c.args.own _ _ c.in-Two.is)

pub put_arc-requires-in-Two : goal.put_arc-requires-in-Two
put_arc-requires-in-Two c =
    omega (arith, two-length c.args.own _ _ c.in-Two.is, c.put_arc-next.ensures.position, c.put_arc-next.auto.out)

pub returns-in-Two : goal.returns-in-Two
returns-in-Two c = two-put _ _ _ c.in-Two.is c.requires c.put_arc-next.ensures c.put_arc-in-Two.ensures
