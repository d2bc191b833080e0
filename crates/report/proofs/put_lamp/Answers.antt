-- `report::put_lamp` meets its contract.
use native.Mathlib.Omega.{arith}
use Rattle.report.proofs.Fields.{part_length, lamp-put, dash-put}
use Rattle.report.proofs.put_lamp.Goals as goal

pub returns-then-part-eq0 : goal.returns-then-part-eq0
returns-then-part-eq0 c = (
  dash-put c.args.item c.requires.1 c.lamp-part.result c.lamp-part.ensures _ _ c.if-part-eq0.true (omega arith),
  omega arith,
)

pub copy-requires : goal.copy-requires
copy-requires c =
    let size = part_length c.args.item c.requires.1 c.lamp-part.result c.lamp-part.ensures c.if-part-eq0.false in
    omega arith

pub returns : goal.returns
returns c =
    let size = part_length c.args.item c.requires.1 c.lamp-part.result c.lamp-part.ensures c.if-part-eq0.false in (
      lamp-put c.args.item c.requires.1 c.lamp-part.result c.lamp-part.ensures _ _ c.if-part-eq0.false c.copy.ensures,
      omega arith,
    )
