-- `report::put_line` meets its contract.
use native.Mathlib.Omega.{arith}
use mathlib.Core.Path.{sym, ap}
use Rattle.std.specs.Prelude.{is_ok}
use Rattle.report.proofs.Fields.{frame-put, refused-put}
use Rattle.report.proofs.put_line.Goals as goal

pub put_lamp-requires : goal.put_lamp-requires
put_lamp-requires c = (omega arith, sym (ap is_ok c.in-Ok.ensures))

pub returns-in-Ok : goal.returns-in-Ok
returns-in-Ok c = (
  frame-put _ _ _ c.in-Ok.ensures c.requires c.put_fields-behind_fields.ensures c.put_lamp.ensures,
  omega (arith, c.put_fields-behind_fields.ensures, c.put_lamp.ensures),
)

pub returns-in-Err : goal.returns-in-Err
returns-in-Err c = (refused-put _ _ _ c.in-Err.ensures c.put_refused.ensures.0, omega arith)
