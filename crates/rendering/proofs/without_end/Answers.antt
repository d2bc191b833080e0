-- `without_end` leaves out the line end that may stand last.
use native.Mathlib.Omega.{arith}
use Rattle.rendering.proofs.Input.{end_empty, end_line, end_none}
use Rattle.rendering.proofs.without_end.Goals as goal

pub returns-in-10 : goal.returns-in-10
returns-in-10 c = end_line _ (omega arith)

pub returns-in_default : goal.returns-in_default
returns-in_default c = end_empty _ (omega arith)

pub returns-in_default-2 : goal.returns-in_default-2
returns-in_default-2 c = end_none _ (omega arith)
