-- `hurfaith::hurfaith_agreed_time` meets its contract.
use mathlib.Core.Path.{◌∙◌}
use Rattle.hurfaith.proofs.Packing.{time-packed}
use Rattle.hurfaith.proofs.hurfaith_agreed_time.Goals as goal

pub returns-in-Ok : goal.returns-in-Ok
returns-in-Ok c = time-packed c.in-Ok.ensures c.packed.ensures

pub returns-in-Err : goal.returns-in-Err
returns-in-Err c = time-packed c.in-Err.ensures (c.packed-in-Err.ensures ∙ rw c.number.ensures)
