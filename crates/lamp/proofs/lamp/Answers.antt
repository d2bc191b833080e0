-- `lamp::lamp` meets its contract.
use mathlib.Core.Path.{refl, ap}
use Rattle.std.specs.Prelude.{is_ok}
use Rattle.buffer.specs.Slice.{part}
use Rattle.lamp.proofs.lamp.Goals as goal

pub returns-in-Ok : goal.returns-in-Ok
returns-in-Ok c = c.in-Ok.ensures.0

pub returns-in-Err : goal.returns-in-Err
unfolding part
returns-in-Err c = rw (ap is_ok c.in-Err.ensures) (record { place = refl; bytes = refl })
