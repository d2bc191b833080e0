-- `rollback::room::count_sent` meets its contract.
use mathlib.Core.Path.{◌∙◌, ap}
use native.Mathlib.Omega.{arith}
use Rattle.std.specs.Int.{from_bool}
use Rattle.rollback.proofs.RoomLaws.{count-start, counted-sent, count_turn, count-end}
use Rattle.rollback.proofs.room.count_sent.Goals as goal

pub loop-i-init : goal.loop-i-init
loop-i-init c = (omega arith, count-start _ _ _ _)

pub loop-i-preserved : goal.loop-i-preserved
loop-i-preserved c =
    let n = counted-sent c.sent_by.result c.sent_by.ensures (c.from-sent.ensures ∙ ap from_bool c.is_some.ensures) in
    (omega (arith, n.1), count_turn _ _ _ _ c.loop-i.i _ _ (omega arith) c.loop-i.invariant.1 c.read_entry-entry.ensures n)

pub returns : goal.returns
returns c = (count-end _ _ _ _ c.loop-i.i _ (omega arith) (omega arith) c.loop-i.invariant.1, omega arith)
