-- `take_plain::meet_cancel` meets its contract.
use native.Mathlib.Omega.{arith}
use mathlib.Core.Bool.{false}
use Rattle.take_plain.proofs.PlainTakings.{reply-room, met-without-room, met-done}
use Rattle.take_plain.proofs.meet_cancel.Goals as goal

pub returns-then-output-lt-SENSE_LENGTH : goal.returns-then-output-lt-SENSE_LENGTH
returns-then-output-lt-SENSE_LENGTH c =
    met-without-room _ _ _ c.requires.0 _ c.requires.1 _ c.requires.2 c.requires.3 (omega arith)

pub put_frame-written-requires : goal.put_frame-written-requires
put_frame-written-requires c =
    reply-room false _ c.requires.2 c.requires.3 c.acknowledgment.ensures (omega arith)

pub returns : goal.returns
returns c =
    met-done _ _ _ c.requires.0 _ c.requires.1 _ c.requires.2 c.requires.3 (omega arith)
    c.acknowledgment.ensures c.put_frame-written.ensures c.remove_entry.ensures
