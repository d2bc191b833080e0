-- `writer::write` meets its contract.
use Rattle.std.proofs.lemmas.Result.{err_from_is_err_and}
use Rattle.frame.proofs.Output.{value-refused, no_room, room-enough, all-written}
use Rattle.writer.proofs.write.Goals as goal

pub returns-in_err-value_refusal : goal.returns-in_err-value_refusal
returns-in_err-value_refusal c =
    let p = err_from_is_err_and c.from_residual.result c.from_residual.ensures.1 in
    rw (p.1, p.2) (value-refused _ _ _ c.in_err-value_refusal.ensures)

pub returns-then-size-out : goal.returns-then-size-out
returns-then-size-out c =
    let none = c.in_ok-value_refusal.ensures in
    search no_room

pub put-requires : goal.put-requires
put-requires c =
    let none = c.in_ok-value_refusal.ensures in
    search room-enough

pub returns : goal.returns
returns c =
    let none = c.in_ok-value_refusal.ensures in
    search all-written
