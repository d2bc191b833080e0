-- `take::take_bytes` meets its contract.
use Rattle.std.proofs.lemmas.Result.{err_from_is_err_and}
use Rattle.buffer.proofs.Lent.{bytes-known}
use Rattle.gateway.specs.Calls.{by_carrier}
use Rattle.gateway.proofs.Dispatching.{form-refused, form-taken, read_fits, read-formed}
use Rattle.take.proofs.take_bytes.Goals as goal

pub returns-in_err-frame : goal.returns-in_err-frame
returns-in_err-frame c =
    let read = c.in_err-frame.ensures by_carrier (λ f b p. p.1) in
    let p = err_from_is_err_and c.from_residual.result c.from_residual.ensures.1 in
    rw p.1 (form-refused _ _ _ _ c.requires read _ p.2)

pub take_checked-requires : goal.take_checked-requires
take_checked-requires c =
    let b = bytes-known c.args.frame.now c.type_inv.frame in
    let read = c.in_ok-frame.ensures by_carrier (λ f b p. p.1) in
    (c.requires, read_fits _ b read, read-formed _ b read)

pub returns : goal.returns
returns c =
    let read = c.in_ok-frame.ensures by_carrier (λ f b p. p.1) in
    form-taken _ _ _ _ c.requires read c.take_checked.ensures
