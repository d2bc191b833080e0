-- `round::agreed::agreed_time` meets its contract.
use Rattle.std.proofs.lemmas.Result.{err_from_is_err_and}
use Rattle.gateway.proofs.Calling.{time-unsound, time-sound}
use Rattle.round.proofs.agreed.agreed_time.Goals as goal

pub returns-in_err-header : goal.returns-in_err-header
returns-in_err-header c =
    let p = err_from_is_err_and c.from_residual.result c.from_residual.ensures.1 in
    rw p.1 (time-unsound _ c.in_err-header.ensures p.2)

pub returns : goal.returns
returns c = time-sound _ c.in_ok-header.ensures
