-- `take::take_checked` meets its contract.
use Rattle.std.proofs.lemmas.Result.{err_from_is_err_and}
use Rattle.gateway.proofs.Dispatching.{number-refused, number_passed}
use Rattle.take.proofs.take_checked.Goals as goal

pub returns-in_err-check : goal.returns-in_err-check
returns-in_err-check c =
    let p = err_from_is_err_and c.from_residual.result c.from_residual.ensures.1 in
    rw (p.1, p.2) (number-refused _ _ _ _ _ c.in_err-check.ensures)

pub returns : goal.returns
returns c = number_passed _ _ _ _ c.in_ok-check.ensures c.take_frame.ensures
