-- `hurfaith::hurfaith_set_up` meets its contract.
use Rattle.hurfaith.proofs.Packing.{answer-alone}
use Rattle.hurfaith.proofs.hurfaith_set_up.Goals as goal

pub returns-in-Ok : goal.returns-in-Ok
returns-in-Ok c = answer-alone c.in-Ok.ensures

pub returns-in-Err : goal.returns-in-Err
returns-in-Err c = rw c.number.ensures (answer-alone c.in-Err.ensures)
