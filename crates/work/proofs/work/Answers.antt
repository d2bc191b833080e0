-- `work::work` meets its contract.
use Rattle.work.proofs.SeveralEvents.{work-unsound}
use Rattle.work.proofs.work.Goals as goal

pub returns-in-Err : goal.returns-in-Err
returns-in-Err c = work-unsound _ _ _ c.in-Err.ensures c.from.ensures
