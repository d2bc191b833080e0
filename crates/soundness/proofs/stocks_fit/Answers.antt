-- `soundness::stocks_fit` meets its contract.
use Rattle.soundness.proofs.Passing.{saved-too-high, held-decides}
use Rattle.soundness.proofs.stocks_fit.Goals as goal

pub returns-then-passed : goal.returns-then-passed
returns-then-passed c = search saved-too-high

pub returns : goal.returns
returns c = search held-decides
