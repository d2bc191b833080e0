-- `soundness::pass` meets its contract.
use Rattle.soundness.proofs.pass.Goals as goal

pub returns : goal.returns
returns c = cc
