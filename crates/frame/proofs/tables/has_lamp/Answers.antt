-- `frame::tables::has_lamp` meets its contract.
use Rattle.frame.specs.Kinds.{has_lamp}
use Rattle.frame.proofs.tables.has_lamp.Goals as goal

pub returns : goal.returns
unfolding has_lamp
returns c = cc
