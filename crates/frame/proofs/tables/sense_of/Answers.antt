-- `frame::tables::sense_of` meets its contract.
use Rattle.frame.proofs.Branches.{sense-last}
use Rattle.frame.proofs.tables.sense_of.Goals as goal

pub returns-in_default : goal.returns-in_default
returns-in_default c = search sense-last
