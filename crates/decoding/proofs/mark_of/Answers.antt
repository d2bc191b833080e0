-- `decoding::mark_of` meets its contract.
use Rattle.memory.proofs.Stored.{mark-last}
use Rattle.decoding.proofs.mark_of.Goals as goal

pub returns-in_default : goal.returns-in_default
returns-in_default c = search mark-last
