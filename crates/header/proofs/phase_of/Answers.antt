-- `header::phase_of` meets its contract.
use Rattle.memory.proofs.Stored.{phase-last}
use Rattle.header.proofs.phase_of.Goals as goal

pub returns-in_default : goal.returns-in_default
returns-in_default c = search phase-last
