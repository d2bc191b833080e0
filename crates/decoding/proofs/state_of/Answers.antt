-- `decoding::state_of` meets its contract.
use Rattle.memory.specs.Codec.{state_with}
use Rattle.decoding.proofs.state_of.Goals as goal

pub returns : goal.returns
unfolding state_with
returns c = cc
