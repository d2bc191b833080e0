-- `decoding::message_of` meets its contract.
use Rattle.memory.specs.Codec.{message_of}
use Rattle.decoding.proofs.message_of.Goals as goal

pub returns : goal.returns
unfolding message_of
returns c = cc
