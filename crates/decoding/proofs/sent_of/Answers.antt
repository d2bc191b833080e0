-- `decoding::sent_of` meets its contract.
use Rattle.memory.specs.Codec.{sent_of}
use Rattle.decoding.proofs.sent_of.Goals as goal

pub returns : goal.returns
unfolding sent_of
returns c = cc
