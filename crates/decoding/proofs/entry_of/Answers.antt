-- `decoding::entry_of` meets its contract.
use Rattle.memory.specs.Codec.{entry_of}
use Rattle.buffer.specs.Slice.{part}
use Rattle.decoding.proofs.entry_of.Goals as goal

pub returns : goal.returns
unfolding entry_of part
returns c = cc
