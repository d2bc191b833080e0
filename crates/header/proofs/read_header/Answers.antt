-- `header::read_header` meets its contract.
use Rattle.memory.specs.Codec.{header_at}
use Rattle.buffer.specs.Slice.{part}
use Rattle.header.proofs.read_header.Goals as goal

pub returns : goal.returns
unfolding header_at part
returns c = cc
