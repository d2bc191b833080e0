-- `header::read_settings` meets its contract.
use Rattle.memory.specs.Codec.{header_at}
use Rattle.header.proofs.read_settings.Goals as goal

pub returns : goal.returns
unfolding header_at
returns c = cc
