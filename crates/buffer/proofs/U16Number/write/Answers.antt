-- `buffer::U16Number::write` meets its contract.
use Rattle.std.proofs.Common.{rules}
use Rattle.buffer.specs.Number.{bytes_of}
use Rattle.buffer.proofs.U16Number.write.Goals as goal

pub returns : goal.returns
unfolding bytes_of
returns c = search rules
