-- `buffer::array_at` meets its contract.
use Rattle.std.proofs.Common.{rules}
use Rattle.buffer.specs.Slice.{part}
use Rattle.buffer.proofs.array_at.Goals as goal

pub returns : goal.returns
unfolding part
returns g c = search rules
