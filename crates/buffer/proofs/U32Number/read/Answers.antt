-- `buffer::U32Number::read` meets its contract.
use Rattle.std.proofs.Common.{rules}
use Rattle.buffer.proofs.Numbers.{from-four}
use Rattle.buffer.proofs.U32Number.read.Goals as goal

pub returns : goal.returns
returns c = search (rules, from-four)
