-- `buffer::U16Number::read` meets its contract.
use Rattle.std.proofs.Common.{rules}
use Rattle.buffer.proofs.Numbers.{from-two}
use Rattle.buffer.proofs.U16Number.read.Goals as goal

pub returns : goal.returns
returns c = search (rules, from-two)
