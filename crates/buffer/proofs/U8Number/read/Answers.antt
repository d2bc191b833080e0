-- `buffer::U8Number::read` meets its contract.
use Rattle.buffer.proofs.Readings.{read_one}
use Rattle.buffer.proofs.U8Number.read.Goals as goal

pub returns : goal.returns
returns c = read_one c.args.bytes.now c.args.at c.requires
