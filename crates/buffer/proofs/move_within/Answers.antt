-- `buffer::move_within` meets its contract.
use Rattle.buffer.proofs.Writes.{paste-write}
use Rattle.buffer.proofs.move_within.Goals as goal

pub returns : goal.returns
returns c = cc (paste-write c.args.at c.args.from c.args.count c.args.bytes.now c.requires.0)
