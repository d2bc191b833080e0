-- `decoding::read_entry` meets its contract.
use Rattle.memory.specs.Layout.{queue_size}
use Rattle.buffer.proofs.Writes.{part-between}
use Rattle.decoding.proofs.read_entry.Goals as goal

pub returns : goal.returns
returns c = cc (part-between c.args.memory.now c.args.at queue_size)
