-- `decoding::read_sent` meets its contract.
use Rattle.memory.specs.Layout.{outstanding_size}
use Rattle.buffer.proofs.Writes.{part-between}
use Rattle.decoding.proofs.read_sent.Goals as goal

pub returns : goal.returns
returns c = cc (part-between c.args.memory.now c.args.at outstanding_size)
