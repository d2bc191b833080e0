-- `hurfaith::hurfaith_work` meets its contract.
use mathlib.Core.Path.{◌∙◌}
use Rattle.buffer.proofs.Lent.{bytes-known}
use Rattle.hurfaith.proofs.Packing.{work-packed, worked-fits}
use Rattle.hurfaith.proofs.hurfaith_work.Goals as goal

pub packed-requires : goal.packed-requires
packed-requires c = worked-fits c.args.memory.now c.args.output.now (search bytes-known) c.args.budget c.work-worked.ensures

pub returns : goal.returns
returns c = work-packed c.work-worked.ensures (c.packed.ensures ∙ rw c.number_if.ensures)
