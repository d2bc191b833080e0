-- `packing::packed` meets its contract: the parts do not overlap, so that their sum fits 64 bits.
use Rattle.packing.proofs.Packing.{packed-sum}
use Rattle.packing.proofs.packed.Goals as goal

pub returns : goal.returns
returns c = packed-sum _ _ _
