-- `packing::packed_two` meets its contract: the parts do not overlap, so that their sum fits 64 bits.
use Rattle.packing.proofs.Packing.{two-sum}
use Rattle.packing.proofs.packed_two.Goals as goal

pub returns : goal.returns
returns c = two-sum _ _
