-- `hurfaith::hurfaith_take` meets its contract.
use Rattle.buffer.proofs.Lent.{bytes-known}
use Rattle.hurfaith.proofs.Packing.{answer-packed, taken-fits}
use Rattle.hurfaith.proofs.hurfaith_take.Goals as goal

pub packed_result-requires : goal.packed_result-requires
packed_result-requires c = search (taken-fits, bytes-known)

pub returns : goal.returns
returns c = search answer-packed
