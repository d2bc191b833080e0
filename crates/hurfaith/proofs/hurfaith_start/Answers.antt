-- `hurfaith::hurfaith_start` meets its contract.
use Rattle.buffer.proofs.Lent.{bytes-known}
use Rattle.hurfaith.proofs.Packing.{answer-packed, started-fits}
use Rattle.hurfaith.proofs.hurfaith_start.Goals as goal

pub packed_result-requires : goal.packed_result-requires
packed_result-requires c = search (started-fits, bytes-known)

pub returns : goal.returns
returns c = search answer-packed
