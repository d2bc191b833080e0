-- `hurfaith::hurfaith_commit` meets its contract.
use Rattle.buffer.proofs.Lent.{bytes-known}
use Rattle.hurfaith.proofs.Packing.{answer-packed, committed-fits}
use Rattle.hurfaith.proofs.hurfaith_commit.Goals as goal

pub packed_result-requires : goal.packed_result-requires
packed_result-requires c = search (committed-fits, bytes-known)

pub returns : goal.returns
returns c = search answer-packed
