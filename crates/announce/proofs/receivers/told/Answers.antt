-- `announce::receivers::told` meets its contract.
use native.Mathlib.Omega.{arith}
use Rattle.announce.proofs.Neighbours.{bytes-told}
use Rattle.announce.proofs.receivers.told.Goals as goal

pub narrowed-requires : goal.narrowed-requires
narrowed-requires c = bytes-told c.new.ensures (omega arith) c.requires c.to_of.ensures
