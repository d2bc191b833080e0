-- `announce::receivers::heard` meets its contract.
use native.Mathlib.Omega.{arith}
use Rattle.announce.proofs.Neighbours.{bytes-heard}
use Rattle.announce.proofs.receivers.heard.Goals as goal

pub narrowed-requires : goal.narrowed-requires
narrowed-requires c = bytes-heard c.new.ensures (omega arith) c.requires c.from_of.ensures
