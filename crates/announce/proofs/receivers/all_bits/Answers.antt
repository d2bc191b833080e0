-- `announce::receivers::all_bits` meets its contract.
use Rattle.gateway.specs.Rounds.{all_bits}
use Rattle.announce.proofs.receivers.all_bits.Goals as goal

pub returns-in-None : goal.returns-in-None
unfolding all_bits
returns-in-None c = rw c.in-None.is

pub returns-in-One : goal.returns-in-One
unfolding all_bits
returns-in-One c = rw c.in-One.is

pub returns-in-Two : goal.returns-in-Two
unfolding all_bits
returns-in-Two c = rw c.in-Two.is
