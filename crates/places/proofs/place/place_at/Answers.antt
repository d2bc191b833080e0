-- `places::place::place_at` meets its contract.
use Rattle.std.proofs.Math.Nat.{add-sub_cancel_left}
use Rattle.buffer.specs.Slice.{part}
use Rattle.places.proofs.place.place_at.Goals as goal

pub returns : goal.returns
unfolding part
returns g c = rw (c.SIZE.ensures, c.SIZE-2.ensures, add-sub_cancel_left) at c.held.ensures
