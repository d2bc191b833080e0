-- `places::changes::remove_sent` meets its contract.
use mathlib.Core.Path.{refl}
use native.Mathlib.Omega.{arith}
use Rattle.buffer.proofs.Lent.{bytes-known}
use Rattle.gateway.proofs.Knowing.{sizes}
use Rattle.places.proofs.Changing.{without-sent}
use Rattle.places.proofs.changes.remove_sent.Goals as goal

pub remove-requires : goal.remove-requires
remove-requires c = let z = sizes _ _ c.requires.0 in record { below = c.requires.1; header = omega arith; inside = omega arith }

pub returns : goal.returns
returns c = without-sent c.args.memory.now c.args.header (search bytes-known) c.requires.0 c.args.k c.requires.1 refl c.remove.ensures
