-- `take_acknowledgment::take_acknowledgment` meets its contract.
use mathlib.Core.Path.{refl}
use native.Mathlib.Omega.{arith}
use Rattle.places.proofs.Found.{place-found, place-inside, place-none}
use Rattle.take_acknowledgment.proofs.Acknowledging.{acknowledgment-of-none, acknowledgment-of-one}
use Rattle.gateway.proofs.Knowing.{sizes}
use Rattle.take_acknowledgment.proofs.take_acknowledgment.Goals as goal

pub find_sent-requires : goal.find_sent-requires
find_sent-requires c = let z = sizes _ _ c.requires in omega arith

pub returns-in-None : goal.returns-in-None
returns-in-None c =
    acknowledgment-of-none _ _ c.requires _ _ _ refl (place-none _ _ c.in-None.ensures)

pub remove_sent-requires : goal.remove_sent-requires
remove_sent-requires c = (c.requires, place-inside _ _ c.in-Some.ensures)

pub returns-in-Some : goal.returns-in-Some
returns-in-Some c =
    acknowledgment-of-one _ _ c.requires _ _ _ (place-found _ _ c.in-Some.ensures) (place-inside _ _ c.in-Some.ensures) c.remove_sent.ensures
