-- `events::work_one` meets its contract.
use mathlib.Core.Path.{refl}
use Rattle.places.proofs.Found.{place-found, place-inside, place-none}
use Rattle.events.proofs.EventDone.{found-next, none_left, stock-there}
use Rattle.events.proofs.work_one.Goals as goal

pub returns-in-None : goal.returns-in-None
returns-in-None c =
    λ before g reached. none_left reached c.args.room refl (place-none _ _ c.in-None.ensures) c.stopped.ensures

pub work_at-requires : goal.work_at-requires
work_at-requires c = (
  c.requires,
  place-inside _ _ c.in-Some.ensures,
  stock-there c.args.memory.now _ c.requires.place (place-found _ _ c.in-Some.ensures) (place-inside _ _ c.in-Some.ensures) c.requires.stock,
)

pub returns-in-Some : goal.returns-in-Some
returns-in-Some c =
    λ before g reached. c.work_at.ensures before g reached (found-next reached (place-found _ _ c.in-Some.ensures))
