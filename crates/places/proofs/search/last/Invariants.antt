use mathlib.Core.Path.{◌≡◌}
use mathlib.Core.Bool.{Bool}
use Rattle.lists.specs.Inside.Positions.{past_last}
use Rattle.memory.specs.Codec.{places_at}
use Rattle.places.specs.Inside.Searching.{Answers}
use Rattle.places.proofs.search.last.Given as goal

abbrev pub invariant-loop-k : goal.invariant-loop-k
invariant-loop-k g l =
    (f : g.row.P.Denot → Bool) → Answers (goal.F-post g l.test) f → past_last f (places_at g.P.Place.held g.P.Place.SIZE l.memory l.base l.count)
    ≡ past_last f (places_at g.P.Place.held g.P.Place.SIZE l.memory l.base l.k)
