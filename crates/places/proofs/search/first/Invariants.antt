use mathlib.Core.Bool.{Bool}
use Prim.Native.Nat.{◌-◌, ◌+◌, ◌*◌}
use Rattle.lists.specs.Inside.Positions.{first_where}
use Rattle.memory.specs.Codec.{places_at}
use Rattle.places.specs.Inside.Searching.{Answers}
use Rattle.places.proofs.Positions.{Left}
use Rattle.places.proofs.search.first.Given as goal

abbrev pub invariant-loop-k : goal.invariant-loop-k
invariant-loop-k g l =
    (f : g.row.P.Denot → Bool) → Answers (goal.F-post g l.test) f → Left g.P.Place.held f g.P.Place.SIZE l.base l.memory l.count (l.start + first_where f (places_at g.P.Place.held g.P.Place.SIZE
    l.memory (l.base + g.P.Place.SIZE * l.start) (l.count - l.start))) l.k
