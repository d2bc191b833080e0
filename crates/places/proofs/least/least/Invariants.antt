use Prim.Native.Nat.{ℕ, ◌≤◌}
use Rattle.memory.specs.Codec.{places_at}
use Rattle.places.specs.Inside.Searching.{Answers, least_of}
use Rattle.places.proofs.LeastHours.{Lowering}
use Rattle.places.proofs.least.least.Given as goal

abbrev pub invariant-loop-k : goal.invariant-loop-k
invariant-loop-k g l =
    (l.least ≤ 4294967295)
    × ((f : g.row.P.Denot → ℕ) → Answers (goal.F-post g l.hour) f → Lowering g.P.Place.held f g.P.Place.SIZE l.base l.memory l.count (least_of f (places_at g.P.Place.held g.P.Place.SIZE
    l.memory l.base l.count)) l.k l.least)
