-- What the walk over the events of a record gives.
use Rattle.std.specs.Prelude.{ℕ, List}
use Rattle.records.specs.Events.{cut_events}
use Rattle.records.specs.declared.events.Events.{Events}

-- the bytes of the events that are left
abbrev pub events_left : Events → List (List ℕ)
events_left e = cut_events e.stock e.rest.now
