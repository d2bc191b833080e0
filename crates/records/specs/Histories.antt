-- A history: messages that a gateway does one after another, each with the state that the lamp model gives.
use Rattle.std.specs.Prelude.{List, [], ◌∷◌}
use Rattle.model.specs.Doing.{after}
use Rattle.model.specs.declared.Message.{Message}
use Rattle.model.specs.declared.State.{State}
use Rattle.records.specs.Events.{Event}

-- the events of a history from a state on: each message, and the state after it, in which the next one is done
unfoldable pub events_from : State → List Message → List Event
events_from s [] = []
events_from s (m ∷ ms) = let next = after s m.kind in record { message = m; state = next } ∷ events_from next ms
