-- The gateways' queues and outstanding lists, and the events under way between them.
use Rattle.std.specs.Prelude.{List, [], ◌++◌, ℕ}
use Rattle.lists.specs.Families.{change}
use Rattle.event_steps.specs.Models.{Model}

-- What is sent as an event: a message, or the cancel of one.
pub data Event (Message : Type 0) : Type 0 where
  plain cancel : Message → Event Message

-- A gateway. Committed and processed have the newest event in front; pending are the plain messages not processed, waiting
-- the cancels that have met no equal message, outstanding the events sent and not yet acknowledged.
pub record Gateway (Message : Type 0) : Type 0 where
  pub committed : List Message
  pub processed : List Message
  pub pending : List Message
  pub waiting : List Message
  pub outstanding : List (Event Message)

-- The events under way, each to the gateway in its to, and the acknowledgments under way, each to the gateway in its from
-- and written as the event that it acknowledges.
pub record Network (Message : Type 0) : Type 0 where
  pub events : List (Event Message)
  pub acknowledgments : List (Event Message)

-- All gateways with the network.
pub record Data (Message : Type 0) : Type 0 where
  pub gateways : ℕ → Gateway Message
  pub network : Network Message

module _ {Message : Type 0} where
  -- The message that an event carries or cancels.
  unfoldable pub message : Event Message → Message
  message (plain m) = m
  message (cancel m) = m

  -- What a gateway has done and not undone, the newest event in front.
  unfoldable pub history : Gateway Message → List Message
  history g = g.processed ++ g.committed

  -- A gateway from its committed, processed, pending and waiting messages and what is outstanding.
  abbrev pub gateway_of : List Message → List Message → List Message → List Message → List (Event Message) → Gateway Message
  gateway_of c p q w o = record { committed = c; processed = p; pending = q; waiting = w; outstanding = o }

  -- A network from its events and acknowledgments.
  abbrev pub network_of : List (Event Message) → List (Event Message) → Network Message
  network_of e a = record { events = e; acknowledgments = a }

  -- The data after gateway i has become g and the network n.
  unfoldable pub after : ℕ → Gateway Message → Network Message → Data Message → Data Message
  after i g n d = record { gateways = change i g d.gateways; network = n }

-- Before the first step every gateway has its opening list pending.
unfoldable pub opening_data : (M : Model) → Data M.Message
opening_data M = record { gateways = λ i. gateway_of [] [] (M.opening i) [] []; network = network_of [] [] }
