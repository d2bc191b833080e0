-- Each gateway's committed record is the writing of a history: messages that the gateway did one after another, each with the state that
-- the lamp model gives from the opening stock on. That history is a beginning of what the single queue does at that gateway.
use Rattle.std.specs.Prelude.{◌≡◌, ℕ, zero, suc, ◌<◌, List, [], ◌∷◌, ◌++◌, eqb}
use Rattle.lists.specs.Lists.{Beginning, joined, passing}
use Rattle.model.specs.Doing.{opening_state}
use Rattle.model.specs.declared.Message.{Message}
use Rattle.records.specs.Events.{Event, events_of}
use Rattle.records.specs.Histories.{events_from}
use Rattle.records.specs.declared.StockField.TheVariants.{Present}
use Rattle.gateway.specs.Committing.{record_for}
use Rattle.run.specs.Forecast.{SetUpInput, Forecast}
use Rattle.run.specs.SingleQueue.{Queue, opening_queue, earliest, step_on, turns_for, whole_record}
use Rattle.run.specs.World.{Call, opening_world, after_calls, AllAllowed}

-- the message that the single queue does next: the first of its list in event order, if there is one
unfoldable pub next_of : List Message → List Message
next_of [] = []
next_of (m ∷ l) = earliest m l ∷ []

-- the messages that it does in so many steps, in order
unfoldable pub done_in : (ℕ → SetUpInput) → ℕ → Queue → List Message
done_in setups zero q = []
done_in setups (suc turns) q = next_of q.list ++ done_in setups turns (step_on setups q q.list)

-- the single queue's history for gateway i: those of all its messages that are to i
unfoldable pub single_history : ℕ → ℕ → (ℕ → SetUpInput) → ℕ → List Message
single_history n last setups i =
    let q = opening_queue n setups in
    passing (λ m. eqb m.to i) (done_in setups (turns_for last q.list) q)

-- the events of a history at gateway i: each message, and the state that the lamp model gives after it, from the opening stock on
abbrev pub events_at : (ℕ → SetUpInput) → ℕ → List Message → List Event
events_at setups i messages = events_from (opening_state (setups i).opening.stock) messages

-- events as commit writes them, one behind the other
abbrev pub writing : List Event → List ℕ
writing events = joined (λ e. record_for e.message e.state) events

-- Bytes are the record of a history at gateway i.
pub record History (n last : ℕ) (setups : ℕ → SetUpInput) (i : ℕ) (bytes : List ℕ) : Type 0 where
  -- the messages done there and committed, the first first
  pub messages : List Message
  -- the bytes are the writing of its events
  pub written : bytes ≡ writing (events_at setups i messages)
  -- and reading them gives these events back
  pub read : events_of Present bytes ≡ events_at setups i messages
  -- it is a beginning of the single queue's
  pub begins : Beginning messages (single_history n last setups i)

-- After every list of calls that demand 3 allows each gateway's record is that of a history.
abbrev pub Histories : Type 0
Histories =
    (n last : ℕ) (setups : ℕ → SetUpInput) (lent : ℕ → List ℕ) → Forecast n last setups lent
    → (calls : List Call) → AllAllowed n (opening_world setups lent) calls
    → (i : ℕ) → i < n → History n last setups i ((after_calls n (opening_world setups lent) calls).records i)

-- And the single queue's whole record is the writing of its whole history.
abbrev pub SingleQueueWrites : Type 0
SingleQueueWrites =
    (n last : ℕ) (setups : ℕ → SetUpInput) (lent : ℕ → List ℕ) → Forecast n last setups lent
    → (i : ℕ) → i < n → whole_record n last setups i ≡ writing (events_at setups i (single_history n last setups i))
