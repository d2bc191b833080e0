-- The elementary steps of the events. Every call on a gateway that is not refused is a chain of these and of the round's.
use Rattle.std.specs.Prelude.{List, [], ◌∷◌, ◌++◌, map, ◌≡◌, ℕ, ◌≤◌, ◌<◌}
use Rattle.lists.specs.Lists.{All, Insert, Inserts}
use Rattle.event_steps.specs.Models.{Model, hour, NotLater, sent_by}
use Rattle.event_steps.specs.Gateways.{Event, plain, cancel, message, Gateway, Network, history, gateway_of, network_of}

-- `Taking M time g e g'`: what becomes of the event e that the gateway g takes, whose agreed time is `time`. Only what is
-- processed or committed is in a fixed order; into the other lists a new element is put at any place.
module _ (M : Model) (time : ℕ) (g : Gateway M.Message) where
  open M use {Message}

  pub data Taking : Event Message → Gateway Message → Type 0 where
    -- A message not below the agreed time and not earlier than anything processed becomes pending.
    becomes_pending :
        (m : Message) {pending : List Message} →
        time ≤ hour M m →
        All (λ p. NotLater M p m) g.processed →
        Insert m g.pending pending →
        Taking (plain m) (gateway_of g.committed g.processed pending g.waiting g.outstanding)
    -- A message whose cancel waits: both vanish.
    meets_cancel :
        (m : Message) {waiting : List Message} →
        Insert m waiting g.waiting →
        Taking (plain m) (gateway_of g.committed g.processed g.pending waiting g.outstanding)
    -- A cancel whose message is pending: both vanish.
    strikes_out :
        (m : Message) {pending : List Message} →
        Insert m pending g.pending →
        Taking (cancel m) (gateway_of g.committed g.processed pending g.waiting g.outstanding)
    -- A cancel that waits.
    waits :
        (m : Message) {waiting : List Message} →
        Insert m g.waiting waiting →
        Taking (cancel m) (gateway_of g.committed g.processed g.pending waiting g.outstanding)

-- `EventStep M i time g n sent g' n'`: gateway i, whose agreed time is `time`, takes a step from g to g' and the network
-- from n to n'. Of each message in `sent` it sends the message or its cancel.
module _ (M : Model) (i time : ℕ) (g : Gateway M.Message) (n : Network M.Message) where
  open M use {Message, from, to}

  pub data EventStep : List Message → Gateway Message → Network Message → Type 0 where
    -- The earliest pending message is done. What it sends goes under way and is outstanding.
    does :
        (m : Message) {rest : List Message} {out events : List (Event Message)} →
        Insert m rest g.pending →
        All (NotLater M m) rest →
        Inserts (map plain (sent_by M i (history g) m)) g.outstanding out →
        Inserts (map plain (sent_by M i (history g) m)) n.events events →
        EventStep
        (sent_by M i (history g) m)
        (gateway_of g.committed (m ∷ g.processed) rest g.waiting out)
        (network_of events n.acknowledgments)
    -- The latest processed event is undone, as something no later than it is under way to this gateway. The cancels of
    -- what it sent go under way and are outstanding.
    undoes :
        (m : Message) {older pending : List Message} {out events others : List (Event Message)} (e : Event Message) →
        Insert e others n.events →
        to (message e) ≡ i →
        NotLater M (message e) m →
        g.processed ≡ m ∷ older →
        Insert m g.pending pending →
        Inserts (map cancel (sent_by M i (older ++ g.committed) m)) g.outstanding out →
        Inserts (map cancel (sent_by M i (older ++ g.committed) m)) n.events events →
        EventStep
        (sent_by M i (older ++ g.committed) m)
        (gateway_of g.committed older pending g.waiting out)
        (network_of events n.acknowledgments)
    -- An event under way to this gateway is taken and acknowledged.
    takes :
        (e : Event Message) {g' : Gateway Message} {events acks : List (Event Message)} →
        Insert e events n.events →
        Insert e n.acknowledgments acks →
        to (message e) ≡ i →
        Taking M time g e g' →
        EventStep [] g' (network_of events acks)
    -- An acknowledgment is taken: one equal outstanding event goes.
    takes_acknowledgment :
        (e : Event Message) {out acks : List (Event Message)} →
        Insert e acks n.acknowledgments →
        from (message e) ≡ i →
        Insert e out g.outstanding →
        EventStep
        []
        (gateway_of g.committed g.processed g.pending g.waiting out)
        (network_of n.events acks)
    -- The oldest processed event is committed if its hour is below the agreed time.
    commits :
        (m : Message) {newer : List Message} →
        g.processed ≡ newer ++ (m ∷ []) →
        hour M m < time →
        EventStep [] (gateway_of (m ∷ g.committed) newer g.pending g.waiting g.outstanding) n
