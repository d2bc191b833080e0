-- The world: the events and the rounds together, its steps, and the worlds that can be reached.
use Rattle.std.specs.Prelude.{List, [], ◌∷◌, ◌≡◌, ℕ, ◌≤◌, min}
use Rattle.lists.specs.Lists.{least}
use Rattle.event_steps.specs.Models.{Model, hour}
use Rattle.event_steps.specs.Gateways.{message, Gateway, Network, Data, after, opening_data}
use Rattle.event_steps.specs.EventSteps.{EventStep}
use Rattle.round_steps.specs.Arcs.{Graph}
use Rattle.round_steps.specs.RoundSteps.{Rounds, RoundStep, lower, opening}

-- What a forecast is run on: a model, and the arcs between the same gateways.
pub record Setting : Type 1 where
  pub model : Model
  pub graph : Graph
  pub same-gateways : graph.last ≡ model.last

pub record World (S : Setting) : Type 0 where
  pub events : Data S.model.Message
  pub rounds : Rounds

module _ (S : Setting) where
  open S use {model, graph}
  open model use {Message, last, never}

  -- Before the first step.
  unfoldable pub opening_world : World S
  opening_world = record { events = opening_data model; rounds = opening }

  -- The least hour outstanding at a gateway, nothing due if none.
  unfoldable pub least_outstanding : Gateway Message → ℕ
  least_outstanding g = least never (λ e. hour model (message e)) g.outstanding

  -- The least hour of a gateway's unprocessed messages and waiting cancels, nothing due if none.
  unfoldable pub least_waiting : Gateway Message → ℕ
  least_waiting g = min (least never (hour model) g.pending) (least never (hour model) g.waiting)

  -- The rounds after gateway i has sent each of these messages or its cancel.
  unfoldable pub lower_all : ℕ → List Message → Rounds → Rounds
  lower_all i [] r = r
  lower_all i (m ∷ sent) r = lower_all i sent (lower i (hour model m) r)

  -- What a step of the round reads: v is the least hour outstanding at gateway i, or the least that waits there.
  abbrev pub ReadsOutstanding : World S → ℕ → ℕ → Type 0
  ReadsOutstanding w i v = v ≡ least_outstanding (w.events.gateways i)

  abbrev pub ReadsWaiting : World S → ℕ → ℕ → Type 0
  ReadsWaiting w i v = v ≡ least_waiting (w.events.gateways i)

  -- A step of the events at a gateway, in which what is sent lowers the note, or a step of the round.
  pub data Step (w : World S) : World S → Type 0 where
    event :
        {i : ℕ} {sent : List Message} {g : Gateway Message} {n : Network Message} →
        i ≤ last →
        EventStep model i (w.rounds.agreed i) (w.events.gateways i) w.events.network sent g n →
        Step w (record { events = after i g n w.events; rounds = lower_all i sent w.rounds })
    round :
        {r : Rounds} →
        RoundStep graph (ReadsOutstanding w) (ReadsWaiting w) w.rounds r →
        Step w (record { events = w.events; rounds = r })

  -- Any number of steps, one after another.
  pub data Steps (w : World S) : World S → Type 0 where
    none : Steps w w
    then : {v u : World S} → Steps w v → Step v u → Steps w u

  abbrev pub Reachable : World S → Type 0
  Reachable w = Steps opening_world w
