-- What is claimed of every world that can be reached.
use Rattle.std.specs.Prelude.{List, [], ◌∷◌, ◌++◌, ◌≡◌, ℕ, suc, ◌*◌, ◌≤◌, ◌<◌}
use Rattle.lists.specs.Lists.{All, Insert}
use Rattle.event_steps.specs.Models.{ModelLaws, hour}
use Rattle.event_steps.specs.Gateways.{Event, message, Gateway}
use Rattle.event_steps.specs.SingleQueue.{single_history, EarlierPart}
use Rattle.round_steps.specs.Arcs.{round_messages}
use Rattle.round_steps.specs.RoundSteps.{Completed, InTurn}
use Rattle.timewarp.specs.Worlds.{Setting, World, Step, Reachable}

module _ (S : Setting) where
  open S use {model, graph}
  open model use {Message, from, to, last, never}

  -- Nothing to commit: the oldest processed event, if there is one, is not below the agreed time.
  abbrev pub NothingToCommit : ℕ → Gateway Message → Type 0
  NothingToCommit time g = (m : Message) (newer : List Message) → g.processed ≡ newer ++ (m ∷ []) → time ≤ hour model m

  -- The time is past the hour of none of these messages, or of none of these events.
  abbrev pub NotPast : ℕ → List Message → Type 0
  NotPast time l = All (λ m. time ≤ hour model m) l

  abbrev pub NotPastEvents : ℕ → List (Event Message) → Type 0
  NotPastEvents time l = All (λ e. time ≤ hour model (message e)) l

  -- The event is outstanding at its sender.
  abbrev pub IsOutstanding : World S → Event Message → Type 0
  IsOutstanding w e = (rest : List (Event Message)) × Insert e rest (w.events.gateways (from (message e))).outstanding

  pub record Claim (w : World S) : Type 0 where
    -- What a gateway has committed is a beginning of what the single queue does there.
    pub beginning : (i : ℕ) → i ≤ last → EarlierPart (w.events.gateways i).committed (single_history model i)
    -- Where the agreed time is above every hour and nothing is left to commit it is all of it.
    pub whole :
        (i : ℕ) →
        i ≤ last →
        never ≤ w.rounds.agreed i →
        NothingToCommit (w.rounds.agreed i) (w.events.gateways i) →
        (w.events.gateways i).committed ≡ single_history model i
    -- No agreed time falls in a step.
    pub never-falls : (v : World S) → Step S w v → (i : ℕ) → w.rounds.agreed i ≤ v.rounds.agreed i
    -- No agreed time is past the hour of anything pending, waiting or under way.
    pub bound-pending : (i j : ℕ) → i ≤ last → j ≤ last → NotPast (w.rounds.agreed i) (w.events.gateways j).pending
    pub bound-waiting : (i j : ℕ) → i ≤ last → j ≤ last → NotPast (w.rounds.agreed i) (w.events.gateways j).waiting
    pub bound-events : (i : ℕ) → i ≤ last → NotPastEvents (w.rounds.agreed i) w.events.network.events
    pub bound-acknowledgments : (i : ℕ) → i ≤ last → NotPastEvents (w.rounds.agreed i) w.events.network.acknowledgments
    -- A completed round took two messages an arc and one for each gateway but 0: fewer than four for each gateway.
    pub rounds : (t : ℕ) → Completed graph w.rounds t → w.rounds.written t ≡ round_messages graph
    pub rounds-few : (t : ℕ) → Completed graph w.rounds t → w.rounds.written t < 4 * suc last
    -- Every frame of a round under way is what its receiver waits for; an Lvt is not below its receiver's agreed time.
    pub in-turn : All (InTurn graph w.rounds) w.rounds.frames
    -- Every acknowledgment under way finds its event outstanding.
    pub acknowledged : All (IsOutstanding w) w.events.network.acknowledgments

-- The theorem: where the model has what is asked of it, it holds of every world that can be reached.
abbrev pub AlwaysClaimed : Type 1
AlwaysClaimed = (S : Setting) → ModelLaws S.model → (w : World S) → Reachable S w → Claim S w
