-- What a step does to the parts of a gateway: the history before an undo, a commit and a taking.
use mathlib.Core.List.{List, [], ◌∷◌, ◌++◌, append_assoc}
use mathlib.Core.Path.{◌≡◌, refl}
use Prim.Native.Nat.{ℕ}
use Rattle.event_steps.specs.Models.{Model}
use Rattle.event_steps.specs.Gateways.{Event, Gateway, history}
use Rattle.event_steps.specs.EventSteps.{Taking, becomes_pending, meets_cancel, strikes_out, waits}

module _ {Message : Type 0} where
  -- The history before the latest event is undone, and before the oldest processed one is committed.
  pub history_undone :
      (g : Gateway Message) {m : Message} {older : List Message} →
      g.processed ≡ m ∷ older →
      history g ≡ m ∷ (older ++ g.committed)
  unfolding history
  history_undone g e = rw e

  pub history-committed :
      (g : Gateway Message) (m : Message) (newer : List Message) →
      g.processed ≡ newer ++ (m ∷ []) →
      history g ≡ newer ++ (m ∷ g.committed)
  unfolding history
  history-committed g m newer e = rw (e, append_assoc)

module _ (M : Model) where
  open M use {Message}

  pub taking-history : {time : ℕ} {g g' : Gateway Message} {e : Event Message} → Taking M time g e g' → history g' ≡ history g
  unfolding history
  taking-history (becomes_pending m time after put) = refl
  taking-history (meets_cancel m put) = refl
  taking-history (strikes_out m put) = refl
  taking-history (waits m put) = refl

  pub taking-outstanding : {time : ℕ} {g g' : Gateway Message} {e : Event Message} → Taking M time g e g' → g'.outstanding ≡ g.outstanding
  taking-outstanding (becomes_pending m time after put) = refl
  taking-outstanding (meets_cancel m put) = refl
  taking-outstanding (strikes_out m put) = refl
  taking-outstanding (waits m put) = refl
