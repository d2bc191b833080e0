-- The events that a gateway has committed follow from its opening stock by the lamp model.
use mathlib.Core.Path.{◌≡◌, refl, sym, ◌∙◌, ap, ap₂}
use Prim.Native.Nat.{ℕ}
use mathlib.Core.List.{List, [], ◌∷◌, ◌++◌}
use Rattle.model.specs.Doing.{opening_state, after}
use Rattle.model.specs.declared.Message.{Message}
use Rattle.model.specs.declared.State.{State}
use Rattle.event_steps.specs.Models.{state_after}
use Rattle.records.specs.Events.{Event}
use Rattle.records.specs.Histories.{events_from}
use Rattle.run.specs.Forecast.{SetUpInput}
use Rattle.run.proofs.SavedStates.{state_at}
use Rattle.run.proofs.SingleHistories.{in_order}
use Rattle.run.proofs.CommittedEvents.{events_after}

-- the state after messages, done one after another
unfoldable state_from : State → List Message → State
state_from s [] = s
state_from s (m ∷ ms) = state_from (after s m.kind) ms

state-more : (s : State) (ms : List Message) (m : Message) → state_from s (ms ++ (m ∷ [])) ≡ after (state_from s ms) m.kind
unfolding state_from
state-more s [] m = refl
state-more s (x ∷ ms) m = state-more (after s x.kind) ms m

events-more : (s : State) (ms : List Message) (m : Message)
    → events_from s (ms ++ (m ∷ [])) ≡ events_from s ms ++ (record { message = m; state = after (state_from s ms) m.kind } ∷ [])
unfolding events_from state_from
events-more s [] m = refl
events-more s (x ∷ ms) m = ap (◌∷◌ (record { message = x; state = after s x.kind })) (events-more (after s x.kind) ms m)

module _ (n last : ℕ) (setups : ℕ → SetUpInput) (i : ℕ) where
  -- the state after a history
  state-after : (h : List Message) → state_at n last setups i h ≡ state_from (opening_state (setups i).opening.stock) (in_order h)
  unfolding state_after state_from in_order
  state-after [] = refl
  state-after (m ∷ h) =
      ap (λ (s : State). after s m.kind) (state-after h) ∙ sym (state-more (opening_state (setups i).opening.stock) (in_order h) m)

  pub events-follow : (h : List Message) → events_after n last setups i h ≡ events_from (opening_state (setups i).opening.stock) (in_order h)
  unfolding events_after state_after events_from in_order
  events-follow [] = refl
  events-follow (m ∷ h) =
      let s = opening_state (setups i).opening.stock in
      ap₂ (λ (es : List Event) (t : State). es ++ (record { message = m; state = after t m.kind } ∷ [])) (events-follow h) (state-after h)
      ∙ sym (events-more s (in_order h) m)
