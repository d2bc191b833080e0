-- Outstanding: each event is outstanding at its sender as often as it or its acknowledgment is under way.
use mathlib.Core.List.{List, ◌++◌}
use mathlib.Core.Path.{◌≡◌, refl, ap, ◌∙◌}
use mathlib.Core.Logic.{◌≢◌}
use Prim.Native.Nat.{ℕ, ◌+◌, ◌≤◌}
use native.Mathlib.Omega.{arith}
use Rattle.lists.specs.Lists.{All, count}
use Rattle.lists.proofs.ListLaws.{all-image, count-insert, count-inserts, count_none, matches-other}
use Rattle.event_steps.specs.Models.{Model, ModelLaws}
use Rattle.event_steps.specs.Gateways.{Event, plain, cancel, message, Gateway, Network, history}
use Rattle.event_steps.specs.EventSteps.{EventStep, does, undoes, takes, takes_acknowledgment, commits}
use Rattle.event_steps.proofs.OrderLaws.{event-eq}
use Rattle.event_steps.proofs.Addressing.{sent-from}
use Rattle.event_steps.proofs.StepLaws.{taking-outstanding}

module _ (M : Model) where
  open M use {Message, from, to, last, never}

  -- How often an event or its acknowledgment is under way.
  unfoldable pub unsettled : Event Message → Network Message → ℕ
  unsettled e n = count (event-eq M) e n.events + count (event-eq M) e n.acknowledgments

  -- At the gateway that takes the step, what becomes outstanding is what becomes unsettled.
  pub settled_here :
      {i time : ℕ} {g g' : Gateway Message} {n n' : Network Message} {sent : List Message} →
      EventStep M i time g n sent g' n' →
      (e : Event Message) →
      count (event-eq M) e g'.outstanding + unsettled e n ≡ count (event-eq M) e g.outstanding + unsettled e n'
  unfolding unsettled
  settled_here (does m take first out under) e = omega (arith, count-inserts (event-eq M) e out, count-inserts (event-eq M) e under)
  settled_here (undoes m x under here no-later latest back out under') e = omega (arith, count-inserts (event-eq M) e out, count-inserts (event-eq M) e under')
  settled_here (takes x under ack here taking) e =
      omega (
        arith,
        count-insert (event-eq M) e under,
        count-insert (event-eq M) e ack,
        ap (count (event-eq M) e) (taking-outstanding M taking),
      )
  settled_here (takes_acknowledgment x ack here out) e = omega (arith, count-insert (event-eq M) e ack, count-insert (event-eq M) e out)
  settled_here (commits m first due) e = refl

  none_elsewhere : (i : ℕ) {s : List (Event Message)} → All (λ y. from (message y) ≡ i) s → (e : Event Message) → from (message e) ≢ i →
      count (event-eq M) e s ≡ 0
  none_elsewhere i a e k = count_none (event-eq M) e a k

  -- What another gateway sent stays as unsettled as it was.
  pub settled-elsewhere :
      ModelLaws M →
      {i time : ℕ} {g g' : Gateway Message} {n n' : Network Message} {sent : List Message} →
      EventStep M i time g n sent g' n' →
      i ≤ last →
      (e : Event Message) →
      from (message e) ≢ i →
      unsettled e n' ≡ unsettled e n
  unfolding unsettled message
  settled-elsewhere laws {i} {g = g} (does m take first out under) inside e k =
      omega (arith, count-inserts (event-eq M) e under, none_elsewhere i (all-image plain (sent-from M laws i inside (history g) m)) e k)
  settled-elsewhere laws {i} {g = g} (undoes m {older = older} x under here no-later latest back out under') inside e k =
      omega (
        arith,
        count-inserts (event-eq M) e under',
        none_elsewhere i (all-image cancel (sent-from M laws i inside (older ++ g.committed) m)) e k,
      )
  settled-elsewhere laws (takes x under ack here taking) inside e k =
      omega (arith, count-insert (event-eq M) e under, count-insert (event-eq M) e ack)
  settled-elsewhere laws {i} (takes_acknowledgment x ack here out) inside e k =
      omega (arith, count-insert (event-eq M) e ack, matches-other (event-eq M) {a = e} {b = x} (λ p. k (ap (λ y. from (message y)) p ∙ here)))
  settled-elsewhere laws (commits m first due) inside e k = refl
