-- Order: a gateway's history is sorted and not later than anything pending, and what is committed is below its agreed time.
use mathlib.Core.List.{List, ◌∷◌}
use mathlib.Core.Path.{subst}
use Prim.Native.Nat.{ℕ, ◌≤◌, ◌<◌}
use native.Mathlib.Omega.{arith}
use Rattle.lists.specs.Lists.{All, cons}
use Rattle.lists.proofs.ListLaws.{all_append, all_insert, all-taken, all_rest, all_map, all_both, all_tail}
use Rattle.event_steps.specs.Models.{Model, hour, NotLater}
use Rattle.event_steps.specs.Gateways.{Event, Gateway, Network, history}
use Rattle.event_steps.specs.EventSteps.{EventStep, does, undoes, takes, takes_acknowledgment, commits, Taking, becomes_pending}
use Rattle.event_steps.specs.EventSteps.{meets_cancel, strikes_out, waits}
use Rattle.event_steps.proofs.OrderLaws.{Sorted, newest, order-hour}
use Rattle.event_steps.proofs.StepLaws.{history_undone, history-committed}

module _ (M : Model) where
  open M use {Message}

  pub record Ordered (time : ℕ) (g : Gateway Message) : Type 0 where
    pub sorted : Sorted M (history g)
    pub up_to : All (λ q. All (λ p. NotLater M p q) (history g)) g.pending
    pub below : All (λ m. hour M m < time) g.committed

  sorted_tail : {m : Message} {h : List Message} → Sorted M (m ∷ h) → Sorted M h
  sorted_tail (newest a s) = s

  sorted_head : {m : Message} {h : List Message} → Sorted M (m ∷ h) → All (λ p. NotLater M p m) h
  sorted_head (newest a s) = a

  -- A larger agreed time keeps it.
  pub ordered-later : {s t : ℕ} {g : Gateway Message} → s ≤ t → Ordered s g → Ordered t g
  ordered-later h o =
      record { sorted = o.sorted; up_to = o.up_to; below = all_map (λ m k. omega arith) o.below }

  ordered-taking : {time : ℕ} {g g' : Gateway Message} {e : Event Message} → Taking M time g e g' → Ordered time g → Ordered time g'
  unfolding history
  ordered-taking (becomes_pending m time after put) o =
      record {
        sorted = o.sorted;
        up_to = all_insert put (all_append after (all_map (λ p k. order-hour M p m (omega arith)) o.below)) o.up_to;
        below = o.below;
      }
  ordered-taking (meets_cancel m put) o = record { sorted = o.sorted; up_to = o.up_to; below = o.below }
  ordered-taking (strikes_out m put) o =
      record { sorted = o.sorted; up_to = all_rest put o.up_to; below = o.below }
  ordered-taking (waits m put) o = record { sorted = o.sorted; up_to = o.up_to; below = o.below }

  pub ordered_step :
      {i time : ℕ} {g g' : Gateway Message} {n n' : Network Message} {sent : List Message} →
      EventStep M i time g n sent g' n' →
      Ordered time g →
      Ordered time g'
  unfolding history
  ordered_step (does m take first out under) o =
      record {
        sorted = newest (all-taken take o.up_to) o.sorted;
        up_to = all_both (λ q k a. cons k a) first (all_rest take o.up_to);
        below = o.below;
      }
  ordered_step {g} (undoes m e under here no-later latest back out under') o =
      let s : Sorted M (m ∷ _) = subst (Sorted M) (history_undone g latest) o.sorted in
      record {
        sorted = sorted_tail s;
        up_to =
            all_insert
            back
            (sorted_head s)
            (all_map (λ q a. all_tail (subst (All (λ p. NotLater M p q)) (history_undone g latest) a)) o.up_to);
        below = o.below;
      }
  ordered_step (takes e under ack here taking) o = ordered-taking taking o
  ordered_step (takes_acknowledgment e ack here out) o =
      record { sorted = o.sorted; up_to = o.up_to; below = o.below }
  ordered_step {g} (commits m {newer = newer} first due) o =
      record {
        sorted = subst (Sorted M) (history-committed g m newer first) o.sorted;
        up_to = all_map (λ q a. subst (All (λ p. NotLater M p q)) (history-committed g m newer first) a) o.up_to;
        below = cons due o.below;
      }
