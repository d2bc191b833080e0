-- Addresses: what a gateway has done, queued or waiting is addressed to it, and whatever is under way is between gateways and due.
use mathlib.Core.List.{List, ◌∷◌, map}
use mathlib.Core.Path.{◌≡◌, refl, ap, subst}
use Prim.Native.Nat.{ℕ, ◌≤◌, ◌<◌}
use lib.ListN.{length}
use native.Mathlib.Omega.{arith}
use Rattle.lists.specs.Lists.{All, cons}
use Rattle.lists.proofs.ListLaws.{all_insert, all-inserts, all-image, all-taken, all_rest, all_both, all_tail, all_head}
use Rattle.event_steps.specs.Models.{Model, ModelLaws, hour, sent_by}
use Rattle.event_steps.specs.Gateways.{Event, plain, cancel, message, Gateway, Network, history}
use Rattle.event_steps.specs.EventSteps.{EventStep, does, undoes, takes, takes_acknowledgment, commits, Taking, becomes_pending}
use Rattle.event_steps.specs.EventSteps.{meets_cancel, strikes_out, waits}
use Rattle.event_steps.proofs.StepLaws.{history_undone, history-committed}

module _ (M : Model) where
  open M use {Message, from, to, last, never}

  -- A message to gateway i, with an hour.
  pub record Here (i : ℕ) (m : Message) : Type 0 where
    pub to-here : to m ≡ i
    pub due : hour M m < never

  -- An event between two gateways, with an hour.
  pub record Between (e : Event Message) : Type 0 where
    pub to_one : to (message e) ≤ last
    pub from_one : from (message e) ≤ last
    pub due : hour M (message e) < never

  pub record Addressed (i : ℕ) (g : Gateway Message) : Type 0 where
    pub done : All (Here i) (history g)
    pub queued : All (Here i) g.pending
    pub kept : All (Here i) g.waiting

  pub record Carried (n : Network Message) : Type 0 where
    pub events-between : All Between n.events
    pub acknowledgments-between : All Between n.acknowledgments

  module _ (laws : ModelLaws M) (i : ℕ) (inside : i ≤ last) (h : List Message) (m : Message) where
    -- What gateway i sends is at most one message, goes from it to a gateway, and is due later than its cause.
    pub sent-one : length (sent_by M i h m) ≤ 1
    unfolding sent_by
    sent-one = laws.sends-one i inside _ m

    pub sent-from : All (λ y. from y ≡ i) (sent_by M i h m)
    unfolding sent_by
    sent-from = laws.sends-from i inside _ m

    pub sent-later : All (λ y. hour M m < hour M y) (sent_by M i h m)
    unfolding sent_by hour
    sent-later = laws.sends-later i inside _ m

    pub sent-due : All (λ y. hour M y < never) (sent_by M i h m)
    unfolding sent_by hour
    sent-due = laws.sends-due i inside _ m

    pub sent-inside : All (λ y. to y ≤ last) (sent_by M i h m)
    unfolding sent_by
    sent-inside = laws.sends-inside i inside _ m

    -- The events that carry or cancel it are between gateways and due.
    pub sent-between : (c : Message → Event Message) → ((y : Message) → message (c y) ≡ y) → All Between (map c (sent_by M i h m))
    sent-between c e =
        all-image
        c
        (all_both
        between
        sent-inside
        (all_both {r = λ y. (from y ≡ i) × (hour M y < never)} (λ y a b. (a, b)) sent-from sent-due))
      where
        between : (y : Message) → to y ≤ last → (from y ≡ i) × (hour M y < never) → Between (c y)
        between y a b =
            record {
              to_one = omega (arith, ap to (e y));
              from_one = omega (arith, ap from (e y));
              due = omega (arith, ap (hour M) (e y));
            }

  addressed-taking :
      {i time : ℕ} {g g' : Gateway Message} {e : Event Message} →
      Taking M time g e g' →
      Here i (message e) →
      Addressed i g →
      Addressed i g'
  unfolding history message
  addressed-taking (becomes_pending m time after put) h a =
      record { done = a.done; queued = all_insert put h a.queued; kept = a.kept }
  addressed-taking (meets_cancel m put) h a =
      record { done = a.done; queued = a.queued; kept = all_rest put a.kept }
  addressed-taking (strikes_out m put) h a =
      record { done = a.done; queued = all_rest put a.queued; kept = a.kept }
  addressed-taking (waits m put) h a =
      record { done = a.done; queued = a.queued; kept = all_insert put h a.kept }

  pub addressed-step :
      {i time : ℕ} {g g' : Gateway Message} {n n' : Network Message} {sent : List Message} →
      EventStep M i time g n sent g' n' →
      Carried n →
      Addressed i g →
      Addressed i g'
  unfolding history message
  addressed-step (does m take first out under) c a =
      record { done = cons (all-taken take a.queued) a.done; queued = all_rest take a.queued; kept = a.kept }
  addressed-step {i} {g = g} (undoes m e under here no-later latest back out under') c a =
      let h : All (Here i) (m ∷ _) = subst (All (Here i)) (history_undone g latest) a.done in
      record { done = all_tail h; queued = all_insert back (all_head h) a.queued; kept = a.kept }
  addressed-step (takes e under ack here taking) c a =
      addressed-taking taking (record { to-here = here; due = (all-taken under c.events-between).due }) a
  addressed-step (takes_acknowledgment e ack here out) c a =
      record { done = a.done; queued = a.queued; kept = a.kept }
  addressed-step {i} {g = g} (commits m {newer = newer} first due) c a =
      record {
        done = subst (All (Here i)) (history-committed g m newer first) a.done;
        queued = a.queued;
        kept = a.kept;
      }

  pub carried_step :
      ModelLaws M →
      {i time : ℕ} {g g' : Gateway Message} {n n' : Network Message} {sent : List Message} →
      EventStep M i time g n sent g' n' →
      i ≤ last →
      Carried n →
      Carried n'
  unfolding message
  carried_step laws {i} (does m take first out under) k c =
      record {
        events-between = all-inserts under (sent-between laws i k _ m plain (λ y. refl)) c.events-between;
        acknowledgments-between = c.acknowledgments-between;
      }
  carried_step laws {i} (undoes m e under here no-later latest back out under') k c =
      record {
        events-between = all-inserts under' (sent-between laws i k _ m cancel (λ y. refl)) c.events-between;
        acknowledgments-between = c.acknowledgments-between;
      }
  carried_step laws (takes e under ack here taking) k c =
      record {
        events-between = all_rest under c.events-between;
        acknowledgments-between = all_insert ack (all-taken under c.events-between) c.acknowledgments-between;
      }
  carried_step laws (takes_acknowledgment e ack here out) k c =
      record { events-between = c.events-between; acknowledgments-between = all_rest ack c.acknowledgments-between }
  carried_step laws (commits m first due) k c = c
