-- What a step of the events does to the bounds that the round knows of: what is sent, and what comes to wait, is not earlier
-- than all that was waiting there or outstanding anywhere.
use mathlib.Core.List.{List, [], ◌++◌, map}
use mathlib.Core.Path.{◌≡◌, refl, sym, subst}
use Prim.Native.Nat.{ℕ, ◌≤◌}
use native.Mathlib.Omega.{arith}
use Rattle.lists.specs.Lists.{All, nil, Inserts, unchanged}
use Rattle.lists.proofs.ListLaws.{all_insert, all-taken, all_rest, all_map}
use Rattle.event_steps.specs.Models.{Model, ModelLaws, hour, sent_by}
use Rattle.event_steps.specs.Gateways.{Event, plain, cancel, message, Gateway, Network, Data, history}
use Rattle.event_steps.specs.EventSteps.{EventStep, does, undoes, takes, takes_acknowledgment, commits, Taking, becomes_pending}
use Rattle.event_steps.specs.EventSteps.{meets_cancel, strikes_out, waits}
use Rattle.event_steps.proofs.OrderLaws.{hour-order}
use Rattle.event_steps.proofs.StepLaws.{taking-outstanding}
use Rattle.event_steps.proofs.Addressing.{sent-later}
use Rattle.event_steps.proofs.Invariants.{Sound}
use Rattle.event_steps.proofs.Histories.{OutstandingFrom, WaitingFrom, bounds-events}

module _ (M : Model) where
  open M use {Message, last}

  -- What bounds gateway i's queue and all that is outstanding anywhere.
  pub record Under (d : Data Message) (i t : ℕ) : Type 0 where
    pub waiting : WaitingFrom M (d.gateways i) t
    pub outstanding : (j : ℕ) → j ≤ last → OutstandingFrom M (d.gateways j) t

  pub record Effect (d : Data Message) (i : ℕ) (sent : List Message) (g : Gateway Message) : Type 0 where
    -- The events sent are put into what is outstanding; then things may go.
    pub sense : Message → Event Message
    pub carries : (y : Message) → message (sense y) ≡ y
    pub out : List (Event Message)
    pub put_in : Inserts (map sense sent) (d.gateways i).outstanding out
    pub then-go : (t : ℕ) → All (λ e. t ≤ hour M (message e)) out → OutstandingFrom M g t
    -- What is sent and what comes to wait is not earlier.
    pub late : (t : ℕ) → Under d i t → All (λ y. t ≤ hour M y) sent
    pub comes : (t : ℕ) → Under d i t → WaitingFrom M g t

  taking-comes :
      (t : ℕ) {time : ℕ} {g g' : Gateway Message} {e : Event Message} →
      Taking M time g e g' →
      t ≤ hour M (message e) →
      WaitingFrom M g t →
      WaitingFrom M g' t
  unfolding message
  taking-comes t (becomes_pending m time after put) h w =
      record { pending-from = all_insert put h w.pending-from; waiting-from = w.waiting-from }
  taking-comes t (meets_cancel m put) h w =
      record { pending-from = w.pending-from; waiting-from = all_rest put w.waiting-from }
  taking-comes t (strikes_out m put) h w =
      record { pending-from = all_rest put w.pending-from; waiting-from = w.waiting-from }
  taking-comes t (waits m put) h w =
      record { pending-from = w.pending-from; waiting-from = all_insert put h w.waiting-from }

  -- Where unchanged is sent.
  quiet :
      (d : Data Message) (i : ℕ) (g : Gateway Message) →
      ((t : ℕ) → OutstandingFrom M (d.gateways i) t → OutstandingFrom M g t) →
      ((t : ℕ) → Under d i t → WaitingFrom M g t) →
      Effect d i [] g
  unfolding message
  quiet d i g go come =
      record {
        sense = plain;
        carries = λ y. refl;
        out = (d.gateways i).outstanding;
        put_in = unchanged;
        then-go = go;
        late = λ t u. nil;
        comes = come;
      }

  -- What is sent by m is later than it, and so than what bounds m.
  sent-late : ModelLaws M → (t i : ℕ) → i ≤ last → (h : List Message) (m : Message) → t ≤ hour M m → All (λ y. t ≤ hour M y) (sent_by M i h m)
  sent-late laws t i inside h m k = all_map (λ y l. omega arith) (sent-later M laws i inside h m)

  pub effect :
      ModelLaws M →
      {agreed : ℕ → ℕ} (d : Data Message) (i : ℕ) {time : ℕ} {sent : List Message} {g : Gateway Message} {n : Network Message} →
      i ≤ last →
      Sound M agreed d →
      EventStep M i time (d.gateways i) d.network sent g n →
      Effect d i sent g
  unfolding message
  effect laws d i inside s (does m {out = out} take first put under) =
      record {
        sense = plain;
        carries = λ y. refl;
        out = out;
        put_in = put;
        then-go = λ t a. a;
        late = λ t u. sent-late laws t i inside (history (d.gateways i)) m (all-taken take u.waiting.pending-from);
        comes =
            λ t u. record {
              pending-from = all_rest take u.waiting.pending-from;
              waiting-from = u.waiting.waiting-from;
            };
      }
  effect laws d i inside s (undoes m {older = older} {out = out} e under here no-later latest back put under') =
      record {
        sense = cancel;
        carries = λ y. refl;
        out = out;
        put_in = put;
        then-go = λ t a. a;
        late = λ t u. sent-late laws t i inside (older ++ (d.gateways i).committed) m (not-before t u);
        comes =
            λ t u. record {
              pending-from = all_insert back (not-before t u) u.waiting.pending-from;
              waiting-from = u.waiting.waiting-from;
            };
      }
    where
      not-before : (t : ℕ) → Under d i t → t ≤ hour M m
      not-before t u = omega (arith, all-taken under (bounds-events M s u.outstanding), hour-order M (message e) m no-later)
  effect laws d i {g = g} inside s (takes e under ack here taking) =
      quiet
      d
      i
      g
      (λ t a. subst (λ l. All (λ e. t ≤ hour M (message e)) l) (sym (taking-outstanding M taking)) a)
      (λ t u. taking-comes t taking (all-taken under (bounds-events M s u.outstanding)) u.waiting)
  effect laws d i {g = g} inside s (takes_acknowledgment e ack here out) =
      quiet d i g (λ t a. all_rest out a) (λ t u. record { pending-from = u.waiting.pending-from; waiting-from = u.waiting.waiting-from })
  effect laws d i {g = g} inside s (commits m first due) =
      quiet d i g (λ t a. a) (λ t u. record { pending-from = u.waiting.pending-from; waiting-from = u.waiting.waiting-from })
