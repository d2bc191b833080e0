-- The invariants of the events together, kept by every step: order, addresses, outstanding, conservation.
use mathlib.Core.List.{List}
use mathlib.Core.Path.{◌≡◌, sym, ap}
use Prim.Native.Nat.{ℕ, ◌+◌, ◌≤◌, suc}
use native.Mathlib.Omega.{arith}
use Rattle.lists.specs.Lists.{All, nil}
use Rattle.lists.specs.Families.{change, sum}
use Rattle.lists.proofs.ListLaws.{all-every, all_both, count-nil}
use Rattle.lists.proofs.FamilyLaws.{Changed, at, off, change?, change-each, sum-agree, sum-constant, sum-change}
use Rattle.event_steps.specs.Models.{Model, ModelLaws, hour}
use Rattle.event_steps.specs.Gateways.{Event, plain, cancel, message, Gateway, Network, Data, history, after, opening_data}
use Rattle.event_steps.specs.EventSteps.{EventStep}
use Rattle.event_steps.proofs.OrderLaws.{empty, message-eq, event-eq}
use Rattle.event_steps.proofs.EventCounts.{times, event_count}
use Rattle.event_steps.proofs.Ordering.{Ordered, ordered-later, ordered_step}
use Rattle.event_steps.proofs.Addressing.{Here, Addressed, Carried, addressed-step, carried_step}
use Rattle.event_steps.proofs.Acknowledging.{unsettled, settled_here, settled-elsewhere}
use Rattle.event_steps.proofs.Conservation.{sent_in, made, held, conserved-here, conserved-elsewhere}

module _ (M : Model) where
  open M use {Message, from, to, last, never, opening}

  -- What all gateways sent of x.
  unfoldable pub sent_of : Message → (ℕ → Gateway Message) → ℕ
  sent_of x f = sum (suc last) (λ j. times M x (sent_in M j (history (f j))))

  unfoldable pub Settled : Data Message → Type 0
  Settled d = (e : Event Message) → event_count M e (d.gateways (from (message e))).outstanding ≡ unsettled M e d.network

  unfoldable pub Conserved : Data Message → Type 0
  Conserved d =
      (x : Message) →
      to x ≤ last →
      times M x (opening (to x)) + sent_of x d.gateways + event_count M (cancel x) d.network.events + times M x (d.gateways (to x)).waiting
      ≡ held M x (d.gateways (to x)) + event_count M (plain x) d.network.events

  pub record Sound (agreed : ℕ → ℕ) (d : Data Message) : Type 0 where
    pub ordered : (i : ℕ) → Ordered M (agreed i) (d.gateways i)
    pub addressed : (i : ℕ) → i ≤ last → Addressed M i (d.gateways i)
    pub carried : Carried M d.network
    pub settled : Settled d
    pub conserved : Conserved d

  pub sound-later : {s t : ℕ → ℕ} {d : Data Message} → ((i : ℕ) → s i ≤ t i) → Sound s d → Sound t d
  sound-later h o =
      record {
        ordered = λ i. ordered-later M (h i) (o.ordered i);
        addressed = o.addressed;
        carried = o.carried;
        settled = o.settled;
        conserved = o.conserved;
      }

  pub sound-opening : ModelLaws M → Sound (λ i. 0) (opening_data M)
  unfolding opening_data history Settled Conserved unsettled sent_of held sent_in hour
  sound-opening laws =
      record {
        ordered = λ i. record { sorted = empty; up_to = all-every (λ q. nil) (opening i); below = nil };
        addressed = λ i inside. record { done = nil; queued = here i inside; kept = nil };
        carried = record { events-between = nil; acknowledgments-between = nil };
        settled = λ e. omega (arith, count-nil (event-eq M) e);
        conserved =
            λ x h. omega (
              arith,
              count-nil (message-eq M) x,
              count-nil (event-eq M) (plain x),
              count-nil (event-eq M) (cancel x),
              sum-agree (suc last) _ (λ k. 0) (λ k l. count-nil (message-eq M) x),
              sum-constant (suc last) 0,
            );
      }
    where
      here : (i : ℕ) → i ≤ last → All (Here M i) (opening i)
      here i inside = all_both (λ y a b. record { to-here = a; due = b }) (laws.opening-here i inside) (laws.opening-due i inside)

  module _ (laws : ModelLaws M) (agreed : ℕ → ℕ) (d : Data Message) (i : ℕ) {sent : List Message} {g : Gateway Message} {n : Network Message} (inside : i ≤ last)
      (step : EventStep M i (agreed i) (d.gateways i) d.network sent g n) where
    settled-step : Settled d → Settled (after i g n d)
    unfolding Settled after
    settled-step s e = go (change? i g d.gateways (from (message e)))
      where
        go : Changed i g d.gateways (from (message e)) → event_count M e (change i g d.gateways (from (message e))).outstanding ≡ unsettled M e n
        go (at p q) =
            omega (
              arith,
              s e,
              settled_here M step e,
              ap (λ f. event_count M e f.outstanding) q,
              ap (λ j. event_count M e (d.gateways j).outstanding) p,
            )
        go (off p q) =
            omega
            (arith, s e, settled-elsewhere M laws step inside e (λ r. p (sym r)), ap (λ f. event_count M e f.outstanding) q)

    conserved-step : Conserved d → Conserved (after i g n d)
    unfolding Conserved after sent_of made
    conserved-step s x h = go (change? i g d.gateways (to x))
      where
        total : sum (suc last) (λ j. times M x (sent_in M j (history (change i g d.gateways j)))) + times M x (sent_in M i (history
            (d.gateways i))) ≡ sum (suc last) (λ j. times M x (sent_in M j (history (d.gateways j)))) + times M x (sent_in M i (history g))
        total = sum-change (suc last) i g d.gateways (λ j f. times M x (sent_in M j (history f))) (omega arith)

        go :
            Changed i g d.gateways (to x) →
            times M x (opening (to x)) + sum (suc last) (λ j. times M x (sent_in M j (history (change i g d.gateways j)))) + event_count M
            (cancel x) n.events + times M x (change i g d.gateways (to x)).waiting
            ≡ held M x (change i g d.gateways (to x)) + event_count M (plain x) n.events
        go (at p q) =
            omega (
              arith,
              s x h,
              total,
              conserved-here M x step,
              ap (λ f. times M x f.waiting) q,
              ap (held M x) q,
              ap (λ j. times M x (d.gateways j).waiting) p,
              ap (λ j. held M x (d.gateways j)) p,
            )
        go (off p q) =
            omega (
              arith,
              s x h,
              total,
              conserved-elsewhere M x step p,
              ap (λ f. times M x f.waiting) q,
              ap (held M x) q,
            )

    pub sound-step : Sound agreed d → Sound agreed (after i g n d)
    unfolding after
    sound-step o =
        record {
          ordered = change-each (λ k f. Ordered M (agreed k) f) i g d.gateways (ordered_step M step (o.ordered i)) o.ordered;
          addressed =
              change-each
              (λ k f. k ≤ last → Addressed M k f)
              i
              g
              d.gateways
              (λ l. addressed-step M step o.carried (o.addressed i l))
              o.addressed;
          carried = carried_step M laws step inside o.carried;
          settled = settled-step o.settled;
          conserved = conserved-step o.conserved;
        }
