-- Below an agreed time that bounds all that is outstanding, pending and waiting, the histories are the single queue's.
use mathlib.Core.List.{List, ◌++◌, append_assoc}
use mathlib.Core.Path.{◌≡◌, sym, ap, ◌∙◌}
use Prim.Native.Nat.{ℕ, ◌≤◌}
use native.Mathlib.Omega.{arith}
use Rattle.lists.specs.Lists.{All, Insert}
use Rattle.lists.proofs.ListLaws.{all_map, all-count, count-all, count_none, found}
use Rattle.event_steps.specs.Models.{Model, ModelLaws, hour}
use Rattle.event_steps.specs.Gateways.{Event, plain, cancel, message, Gateway, Data, history}
use Rattle.event_steps.specs.SingleQueue.{single_history, EarlierPart}
use Rattle.event_steps.proofs.OrderLaws.{message-eq, event-eq}
use Rattle.event_steps.proofs.EventCounts.{event_count}
use Rattle.event_steps.proofs.Addressing.{Between}
use Rattle.event_steps.proofs.Acknowledging.{unsettled}
use Rattle.event_steps.proofs.Conservation.{held}
use Rattle.event_steps.proofs.Invariants.{Sound, Settled, Conserved, sent_of}
use Rattle.event_steps.proofs.Uniqueness.{Below, below, below_rest, below-beginning, below-whole, Accounts, unique}
use Rattle.event_steps.proofs.QueueLaws.{queue-accounts, queue-due}

module _ (M : Model) where
  open M use {Message, from, to, last, never}

  -- t is at most every hour outstanding at a gateway.
  abbrev pub OutstandingFrom : Gateway Message → ℕ → Type 0
  OutstandingFrom g t = All (λ e. t ≤ hour M (message e)) g.outstanding

  -- t is at most every hour pending or waiting at a gateway.
  pub record WaitingFrom (g : Gateway Message) (t : ℕ) : Type 0 where
    pub pending-from : All (λ m. t ≤ hour M m) g.pending
    pub waiting-from : All (λ m. t ≤ hour M m) g.waiting

  -- t is at most every hour outstanding, pending or waiting anywhere.
  pub record Bounds (t : ℕ) (d : Data Message) : Type 0 where
    pub outstanding-from : (j : ℕ) → j ≤ last → OutstandingFrom (d.gateways j) t
    pub waiting-from : (j : ℕ) → j ≤ last → WaitingFrom (d.gateways j) t

  module _ {agreed : ℕ → ℕ} {d : Data Message} (s : Sound M agreed d) where
    -- An event or acknowledgment under way is outstanding.
    pub outstanding-there : (e : Event Message) → 1 ≤ unsettled M e d.network → 1 ≤ event_count M e (d.gateways (from (message e))).outstanding
    unfolding Settled
    outstanding-there e h = omega (arith, s.settled e)

    pub acknowledgments-settle : All (λ e. (rest : List (Event Message)) × Insert e rest (d.gateways (from (message e))).outstanding)
        d.network.acknowledgments
    unfolding unsettled
    acknowledgments-settle =
        count-all (event-eq M) _ (λ e h. found (event-eq M) e _ (outstanding-there e (omega arith)))

    -- So what bounds all that is outstanding bounds what is under way.
    module _ {t : ℕ} (b : (j : ℕ) → j ≤ last → OutstandingFrom (d.gateways j) t) where
      bounds-unsettled :
          (l : List (Event Message)) →
          ((e : Event Message) → 1 ≤ event_count M e l → 1 ≤ unsettled M e d.network) →
          All (Between M) l →
          All (λ e. t ≤ hour M (message e)) l
      bounds-unsettled l is a =
          count-all
          (event-eq M)
          l
          (λ e h.
          all-count
          (event-eq M)
          e
          (b (from (message e)) (all-count (event-eq M) e a h).from_one)
          (outstanding-there e (is e h)))

      pub bounds-events : All (λ e. t ≤ hour M (message e)) d.network.events
      unfolding unsettled
      bounds-events = bounds-unsettled d.network.events (λ e h. omega arith) s.carried.events-between

      pub bounds-acknowledgments : All (λ e. t ≤ hour M (message e)) d.network.acknowledgments
      unfolding unsettled
      bounds-acknowledgments = bounds-unsettled d.network.acknowledgments (λ e h. omega arith) s.carried.acknowledgments-between

    module _ {t : ℕ} (b : Bounds t d) where
      -- The histories account for every message below t.
      pub accounts : Accounts M t (λ i. history (d.gateways i))
      unfolding Conserved sent_of held message
      accounts =
          record {
            sorted = λ i. (s.ordered i).sorted;
            here = λ i inside. all_map (λ m h. h.to-here) (s.addressed i inside).done;
            balance =
                λ x inside h.
                let w = b.waiting-from (to x) inside in
                omega (
                  arith,
                  s.conserved x inside,
                  count_none (message-eq M) x w.pending-from (λ k. omega arith),
                  count_none (message-eq M) x w.waiting-from (λ k. omega arith),
                  count_none (event-eq M) (plain x) (bounds-events b.outstanding-from) (λ k. omega arith),
                  count_none (event-eq M) (cancel x) (bounds-events b.outstanding-from) (λ k. omega arith),
                );
          }

      -- Below t they are the single queue's.
      pub same-below :
          ModelLaws M →
          (i : ℕ) →
          i ≤ last →
          (a c : List Message) →
          Below M t (history (d.gateways i)) a →
          Below M t (single_history M i) c →
          a ≡ c
      same-below laws = unique M laws accounts (queue-accounts M laws t) t (omega arith)

    -- What is committed is a beginning.
    pub committed-beginning : ModelLaws M → (i : ℕ) → i ≤ last → Bounds (agreed i) d → EarlierPart (d.gateways i).committed (single_history M i)
    unfolding history
    committed-beginning laws i inside b =
        let mine = below M (agreed i) (history (d.gateways i)) in
        let its = below M (agreed i) (single_history M i) in
        let p = below-beginning M (d.gateways i).processed (d.gateways i).committed (s.ordered i).below mine.1 in
        let q = below_rest M its.1 in (
          q.0 ++ p.0,
          q.1 ∙ ap (λ l. q.0 ++ l) (sym (same-below b laws i inside mine.0 its.0 mine.1 its.1) ∙ p.1) ∙ sym (append_assoc q.0
              p.0 (d.gateways i).committed),
        )

    -- Where t is above every hour the histories are the single queue's whole histories.
    pub history-whole : ModelLaws M → (t : ℕ) → never ≤ t → Bounds t d → (i : ℕ) → i ≤ last → history (d.gateways i) ≡ single_history M i
    history-whole laws t above b i inside =
        let mine = below M t (history (d.gateways i)) in
        let its = below M t (single_history M i) in
        sym (below-whole M (all_map (λ m h. omega arith) (s.addressed i inside).done) mine.1)
        ∙ same-below b laws i inside mine.0 its.0 mine.1 its.1
        ∙ below-whole M (all_map (λ m h. omega arith) (queue-due M laws i)) its.1
