-- What the abstract theorem says of a run's world that is beside a reachable world of the theory.
use mathlib.Core.Path.{◌≡◌, sym, ◌∙◌, ap, subst}
use Prim.Native.Nat.{ℕ, ◌-◌, ◌≤◌, ◌<◌}
use native.Mathlib.Omega.{arith}
use mathlib.Core.Bool.{true}
use mathlib.Core.List.{List, ◌++◌}
use lib.ListN.{length}
use Rattle.lists.specs.Lists.{◌∈◌, All, Beginning}
use Rattle.model.specs.EventOrder.{key}
use Rattle.model.specs.declared.Message.{Message}
use Rattle.frame.specs.Limits.{nothing_due}
use Rattle.frame.specs.Reasons.{frame_read}
use Rattle.memory.specs.Codec.{decode}
use Rattle.memory.specs.Soundness.{sound}
use Rattle.gateway.specs.Committing.{commit}
use Rattle.gateway.specs.Working.{pending_of}
use Rattle.gateway.specs.Calls.{committed}
use Rattle.event_steps.specs.Models.{ModelLaws, hour, first}
use Rattle.event_steps.specs.Gateways.{Event, message, Gateway as View, Network}
use Rattle.event_steps.specs.SingleQueue as Theory
use Rattle.round_steps.specs.Arcs.{Graph}
use Rattle.timewarp.specs.Worlds as Worlds
use Rattle.timewarp.proofs.Theorem.{claim-holds}
use Rattle.run.specs.Forecast.{SetUpInput}
use Rattle.run.specs.SingleQueue.{whole_record}
use Rattle.run.specs.Ledger.{waiting}
use Rattle.run.specs.WhatWaits.{waiting_of}
use Rattle.run.specs.World.{World, Carried, kind_in}
use Rattle.run.specs.Demand3.{agreed, NothingToCommit}
use Rattle.run.proofs.ForecastModel.{forecast_model}
use Rattle.run.proofs.QueueViews.{view_of}
use Rattle.run.proofs.SingleQueues.{history_record}
use Rattle.run.proofs.Ledgers.{Follows, waiting-have}
use Rattle.run.proofs.EventsUnderWay.{seen_in, event_of, acknowledged_of, bound-seen}
use Rattle.run.proofs.EventWorlds.{setting_of, network_in}
use Rattle.run.proofs.AcceptedCalls.{call-number}
use Rattle.run.proofs.CommittedRecords.{nothing-to-commit, record-begins}

-- the number that commit answers on sound memory
commit-number : (memory output : List ℕ) → sound memory ≡ true → (committed memory output).answer.number ≡ (commit (length output) (decode memory)).number
unfolding committed
commit-number memory output s = call-number commit memory output s

module _ (n last : ℕ) (setups : ℕ → SetUpInput) (G : Graph) (same : G.last ≡ n - 1) where
  abbrev S : Worlds.Setting
  S = setting_of n last setups G same

  -- the run's world is beside the theory's world: events, agreed times, records and ledgers
  pub record Beside (w : World) (t : Worlds.World S) : Type 0 where
    pub reached : Worlds.Reachable S t
    pub done : ℕ → List Message
    pub is-sound : (i : ℕ) → i < n → sound (w.memories i) ≡ true
    pub views : (i : ℕ) → i < n → t.events.gateways i ≡ view_of (done i) (decode (w.memories i)).queue (decode (w.memories i)).outstanding
    pub network : t.events.network ≡ network_in w.under_way
    pub times : (i : ℕ) → i < n → t.rounds.agreed i ≡ agreed w i
    pub gateway-times : (i : ℕ) → i < n → (decode (w.memories i)).agreed ≡ agreed w i
    pub records : (i : ℕ) → i < n → w.records i ≡ history_record n last setups i (done i)
    pub ledgers : (i : ℕ) → i < n → Follows n last setups (decode (w.memories i)).queue (w.ledgers i)

  module _ (laws : ModelLaws (forecast_model n last setups)) (w : World) (t : Worlds.World S) (b : Beside w t) where
    -- each committed record is a beginning of the single queue's
    pub beginning-part : (i : ℕ) → i < n → whole_record n last setups i ≡ history_record n last setups i (Theory.single_history (forecast_model
        n last setups) i) → Beginning (w.records i) (whole_record n last setups i)
    beginning-part i h whole =
        let r = (claim-holds S laws b.reached).beginning i (omega arith) in
        record-begins n last setups i (b.done i) (w.records i) (b.records i h) whole r.0 (r.1 ∙ ap (λ (g : View Message). r.0 ++
        g.committed) (b.views i h))

    -- no agreed time is past anything that waits
    pub waiting-part : (i j : ℕ) → i < n → j < n → (m : Message) → m ∈ waiting (w.ledgers j) → agreed w i ≤ m.hour
    unfolding hour first key
    waiting-part i j h k m d =
        let r = claim-holds S laws b.reached in
        waiting-have n last setups (decode (w.memories j)).queue (w.ledgers j) (b.ledgers j k)
        (subst (λ (x : ℕ). All (λ y. x ≤ y.hour) (pending_of (decode (w.memories j)).queue)) (b.times i h)
        (subst (λ (g : View Message). All (λ (y : Message). t.rounds.agreed i ≤ y.hour) g.pending) (b.views j k) (r.bound-pending i
        j (omega arith) (omega arith))))
        (subst (λ (x : ℕ). All (λ y. x ≤ y.hour) (waiting_of (decode (w.memories j)).queue)) (b.times i h)
        (subst (λ (g : View Message). All (λ (y : Message). t.rounds.agreed i ≤ y.hour) g.waiting) (b.views j k) (r.bound-waiting i
        j (omega arith) (omega arith))))
        m
        d

    -- or past any message, cancel or acknowledgment under way
    pub under_way-part : (i : ℕ) → i < n → (c : Carried) → c ∈ w.under_way → kind_in c.frame < 4 → agreed w i ≤ (frame_read c.frame).message.hour
    unfolding hour first key
    under_way-part i h c d small =
        let r = claim-holds S laws b.reached in
        bound-seen (λ m. agreed w i ≤ m.hour) w.under_way
        (subst (λ (x : ℕ). All (λ (e : Event Message). x ≤ (message e).hour) (seen_in event_of w.under_way)) (b.times i h)
        (subst (λ (k : Network Message). All (λ (e : Event Message). t.rounds.agreed i ≤ (message e).hour) k.events) b.network
        (r.bound-events i (omega arith))))
        (subst (λ (x : ℕ). All (λ (e : Event Message). x ≤ (message e).hour) (seen_in acknowledged_of w.under_way)) (b.times i h)
        (subst (λ (k : Network Message). All (λ (e : Event Message). t.rounds.agreed i ≤ (message e).hour) k.acknowledgments)
        b.network (r.bound-acknowledgments i (omega arith))))
        c
        d
        small

    -- the record is whole where nothing is due any more and nothing is left to commit
    pub whole_part : (i : ℕ) → i < n → whole_record n last setups i ≡ history_record n last setups i (Theory.single_history (forecast_model n
        last setups) i) → agreed w i ≡ nothing_due → NothingToCommit w i → w.records i ≡ whole_record n last setups i
    unfolding hour first key
    whole_part i h whole due nothing =
        let v = b.views i h in
        let left = nothing-to-commit (length nothing.0) (decode (w.memories i)) (sym (commit-number (w.memories i) nothing.0 (b.is-sound i h)) ∙ nothing.1) in
        let all = (claim-holds S laws b.reached).whole i (omega arith) (omega (arith, b.times i h))
        (λ m newer e. omega (arith, left m newer (ap (λ (g : View Message). g.processed) (sym v) ∙ e), b.times i h, b.gateway-times i h)) in
        b.records i h ∙ ap (history_record n last setups i) (ap (λ (g : View Message). g.committed) (sym v) ∙ all) ∙ sym whole
