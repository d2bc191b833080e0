-- An accepted commit on bytes keeps the relation of both worlds: its record goes to the end of the gateway's.
use mathlib.Core.Path.{◌≡◌, refl, sym, ◌∙◌, ap, subst}
use Prim.Native.Nat.{ℕ, ◌≤◌, ◌<◌}
use native.Mathlib.Omega.{arith}
use mathlib.Core.List.{List, [], ◌∷◌, ◌++◌}
use lib.ListN.{length, take}
use Rattle.lists.specs.Lists.{without_first, nil}
use Rattle.memory.specs.Records.{Gateway}
use Rattle.memory.specs.Codec.{decode, encode}
use Rattle.memory.specs.Validity.{is_processed}
use Rattle.gateway.specs.Effects.{Outcome, with_queue}
use Rattle.gateway.specs.Committing as Committing
use Rattle.gateway.specs.Committing.{commit}
use Rattle.gateway.specs.Calls.{CallResult, committed}
use Rattle.gateway.specs.Answers.{Answer}
use Rattle.gateway.proofs.Maintaining.{Kept}
use Rattle.gateway.proofs.Keeps.{commit-keeps}
use Rattle.timewarp.specs.Worlds as Worlds
use Rattle.run.specs.Forecast.{SetUpInput}
use Rattle.run.specs.Ledger.{committed_one}
use Rattle.run.specs.World.{World, after_committing}
use Rattle.run.proofs.FigureGraph.{figure_graph}
use Rattle.run.proofs.EventCalls.{noted_all, commit-saved}
use Rattle.run.proofs.Ledgers.{committed-follows}
use Rattle.run.proofs.EventWorlds.{commit-goes}
use Rattle.run.proofs.CommittedRecords.{accepted, CommitTaken, commit-taken, commit-record}
use Rattle.run.proofs.CommittedEvents.{one-committed}
use Rattle.run.proofs.FramesCut.{written_back}
use Rattle.run.proofs.TakeChains.{still-stands}
use Rattle.run.proofs.AcceptedCalls.{left, on-sound}
use Rattle.run.proofs.HeldGateways.{written_held}
use Rattle.run.proofs.BothWorlds.{forecast_setting, Both, Keeps, proper, sees}
use Rattle.run.proofs.EventsKept.{Comes, keeps}

-- what an accepted commit leaves
pub commit-leaves : (memory output : List ℕ) → (committed memory output).answer.number ≡ 0
    → (k : CommitTaken (length output) (decode memory)) × (committed memory output ≡ left (accepted (decode memory) k.event) memory output)
unfolding committed
commit-leaves memory output z =
    let (is-sound, number, leaves) = on-sound commit memory output z in
    let k = commit-taken (length output) (decode memory) number in
    (k, leaves ∙ ap (λ (r : Outcome). left r memory output) k.comes-to)

module _ (n : ℕ) (some : 1 ≤ n) (last : ℕ) (setups : ℕ → SetUpInput) {w : World} {t : Worlds.World (forecast_setting n some last setups)} (b
    : Both n some last setups w t) (i : ℕ) (h : i < n) (output : List ℕ) where
  abbrev g : Gateway
  g = decode (w.memories i)

  -- the gateway after the commit
  abbrev next : Gateway
  next = with_queue (without_first is_processed g.queue) g

  module _ (k : CommitTaken (length output) g) where
    kept : Kept g.settings next
    kept = subst (λ (r : Outcome). Kept g.settings r.gateway) k.comes-to (commit-keeps (proper n some last setups b i h) (length output)).gateway

    comes : Comes n some last setups b i h next (k.event.message ∷ b.beside.done i) w.under_way (committed_one (w.ledgers i))
    unfolding noted_all
    comes =
        record {
          sends = [];
          goes =
              commit-goes n last setups (figure_graph n some) refl t i (omega arith) (b.beside.done i) g (b.stands i h) w.under_way
              (sees n some last setups b i h) k.event k.newer k.is k.below;
          stands =
              still-stands n last setups i (b.beside.done i) g (b.stands i h) (k.event.message ∷ b.beside.done i) next kept
              (commit-saved n last setups i (b.beside.done i) g (b.stands i h) k.event k.newer k.is);
          follows = committed-follows n last setups g.queue (w.ledgers i) (b.beside.ledgers i h);
          round = refl;
          agreed = refl;
          still = refl;
          numbered = b.numbered;
          timely = nil;
          passing = b.passing;
          committed = one-committed n last setups i (w.memories i) (b.bytes i h) (b.stands i h).saved k.event k.newer k.is (b.committed i h);
        }

    commit-kept : Keeps n some last setups t (after_committing i (encode next (w.memories i)) (Committing.record_of k.event) w)
    unfolding after_committing
    commit-kept =
        keeps n some last setups b i h (encode next (w.memories i)) next (written_held (w.memories i) (b.bytes i h) next kept)
        (k.event.message ∷ b.beside.done i)
        w.under_way
        (committed_one (w.ledgers i))
        comes
        (w.records i ++ Committing.record_of k.event)
        (ap (λ x. x ++ Committing.record_of k.event) (b.beside.records i h) ∙ commit-record n last setups i (b.stands i h).saved
        k.event k.newer k.is)

  pub commits-kept : (committed (w.memories i) output).answer.number ≡ 0 →
      let l = committed (w.memories i) output in
      Keeps n some last setups t (after_committing i l.memory (take l.answer.written l.output) w)
  commits-kept z =
      let (k, leaves) = commit-leaves (w.memories i) output z in
      subst (λ (l : CallResult Answer). Keeps n some last setups t (after_committing i l.memory (take l.answer.written l.output) w)) (sym leaves)
      (subst (λ (xs : List ℕ). Keeps n some last setups t (after_committing i (encode next (w.memories i)) xs w)) (sym (written_back
      (Committing.record_of k.event) output)) (commit-kept k))
