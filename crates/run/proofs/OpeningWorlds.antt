-- N memories just set up are beside the theory's world before its first step.
use mathlib.Core.Path.{◌≡◌, refl, sym, ◌∙◌, ap, subst}
use Prim.Native.Nat.{ℕ, ◌-◌, ◌≤◌, ◌<◌}
use native.Mathlib.Omega.{arith}
use mathlib.Core.Bool.{Bool, true, false}
use mathlib.Core.List.{List, []}
use lib.Dec.{eqb}
use lib.ListN.{length}
use borrow.Author.Tests.{eqb-true, eqb-false}
use Rattle.lists.specs.Lists.{All}
use Rattle.frame.specs.Limits.{nothing_due}
use Rattle.memory.specs.Records.{Gateway}
use Rattle.memory.specs.Codec.{decode, encode}
use Rattle.memory.specs.Soundness.{sound}
use Rattle.memory.specs.Claims.{WritingLaws}
use Rattle.memory.proofs.Validated.{valid-facts}
use Rattle.memory.proofs.SoundMemory.{writing-laws}
use Rattle.gateway.specs.SettingUp.{settings_of, cut_frames, opened, set_up_refusal}
use Rattle.gateway.specs.Calls.{set_up, agreed_time}
use Rattle.gateway.specs.declared.Opening.{Opening}
use Rattle.gateway.proofs.Maintaining.{Kept}
use Rattle.gateway.proofs.Openings.{opened-keeps, opening-long, opening-stock}
use Rattle.event_steps.specs.Gateways.{opening_data}
use Rattle.round_steps.specs.Arcs.{Graph}
use Rattle.round_steps.specs.RoundSteps as RoundSteps
use Rattle.event_steps.specs.SingleQueue as Theory
use Rattle.timewarp.specs.Worlds as Worlds
use Rattle.run.specs.Forecast.{SetUpInput, Forecast}
use Rattle.run.specs.SingleQueue.{opening_messages, opening_queue, steps, turns_for, whole_record}
use Rattle.run.specs.History.{single_history}
use Rattle.run.specs.World.{opening_world}
use Rattle.run.proofs.ForecastModel.{forecast_model, Settled}
use Rattle.run.proofs.QueueViews.{view_of}
use Rattle.run.proofs.SingleQueues.{history_record, steps-end, whole-record}
use Rattle.run.proofs.SingleHistories.{in_order, whole-done}
use Rattle.run.proofs.Ledgers.{Follows}
use Rattle.run.proofs.EventsUnderWay.{seen_in}
use Rattle.run.proofs.EventWorlds.{setting_of}
use Rattle.run.proofs.OpeningQueues.{opening_entries, opening-entered, opening-view, Lawful, lawful-opening, opening-agrees}
use Rattle.run.proofs.ClaimParts.{Beside}

-- the agreed time that is read is the gateway's
pub agreed-read : (m : List ℕ) → sound m ≡ true → (agreed_time m).hour ≡ (decode m).agreed
unfolding agreed_time decode
agreed-read m s = rw s

-- what an accepted set up makes
pub record Made (o : Opening) (list memory : List ℕ) : Type 0 where
  pub not-refused : set_up_refusal o (length memory) list ≡ 0
  pub leaves : (set_up o list memory).memory ≡ encode (opened o (cut_frames (length list) list)) memory

pub made : (o : Opening) (list memory : List ℕ) → (set_up o list memory).answer.number ≡ 0 → Made o list memory
unfolding set_up
made o list memory h = by-case (eqb (set_up_refusal o (length memory) list) 0) refl
  where
    by-case : (t : Bool) → eqb (set_up_refusal o (length memory) list) 0 ≡ t → Made o list memory
    by-case true p = record { not-refused = eqb-true (set_up_refusal o (length memory) list) 0 p; leaves = rw p }
    by-case false p = absurd (eqb-false (set_up_refusal o (length memory) list) 0 p (rw p at h))

module _ (n last : ℕ) (setups : ℕ → SetUpInput) (lent : ℕ → List ℕ) (forecast : Forecast n last setups lent) (G : Graph) (same : G.last ≡ n - 1) where
  module _ (i : ℕ) (h : i < n) where
    abbrev o : Opening
    o = (setups i).opening

    abbrev pub first : Gateway
    first = opened o (cut_frames (length (setups i).list) (setups i).list)

    set-up : Made o (setups i).list (lent i)
    set-up = made o (setups i).list (lent i) (forecast.accepted i h)

    pub kept : Kept (settings_of o) first
    kept = opened-keeps o (length (lent i)) (setups i).list (forecast.bytes i h).1 set-up.not-refused

    laws : WritingLaws first (lent i)
    unfolding opened
    laws = writing-laws first (lent i) kept.proper.valid kept.proper.ranged (opening-long o (length (lent i)) (setups i).list set-up.not-refused)

    pub stock-few : o.stock ≤ 65535
    stock-few = opening-stock o (length (lent i)) (setups i).list set-up.not-refused

    pub memory-sound : sound ((opening_world setups lent).memories i) ≡ true
    unfolding opening_world
    memory-sound = ap sound set-up.leaves ∙ laws.sound-after

    pub memory-holds : decode ((opening_world setups lent).memories i) ≡ first
    unfolding opening_world
    memory-holds = ap decode set-up.leaves ∙ laws.again

    pub lawful : All (Lawful n last setups i) (opening_messages (setups i).list)
    unfolding opened opening_entries
    lawful =
        let v = valid-facts first kept.proper.valid in
        lawful-opening n last setups i (settings_of o) v.entries (forecast.numbers i h) (forecast.gateways i h) v.settings.last

  -- at first
  unfoldable pub opening-beside : Beside n last setups G same (opening_world setups lent) (Worlds.opening_world (setting_of n last setups G same))
  unfolding opening_world Worlds.opening_world opening_data RoundSteps.opening seen_in history_record opened opening_entries
  opening-beside =
      record {
        reached = Worlds.none;
        done = λ i. [];
        is-sound = memory-sound;
        views = λ i h.
            sym (opening-view n last setups i (lawful i h))
            ∙ ap (λ (g : Gateway). view_of [] g.queue g.outstanding) (sym (memory-holds i h));
        network = refl;
        times = λ i h. sym (agreed-read ((opening_world setups lent).memories i) (memory-sound i h) ∙ ap (λ (g : Gateway). g.agreed) (memory-holds i h));
        gateway-times = λ i h. sym (agreed-read ((opening_world setups lent).memories i) (memory-sound i h));
        records = λ i h. refl;
        ledgers = λ i h. subst (λ (g : Gateway). Follows n last setups g.queue ((opening_world setups lent).ledgers i)) (sym (memory-holds
            i h)) (opening-entered n last setups i).follows;
      }

  -- the settings of a gateway that was set up
  pub settled : (i : ℕ) → i < n → Settled n last setups i
  unfolding opened
  settled i h =
      let v = (valid-facts (first i h) (kept i h).proper.valid).settings in
      record {
        own = forecast.numbers i h;
        count = forecast.gateways i h;
        until = forecast.one_last i h;
        supplied = omega (arith, v.supplier, forecast.gateways i h);
        hours = v.hours;
      }

  hours-end : last < nothing_due
  unfolding opened
  hours-end =
      let h : 0 < n = forecast.some in
      omega (arith, (valid-facts (first 0 h) (kept 0 h).proper.valid).settings.last, forecast.one_last 0 h)

  -- the whole record of the single queue is that of the theory's single queue
  pub single-queue : (i : ℕ) → whole_record n last setups i ≡ history_record n last setups i (Theory.single_history (forecast_model n last setups) i)
  single-queue i = whole-record n last setups forecast.some hours-end settled (opening-agrees n last setups forecast.some lawful) i

  -- and so is its history
  pub single-history : (i : ℕ) → single_history n last setups i ≡ in_order (Theory.single_history (forecast_model n last setups) i)
  single-history i = whole-done n last setups i forecast.some hours-end settled (opening-agrees n last setups forecast.some lawful)

  -- and that single queue ends
  pub queue-ends : (steps setups (turns_for last (opening_queue n setups).list) (opening_queue n setups)).list ≡ []
  queue-ends =
      steps-end n last setups forecast.some hours-end settled (turns_for last (opening_queue n setups).list) (opening_queue n setups) (Theory.opening_queue
      (forecast_model n last setups))
      (opening-agrees n last setups forecast.some lawful) (omega arith)
