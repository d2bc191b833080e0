-- The start call, Start, Lvt and Update keep the relation of both worlds.
use mathlib.Core.Path.{◌≡◌, refl, sym, ◌∙◌, ap, subst}
use Prim.Native.Nat.{ℕ, ◌-◌, ◌≤◌, ◌<◌}
use native.Mathlib.Omega.{arith}
use mathlib.Core.Bool.{Bool, true, false, cond}
use mathlib.Core.List.{List}
use lib.Dec.{eqb}
use lib.ListN.{length}
use borrow.Author.Tests.{eqb-true, lt-leb}
use Rattle.lists.specs.Lists.{any, All}
use Rattle.lists.specs.Families.{change}
use Rattle.lists.proofs.ListLaws.{all_map}
use Rattle.buffer.specs.Slice.{Bytes}
use Rattle.model.specs.Messages.{kind_number}
use Rattle.model.specs.declared.Message.{Message}
use Rattle.model.specs.declared.Kind.{Kind}
use Rattle.model.specs.declared.Kind.TheVariants.{Failure, Request, Delivery, Restock, Start, Lvt, Update}
use Rattle.frame.specs.Reasons.{frame_read}
use Rattle.frame.specs.declared.Sense.TheVariants.{Plain}
use Rattle.memory.specs.Records.{Gateway}
use Rattle.memory.specs.Codec.{decode}
use Rattle.memory.proofs.Validated.{Valid, valid-facts}
use Rattle.gateway.specs.Effects.{Outcome, with_agreed, with_round}
use Rattle.gateway.specs.Rounds.{start}
use Rattle.gateway.specs.Calls.{started, taken, take_bytes}
use Rattle.gateway.specs.Claims.{SoundBytes}
use Rattle.gateway.proofs.Keeps.{start-keeps, bytes-keep}
use Rattle.event_steps.specs.Models.{hour}
use Rattle.timewarp.specs.Worlds as Worlds
use Rattle.timewarp.proofs.CallChains.{steps-join}
use Rattle.run.specs.Forecast.{SetUpInput}
use Rattle.run.specs.World.{World, Carried, Rounds, kind_in, frames_in, is_frame, taken_by_sense, after_starting, after_taking}
use Rattle.run.proofs.QueueViews.{view_of}
use Rattle.run.proofs.LeastHours.{least-outstanding, least-queued}
use Rattle.run.proofs.EventCalls.{Stands, own_is, count-is, until-is}
use Rattle.run.proofs.Ledgers.{Follows}
use Rattle.run.proofs.OpeningWorlds.{agreed-read}
use Rattle.run.proofs.HeldGateways.{Holds, call-held}
use Rattle.run.proofs.RoundsUnderWay.{rounds_in}
use Rattle.run.proofs.RoundChains.{with_rounds}
use Rattle.run.proofs.RoundWorlds.{Alike, Called, alike-again}
use Rattle.run.proofs.RoundsOnBytes.{Goes, started-goes, start-goes, lvt-goes, update-goes}
use Rattle.run.proofs.DueHours.{NoteDue}
use Rattle.run.proofs.PassingFrames.{Passing, same-passing}
use Rattle.run.proofs.BesideCalls.{change-self}
use Rattle.run.proofs.BothWorlds.{model, forecast_setting, gateways_in, Both, Keeps, good-world, proper}

module _ (n : ℕ) (some : 1 ≤ n) (last : ℕ) (setups : ℕ → SetUpInput) {w : World} {t : Worlds.World (forecast_setting n some last setups)} (b
    : Both n some last setups w t) (i : ℕ) (h : i < n) where
  abbrev inside : i ≤ n - 1
  inside = omega arith

  abbrev gs : ℕ → Gateway
  gs = gateways_in n some last setups w

  -- what a round asks of the gateway
  called : Called n some (model n some last setups) refl t (good-world n some last setups b) gs i inside
  unfolding Worlds.least_outstanding Worlds.least_waiting hour
  called =
      record {
        gateways = count-is (b.stands i h);
        own = own_is (b.stands i h);
        outstanding = least-outstanding (gs i).outstanding ∙ ap (Worlds.least_outstanding (forecast_setting n some last setups)) (sym (b.beside.views i h));
        queued = least-queued (gs i).queue ∙ ap (Worlds.least_waiting (forecast_setting n some last setups)) (sym (b.beside.views i h));
      }

  valid : Valid (gs i)
  valid = valid-facts (gs i) (proper n some last setups b i h).valid

  note-due : NoteDue (gs i).settings.last (gs i).round
  note-due = subst (λ (x : ℕ). NoteDue x (gs i).round) (sym (until-is (b.stands i h))) (b.notes i h)

  -- A call that changes only the round and the agreed time of gateway i.
  module _ (memory : List ℕ) (r : Outcome) (holds : Holds (gs i) memory r.gateway) (cs : List Carried) (c : Rounds)
      (goes : Goes n some (model n some last setups) refl t (good-world n some last setups b) w i inside r cs c) where
    abbrev after : World
    after = record { memories = change i memory w.memories; under_way = cs; records = w.records; ledgers = w.ledgers; rounds = c }

    next : decode memory ≡ with_agreed goes.effect.gateway.agreed (with_round goes.effect.gateway.round (gs i))
    next = holds.holds ∙ ap (λ (x : Outcome). x.gateway) goes.comes-to ∙ goes.only

    sound-at : (j : ℕ) → j < n → (x : Bool) → SoundBytes (cond x memory (w.memories j))
    sound-at j k true = holds.still
    sound-at j k false = b.bytes j k

    view-at : (j : ℕ) → j < n → (x : Bool) → eqb i j ≡ x
        → t.events.gateways j ≡ view_of (b.beside.done j) (decode (cond x memory (w.memories j))).queue (decode (cond x memory
        (w.memories j))).outstanding
    view-at j k true e =
        subst (λ (m : ℕ). t.events.gateways m ≡ view_of (b.beside.done m) (decode memory).queue (decode memory).outstanding) (eqb-true i j e)
        (b.beside.views i h ∙ sym (ap (λ (g : Gateway). view_of (b.beside.done i) g.queue g.outstanding) next))
    view-at j k false e = b.beside.views j k

    ledger-at : (j : ℕ) → j < n → (x : Bool) → eqb i j ≡ x → Follows n last setups (decode (cond x memory (w.memories j))).queue (w.ledgers j)
    ledger-at j k true e =
        subst (λ (m : ℕ). Follows n last setups (decode memory).queue (w.ledgers m)) (eqb-true i j e)
        (subst (λ (g : Gateway). Follows n last setups g.queue (w.ledgers i)) (sym next) (b.beside.ledgers i h))
    ledger-at j k false e = b.beside.ledgers j k

    stands_here : Stands n last setups i (b.beside.done i) (decode memory)
    stands_here =
        let s = b.stands i h in
        record {
          settings = ap (λ (g : Gateway). g.settings) next ∙ s.settings;
          settled = s.settled;
          valid = valid-facts (decode memory) (rw holds.holds holds.kept.proper.valid);
          saved = rw next s.saved;
        }

    stands_at : (j : ℕ) → j < n → (x : Bool) → eqb i j ≡ x → Stands n last setups j (b.beside.done j) (decode (cond x memory (w.memories j)))
    stands_at j k true e = subst (λ (m : ℕ). Stands n last setups m (b.beside.done m) (decode memory)) (eqb-true i j e) stands_here
    stands_at j k false e = b.stands j k

    same-gateways : (j : ℕ) → change i goes.effect.gateway gs j ≡ decode (change i memory w.memories j)
    unfolding change
    same-gateways j = by-case (eqb i j)
      where
        by-case : (x : Bool) → cond x goes.effect.gateway (gs j) ≡ decode (cond x memory (w.memories j))
        by-case true = sym (holds.holds ∙ ap (λ (x : Outcome). x.gateway) goes.comes-to)
        by-case false = refl

    alike-after : Alike n some (model n some last setups) refl (gateways_in n some last setups after) (rounds_in cs) c goes.led.rounds
    alike-after =
        alike-again n some (model n some last setups) refl (gateways_in n some last setups after)
        (λ j. ap (λ (g : Gateway). g.round) (same-gateways j)) (λ j. ap (λ (g : Gateway). g.agreed) (same-gateways j)) goes.led.alike

    passing-after : All (λ x. Passing n last x.frame) cs
    passing-after =
        let st = b.stands i h in
        all_map (λ x k. same-passing (count-is st) (until-is st) k)
        (goes.passing (all_map (λ x k. same-passing (sym (count-is st)) (sym (until-is st)) k) b.passing))

    notes-at : (j : ℕ) → j < n → (x : Bool) → NoteDue last (decode (cond x memory (w.memories j))).round
    notes-at j k true =
        subst (λ (g : Gateway). NoteDue last g.round) (sym (holds.holds ∙ ap (λ (x : Outcome). x.gateway) goes.comes-to))
        (subst (λ (x : ℕ). NoteDue x goes.effect.gateway.round) (until-is (b.stands i h)) goes.note)
    notes-at j k false = b.notes j k

    round-kept : Keeps n some last setups t after
    unfolding change
    round-kept =
        record {
          world = with_rounds n some (model n some last setups) refl goes.led.rounds t;
          steps = goes.led.steps;
          both =
              record {
                beside =
                    record {
                      reached = steps-join b.beside.reached goes.led.steps;
                      done = b.beside.done;
                      is-sound = λ j k. (sound-at j k (eqb i j)).is-sound;
                      views = λ j k. view-at j k (eqb i j) refl;
                      network = b.beside.network ∙ sym goes.network;
                      times = λ j k. sym (alike-after.agreed j (omega arith)) ∙ sym (agreed-read (cond (eqb i j) memory (w.memories j))
                          (sound-at j k (eqb i j)).is-sound);
                      gateway-times = λ j k. sym (agreed-read (cond (eqb i j) memory (w.memories j)) (sound-at j k (eqb i j)).is-sound);
                      records = b.beside.records;
                      ledgers = λ j k. ledger-at j k (eqb i j) refl;
                    };
                stands = λ j k. stands_at j k (eqb i j) refl;
                bytes = λ j k. sound-at j k (eqb i j);
                rounds = alike-after;
                numbered = goes.numbered b.numbered;
                passing = passing-after;
                notes = λ j k. notes-at j k (eqb i j);
                committed = b.committed;
              };
        }

  -- the start call
  pub round-starts : (output : List ℕ) → (started (w.memories i) output).answer.number ≡ 0
      → let l = started (w.memories i) output in
      Keeps n some last setups t (after_starting n i l.memory (frames_in l.answer.written l.output) w)
  unfolding started after_starting
  round-starts output z =
      let l = started (w.memories i) output in
      let u = after_starting n i l.memory (frames_in l.answer.written l.output) w in
      round-kept l.memory (start (length output) (gs i))
      (call-held (w.memories i) (b.bytes i h) start output (start-keeps (proper n some last setups b i h) (length output)) z)
      u.under_way u.rounds
      (started-goes n some (model n some last setups) refl t (good-world n some last setups b) w i inside called b.rounds valid note-due output z)

  -- a frame of a round that is under way
  module _ (frame output : List ℕ) (bytes : Bytes frame) (z : (taken (w.memories i) frame output).answer.number ≡ 0) (found : any (is_frame
      frame) w.under_way ≡ true)
      (plain : (frame_read frame).sense ≡ Plain) (large : 4 ≤ kind_in frame) where
    abbrev m : Message
    m = (frame_read frame).message

    abbrev later : World
    later = let l = taken (w.memories i) frame output in after_taking n i frame l.memory (frames_in l.answer.written l.output) w

    abbrev GoesLater : Type 0
    GoesLater =
        Goes n some (model n some last setups) refl t (good-world n some last setups b) w i inside (take_bytes frame (length output) (gs i))
        later.under_way later.rounds

    by-kind : (kind : Kind) → m.kind ≡ kind → GoesLater
    by-kind (Failure origin) e = absurd (omega (arith, ap kind_number e))
    by-kind (Request origin) e = absurd (omega (arith, ap kind_number e))
    by-kind (Delivery origin) e = absurd (omega (arith, ap kind_number e))
    by-kind (Restock quantity) e = absurd (omega (arith, ap kind_number e))
    by-kind Start e = start-goes n some (model n some last setups) refl t (good-world n some last setups b) w i inside called b.rounds
        valid note-due frame output z found plain e
    by-kind Lvt e = lvt-goes n some (model n some last setups) refl t (good-world n some last setups b) w i inside called b.rounds valid
        note-due frame output z found plain e
    by-kind Update e = update-goes n some (model n some last setups) refl t (good-world n some last setups b) w i inside called b.rounds
        valid note-due frame output z found plain e b.numbered

    -- it leaves the ledger
    ledger-left : taken_by_sense m (frame_read frame).sense (w.ledgers i) ≡ w.ledgers i
    ledger-left = rw (plain, lt-leb (kind_number m.kind) 2 (omega arith)) refl

    pub round-takes : Keeps n some last setups t later
    unfolding taken after_taking
    round-takes =
        let l = taken (w.memories i) frame output in
        rw (ledger-left, change-self i w.ledgers)
        (round-kept l.memory (take_bytes frame (length output) (gs i))
        (call-held (w.memories i) (b.bytes i h) (take_bytes frame) output (bytes-keep (proper n some last setups b i h) frame bytes (length output)) z)
        later.under_way later.rounds (by-kind m.kind refl))
