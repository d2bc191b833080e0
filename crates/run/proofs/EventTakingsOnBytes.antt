-- Taking a plain message, a cancel or an acknowledgment on bytes keeps the relation of both worlds, where the frame was under way and is accepted.
use mathlib.Core.Path.{◌≡◌, refl, sym, ◌∙◌, ap, subst}
use Prim.Native.Nat.{ℕ, ◌≤◌, ◌<◌}
use native.Mathlib.Omega.{arith}
use mathlib.Core.Bool.{true}
use mathlib.Core.List.{List}
use lib.ListN.{length}
use borrow.Author.Tests.{eq-eqb, ne_eqb}
use Rattle.lists.specs.Lists.{any, without_first, All}
use Rattle.lists.specs.Families.{change}
use Rattle.buffer.specs.Slice.{Bytes, write}
use Rattle.model.specs.Messages.{kind_number}
use Rattle.frame.specs.Reasons.{frame_read}
use Rattle.frame.specs.Writing.{well_formed}
use Rattle.frame.specs.declared.Frame.{Frame}
use Rattle.frame.specs.declared.Sense.{Sense}
use Rattle.frame.specs.declared.Sense.TheVariants.{Plain, Cancel, Acknowledgment, CancelAcknowledgment}
use Rattle.frame.proofs.Laws.{one-to-one}
use Rattle.memory.specs.Records.{Gateway}
use Rattle.memory.specs.Codec.{decode, encode}
use Rattle.gateway.specs.Effects.{Outcome}
use Rattle.gateway.specs.Calls.{CallResult, take_bytes, taken}
use Rattle.gateway.specs.Answers.{Answer}
use Rattle.gateway.proofs.Maintaining.{Kept}
use Rattle.gateway.proofs.Keeps.{bytes-keep}
use Rattle.gateway.proofs.Accepting.{not-refused}
use Rattle.timewarp.specs.Worlds as Worlds
use Rattle.run.specs.Forecast.{SetUpInput}
use Rattle.run.specs.World.{World, Carried, frames_in, carry, is_frame, kind_in, taken_by_sense, took_more, round_frames, after_taking}
use Rattle.run.proofs.FigureGraph.{figure_graph}
use Rattle.run.proofs.AcceptedFrames.{Accepted, BytesAccepted, bytes-accepted}
use Rattle.run.proofs.EventTakings.{TakeGoes, taken-goes}
use Rattle.run.proofs.ReadableFrames.{sensed-kind}
use Rattle.run.proofs.RoundsUnderWay.{rounds_in, Numbered, carried-rest}
use Rattle.run.proofs.PassingFrames.{Passing}
use Rattle.run.proofs.AcceptedCalls.{on-sound}
use Rattle.run.proofs.EventFrames.{rounds-left, took-none}
use Rattle.run.proofs.BothWorlds.{forecast_setting, Both, Keeps, proper, sees}
use Rattle.run.proofs.EventsKept.{sending_after, result-counts, result-keeps}

-- a frame that is none of a round: plain of a kind below 4, or with a sense
kind-few : (f : Frame) → well_formed f ≡ true → (f.sense ≡ Plain → kind_number f.message.kind < 4) → kind_number f.message.kind < 4
kind-few f form plain = by-sense f.sense refl
  where
    by-sense : (s : Sense) → f.sense ≡ s → kind_number f.message.kind < 4
    by-sense Plain e = plain e
    by-sense Cancel e = omega (arith, sensed-kind f.message f.sense (rw e (omega arith)) form)
    by-sense Acknowledgment e = omega (arith, sensed-kind f.message f.sense (rw e (omega arith)) form)
    by-sense CancelAcknowledgment e = omega (arith, sensed-kind f.message f.sense (rw e (omega arith)) form)

-- the world after taking such a frame: the rounds stay as they were
taken-world : (n i : ℕ) (frame memory : List ℕ) (frames : List (List ℕ)) (w : World) → kind_in frame < 4 → round_frames w.rounds.open? frames ≡ 0 →
    sending_after w i memory w.rounds.opened frames (without_first (is_frame frame) w.under_way) (taken_by_sense (frame_read
    frame).message (frame_read frame).sense (w.ledgers i))
    ≡ after_taking n i frame memory frames w
unfolding after_taking
taken-world n i frame memory frames w few none =
    rw (ne_eqb (kind_in frame) 6 (λ e. omega arith), ne_eqb (kind_in frame) 5 (λ e. omega arith))
    (λ k. record {
      memories = change i memory w.memories;
      under_way = carry w.rounds.opened frames (without_first (is_frame frame) w.under_way);
      records = w.records;
      ledgers = change i (taken_by_sense (frame_read frame).message (frame_read frame).sense (w.ledgers i)) w.ledgers;
      rounds = unchanged k;
    })
  where
    unchanged : w.rounds ≡ took_more w.rounds.opened (round_frames w.rounds.open? frames) w.rounds
    unchanged = sym (ap (λ (m : ℕ). took_more w.rounds.opened m w.rounds) none ∙ took-none w.rounds.opened w.rounds)

module _ (n : ℕ) (some : 1 ≤ n) (last : ℕ) (setups : ℕ → SetUpInput) {w : World} {t : Worlds.World (forecast_setting n some last setups)} (b
    : Both n some last setups w t) (i : ℕ) (h : i < n) (frame : List ℕ) (bytes : Bytes frame) (output : List ℕ) where
  abbrev g : Gateway
  g = decode (w.memories i)

  abbrev o : Outcome
  o = take_bytes frame (length output) g

  abbrev tag : ℕ
  tag = w.rounds.opened

  abbrev rest : List Carried
  rest = without_first (is_frame frame) w.under_way

  kept : Kept g.settings o.gateway
  kept = (bytes-keep (proper n some last setups b i h) frame bytes (length output)).gateway

  module _ (a : BytesAccepted frame (length output) g) (found : any (is_frame frame) w.under_way ≡ true) (plain : (frame_read
      frame).sense ≡ Plain → kind_in frame < 4) where
    formed : well_formed (frame_read frame) ≡ true
    formed = one-to-one.read_well_formed frame bytes (frame_read frame) a.good

    few : kind_in frame < 4
    few = kind-few (frame_read frame) formed plain

    goes : TakeGoes n last setups (figure_graph n some) refl i (omega arith) (b.beside.done i) t g w.under_way (w.ledgers i)
        (proper n some last setups b i h) (b.stands i h) (sees n some last setups b i h) (b.beside.ledgers i h) frame found tag o
    goes =
        taken-goes n last setups (figure_graph n some) refl i (omega arith) (b.beside.done i) t g w.under_way (w.ledgers i)
        (proper n some last setups b i h) (b.stands i h) (sees n some last setups b i h) (b.beside.ledgers i h) frame found tag
        formed
        (one-to-one.read_ranged frame bytes (frame_read frame) a.good)
        (not-refused g.settings (frame_read frame) a.passes)
        few
        (length output)
        (subst (Accepted (length output) (frame_read frame) g) (sym a.comes-to) a.taken)
        kept

    still : rounds_in rest ≡ rounds_in w.under_way
    still = rounds-left frame w.under_way few

    numbered : All Numbered rest
    numbered = carried-rest (is_frame frame) b.numbered

    passing : All (λ c. Passing n last c.frame) rest
    passing = carried-rest (is_frame frame) b.passing

    take-kept : Keeps n some last setups t (after_taking n i frame (encode o.gateway (w.memories i)) (frames_in (length o.output)
        (write 0 o.output output)) w)
    take-kept =
        subst (Keeps n some last setups t)
        (taken-world n i frame (encode o.gateway (w.memories i)) (frames_in (length o.output) (write 0 o.output output)) w few
        (result-counts n some last setups b i h tag rest still numbered passing goes kept output w.rounds.open?))
        (result-keeps n some last setups b i h tag rest still numbered passing goes kept output)

  pub event-taken-kept : (taken (w.memories i) frame output).answer.number ≡ 0 → any (is_frame frame) w.under_way ≡ true →
      ((frame_read frame).sense ≡ Plain → kind_in frame < 4) →
      let l = taken (w.memories i) frame output in
      Keeps n some last setups t (after_taking n i frame l.memory (frames_in l.answer.written l.output) w)
  unfolding taken
  event-taken-kept z found plain =
      let (is-sound, number, leaves) = on-sound (take_bytes frame) (w.memories i) output z in
      let a = bytes-accepted frame (length output) g number in
      subst (λ (l : CallResult Answer). Keeps n some last setups t (after_taking n i frame l.memory (frames_in l.answer.written
      l.output) w)) (sym leaves)
      (take-kept a found plain)
