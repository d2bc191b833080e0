-- What a call on bytes comes to: accepted, the outcome on the gateway that the memory holds; refused, the memory as it was.
use mathlib.Core.Path.{◌≡◌, refl, sym, ◌∙◌, ap}
use mathlib.Core.Bool.{Bool, true, false, cond, not, ◌&&◌, true≢false}
use mathlib.Core.List.{List, map}
use Prim.Native.Nat.{ℕ, ◌+◌, ◌-◌, ◌/◌, min, max}
use native.Mathlib.Omega.{arith}
use lib.Dec.{eqb, leb}
use lib.ListN.{length}
use borrow.Author.Tests.{eqb-true, eq-eqb}
use Rattle.lists.specs.Lists.{All}
use Rattle.buffer.specs.Slice.{write}
use Rattle.routing.specs.Arcs.{from, to, children}
use Rattle.model.specs.declared.Message.{Message}
use Rattle.model.specs.declared.Kind.TheVariants.{Start, Lvt, Update}
use Rattle.frame.specs.Reasons.{frame_read}
use Rattle.frame.specs.Writing.{written}
use Rattle.frame.specs.declared.Sense.TheVariants.{Plain}
use Rattle.memory.specs.Records.{Gateway}
use Rattle.memory.specs.Codec.{decode, encode}
use Rattle.memory.specs.Soundness.{sound}
use Rattle.lists.proofs.BoolLaws.{and_left, and_right}
use Rattle.gateway.specs.Effects.{Effect, Outcome, refused, settled, with_agreed}
use Rattle.gateway.specs.Rounds.{all_bits, start, begun, is_idle, take_start, take_lvt, take_update, one_start, one_lvt, awaited, bit_of, value_in, frames_in_round}
use Rattle.gateway.specs.Calls.{CallResult, on_sound, leaving, refused_with, take_by_kind, take_by_sense, take_frame, take_bytes}
use Rattle.gateway.specs.Answers.{Answer}
use Rattle.run.specs.World.{frames_in}
use Rattle.run.proofs.FramesCut.{Whole, frames-in}
use Rattle.run.proofs.AcceptedFrames.{outcome_of, settles, not-below, bytes-accepted}

-- what an accepted outcome leaves
abbrev pub left : Outcome → List ℕ → List ℕ → CallResult Answer
left r memory output =
    record {
      answer = record { number = 0; written = length r.output };
      memory = encode r.gateway memory;
      output = write 0 r.output output;
    }

module _ (call : ℕ → Gateway → Outcome) (memory output : List ℕ) where
  abbrev r : Outcome
  r = call (length output) (decode memory)

  -- what the call leaves, by whether its memory is sound and whether it is accepted
  abbrev by_tests : Bool → Bool → CallResult Answer
  by_tests b d = cond b (cond d (left r memory output) (refused_with r.number memory output)) (refused_with 10 memory output)

  -- an accepted call found its memory sound
  pub on-sound : (on_sound call memory output).answer.number ≡ 0
      → (sound memory ≡ true) × (r.number ≡ 0) × (on_sound call memory output ≡ left r memory output)
  unfolding on_sound leaving
  on-sound = go (sound memory) (eqb r.number 0) refl
    where
      go : (b d : Bool) → eqb r.number 0 ≡ d → (by_tests b d).answer.number ≡ 0 → (b ≡ true) × (r.number ≡ 0) × (by_tests b d ≡ left r memory output)
      go true true e h = (refl, eqb-true r.number 0 e, refl)
      go true false e h = absurd (true≢false (sym (eq-eqb r.number 0 h) ∙ e))
      go false d e h = absurd (omega arith)

-- the number that a call answers on sound memory
pub call-number : (call : ℕ → Gateway → Outcome) (memory output : List ℕ) → sound memory ≡ true → (on_sound call memory output).answer.number
    ≡ (call (length output) (decode memory)).number
unfolding on_sound leaving
call-number call memory output s = rw s (by-case (eqb (call (length output) (decode memory)).number 0) refl)
  where
    by-case : (t : Bool) → eqb (call (length output) (decode memory)).number 0 ≡ t → (leaving (call (length output) (decode memory)) memory
        output).answer.number ≡ (call (length output) (decode memory)).number
    by-case true p = rw p (sym (eqb-true (call (length output) (decode memory)).number 0 p))
    by-case false p = rw p

-- the start call
pub start-accepted : (room : ℕ) (g : Gateway) → (start room g).number ≡ 0
    → (g.settings.own ≡ 0) × (is_idle g.round.phase ≡ true) × (start room g ≡ outcome_of (begun g))
unfolding start
start-accepted room g = go (eqb g.settings.own 0 && is_idle g.round.phase) refl
  where
    go : (b : Bool) → (eqb g.settings.own 0 && is_idle g.round.phase) ≡ b → (cond b (settled room g (begun g)) (refused 4 g)).number ≡ 0
        → (g.settings.own ≡ 0) × (is_idle g.round.phase ≡ true) × (cond b (settled room g (begun g)) (refused 4 g) ≡ outcome_of (begun g))
    go true e h = (
      eqb-true g.settings.own 0 (and_left (eqb g.settings.own 0) (is_idle g.round.phase) e),
      and_right (eqb g.settings.own 0) (is_idle g.round.phase) e,
      (settles room g (begun g) h).comes-to,
    )
    go false e h = absurd (omega arith)

-- a call that is refused with 4 out of turn
in-turn-accepted : (room : ℕ) (g : Gateway) (e : Effect) (b : Bool) → (cond b (settled room g e) (refused 4 g)).number ≡ 0
    → cond b (settled room g e) (refused 4 g) ≡ outcome_of e
in-turn-accepted room g e true h = (settles room g e h).comes-to
in-turn-accepted room g e false h = absurd (omega arith)

pub start-taken-accepted : (room k : ℕ) (g : Gateway) → (take_start room k g).number ≡ 0
    → let heard = from g.settings.n g.settings.own in
    take_start room k g ≡ outcome_of (one_start (all_bits heard) (g.round.arrived + bit_of k heard) g)
unfolding take_start
start-taken-accepted room k g h =
    let heard = from g.settings.n g.settings.own in
    in-turn-accepted room g (one_start (all_bits heard) (g.round.arrived + bit_of k heard) g)
    (is_idle g.round.phase && awaited k heard g.round.arrived) h

pub lvt-taken-accepted : (room k hour : ℕ) (g : Gateway) → (take_lvt room k hour g).number ≡ 0
    → let told = to g.settings.n g.settings.own in
    take_lvt room k hour g ≡ outcome_of (one_lvt (all_bits told) (g.round.arrived + bit_of k told) (min (value_in g.round.phase g) hour) g)
unfolding take_lvt
lvt-taken-accepted room k hour g h =
    let told = to g.settings.n g.settings.own in
    in-turn-accepted room g (one_lvt (all_bits told) (g.round.arrived + bit_of k told) (min (value_in g.round.phase g) hour) g)
    (not (is_idle g.round.phase) && awaited k told g.round.arrived) h

pub update-taken-accepted : (room k hour : ℕ) (g : Gateway) → (take_update room k hour g).number ≡ 0
    → take_update room k hour g
    ≡ outcome_of (record {
      gateway = with_agreed (max g.agreed hour) g;
      frames = frames_in_round Update hour g.settings.own (children
          g.settings.n g.settings.own);
    })
unfolding take_update
update-taken-accepted room k hour g h =
    in-turn-accepted room g (record {
      gateway = with_agreed (max g.agreed hour) g;
      frames = frames_in_round Update hour g.settings.own
          (children g.settings.n g.settings.own);
    })
    (leb 1 g.settings.own && eqb k ((g.settings.own - 1) / 2)) h

-- Start, Lvt and Update as bytes
module _ (bytes : List ℕ) (room : ℕ) (g : Gateway) (plain : (frame_read bytes).sense ≡ Plain) (number : (take_bytes bytes room g).number ≡ 0) where
  abbrev m : Message
  m = (frame_read bytes).message

  by-kind : take_bytes bytes room g ≡ take_by_kind room m g m.kind
  unfolding take_frame
  by-kind = (bytes-accepted bytes room g number).comes-to ∙ ap (take_by_sense room m g) plain

  pub start-bytes : m.kind ≡ Start
      → let heard = from g.settings.n g.settings.own in
      take_bytes bytes room g ≡ outcome_of (one_start (all_bits heard) (g.round.arrived + bit_of m.from heard) g)
  start-bytes e =
      let same = by-kind ∙ ap (take_by_kind room m g) e in
      same ∙ start-taken-accepted room m.from g (ap (λ (r : Outcome). r.number) (sym same) ∙ number)

  pub lvt-bytes : m.kind ≡ Lvt
      → let told = to g.settings.n g.settings.own in
      take_bytes bytes room g ≡ outcome_of (one_lvt (all_bits told) (g.round.arrived + bit_of m.from told) (min (value_in g.round.phase g) m.hour) g)
  lvt-bytes e =
      let same = by-kind ∙ ap (take_by_kind room m g) e in
      let due = same ∙ (not-below m.hour g (take_lvt room m.from m.hour g) (ap (λ (r : Outcome). r.number) (sym same) ∙ number)).comes-to in
      due ∙ lvt-taken-accepted room m.from m.hour g (ap (λ (r : Outcome). r.number) (sym due) ∙ number)

  pub update-bytes : m.kind ≡ Update
      → take_bytes bytes room g
      ≡ outcome_of (record {
        gateway = with_agreed (max g.agreed m.hour) g;
        frames = frames_in_round Update m.hour g.settings.own
            (children g.settings.n g.settings.own);
      })
  update-bytes e =
      let same = by-kind ∙ ap (take_by_kind room m g) e in
      same ∙ update-taken-accepted room m.from m.hour g (ap (λ (r : Outcome). r.number) (sym same) ∙ number)

-- the frames that an accepted call wrote
pub call-frames : (call : ℕ → Gateway → Outcome) (memory output : List ℕ) (e : Effect) → (on_sound call memory output).answer.number ≡ 0
    → call (length output) (decode memory) ≡ outcome_of e → All Whole e.frames
    → let l = on_sound call memory output in
    frames_in l.answer.written l.output ≡ map written e.frames
call-frames call memory output e h outcome whole =
    ap (λ (l : CallResult Answer). frames_in l.answer.written l.output) ((on-sound call memory output h).2 ∙ ap (λ r. left r memory output) outcome)
    ∙ frames-in e.frames output whole
