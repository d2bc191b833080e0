-- How many bytes the calls write at most: far less than a packed answer has place for.
use mathlib.Core.Path.{◌≡◌, refl, sym, subst}
use mathlib.Core.Bool.{Bool, true, false, cond, ◌&&◌}
use mathlib.Core.List.Memᴰ.{head as here}
use mathlib.Core.List.{List, [], ◌∷◌}
use Prim.Native.Nat.{ℕ, zero, suc, ◌+◌, ◌*◌, ◌-◌, ◌≤◌}
use native.Mathlib.Omega.{arith}
use lib.Dec.{leb, ltb, eqb}
use lib.ListN.{length, length-append}
use Rattle.lists.specs.Lists.{◌∈◌, joined}
use Rattle.routing.specs.Arcs.{from, to, children, if_below}
use Rattle.buffer.specs.Slice.{Bytes, write}
use Rattle.model.specs.Doing.{after, sent}
use Rattle.model.specs.declared.Message.{Message}
use Rattle.memory.specs.Records.{Gateway, site_of}
use Rattle.memory.specs.Codec.{decode, encode}
use Rattle.memory.specs.Soundness.{sound}
use Rattle.memory.specs.Validity.{is_waiting, frame_if}
use Rattle.memory.specs.declared.Entry.{Entry}
use Rattle.memory.specs.declared.Settings.{Settings}
use Rattle.memory.proofs.SoundMemory.{codec-laws}
use Rattle.memory.proofs.Validated.{valid-facts}
use Rattle.model.specs.declared.Kind.TheVariants.{Start, Lvt, Update}
use Rattle.gateway.proofs.Calling.{by-work}
use Rattle.gateway.specs.Effects.{Effect, Outcome, bytes_of_frames, fits, settled, with_state, with_queue}
use Rattle.gateway.specs.Rounds.{finished, value_at, least_outstanding, begun, is_idle, start}
use Rattle.gateway.specs.Undoing.{processed_of}
use Rattle.gateway.specs.Committing.{record_for, record_of, commit_oldest, commit}
use Rattle.gateway.specs.Working.{pending_of, processed_next, done, Progress, none_done, once_more, worked_by, worked}
use Rattle.gateway.specs.Calls.{CallResult, refused_with, leaving, on_sound, started, committed, worked_off}
use Rattle.gateway.specs.Answers.{Answer}
use Rattle.gateway.proofs.Searches.{pending-member, processed-member}
use Rattle.gateway.proofs.Replies.{Good, sent-good}
use Rattle.routing.proofs.FewArcs.{from-few, to-few}
use Rattle.gateway.proofs.Maintaining.{Proper, standing, fitting}
use Rattle.gateway.proofs.Takings.{done-stands}
use Rattle.gateway.proofs.Keeps.{work-keeps}
use Rattle.memory.proofs.Stored.{length-state}
use Rattle.rollback.proofs.RollbackLaws.{sent-outstanding}
use Rattle.frame.proofs.Sizes.{frame_small}
use Rattle.hurfaith.proofs.FrameSizes.{messages-small, round-small}

-- either of two outcomes, or of two effects
pub either-small : (b : Bool) (u v : Outcome) {most : ℕ} → length u.output ≤ most → length v.output ≤ most → length (cond b u v).output ≤ most
either-small true u v h l = h
either-small false u v h l = l

pub either-frames : (b : Bool) (u v : Effect) {most : ℕ} → length (bytes_of_frames u.frames) ≤ most → length (bytes_of_frames v.frames) ≤ most
    → length (bytes_of_frames (cond b u v).frames) ≤ most
either-frames true u v h l = h
either-frames false u v h l = l

pub settled-small : (room : ℕ) (g : Gateway) (e : Effect) {most : ℕ} → length (bytes_of_frames e.frames) ≤ most → length (settled room g e).output ≤ most
unfolding settled
settled-small room g e h = either-small (fits room e) _ _ h (omega arith)

-- a round's frames go to at most two gateways
module _ {g : Gateway} (p : Proper g) where
  abbrev s : Settings
  s = g.settings

  pub few-children : length (children s.n s.own) ≤ 2
  unfolding children
  few-children = rw length-append (omega (arith, few s.n (2 * s.own + 1), few s.n (2 * s.own + 2)))
    where
      one : (b : Bool) (k : ℕ) → length (cond b (k ∷ []) []) ≤ 1
      one true k = omega arith
      one false k = omega arith

      few : (n k : ℕ) → length (if_below n k) ≤ 1
      few n k = one (ltb k n) k

  pub finished-small : (value : ℕ) → length (bytes_of_frames (finished value g).frames) ≤ 56
  unfolding finished joined
  finished-small value =
      either-frames (eqb s.own 0) _ _
      (omega (arith, round-small Update value s.own (children s.n s.own), few-children))
      (omega (arith, round-small Lvt value s.own (from s.n s.own), (from-few s.n s.own (standing p).settings.own).two))

  pub begun-small : length (bytes_of_frames (begun g).frames) ≤ 56
  unfolding begun joined
  begun-small =
      either-frames (eqb (s.own + 1) s.n) _ _
      (finished-small (value_at (least_outstanding g.outstanding) g))
      (omega (arith, round-small Start 0 s.own (to s.n s.own), (to-few s.n s.own (standing p).settings.own).two))

  start_small : (room : ℕ) → length (start room g).output ≤ 56
  unfolding start
  start_small room = either-small (eqb s.own 0 && is_idle g.round.phase) _ _ (settled-small room g (begun g) begun-small) (omega arith)

  -- an event's record
  commit-small : (room : ℕ) → length (commit room g).output ≤ 44
  unfolding commit record_for
  commit-small room = oldest (processed_of g.queue) (λ e n. processed-member g.queue e n)
    where
      one : (e : Entry) → length e.message.lamp ≡ 18 → length (record_of e) ≤ 44
      one e lamp = rw (length-append, length-state) (omega (arith, frame_small (frame_if false e.message) lamp))

      oldest : (es : List Entry) → ((e : Entry) → e ∈ es → e ∈ g.queue) → length (commit_oldest room g es).output ≤ 44
      oldest [] h = omega arith
      oldest (e ∷ es) h =
          either-small (ltb e.message.hour g.agreed) _ _
          (either-small (leb (length (record_of e)) room) _ _ (one e ((standing p).entries e (h e (here refl))).ranged.message.lamp) (omega arith))
          (omega arith)

-- work puts out no more than twenty-eight bytes for each outstanding place that it takes
work-places : (b room : ℕ) {g : Gateway} → Proper g → length (worked b room g).output + 28 * length g.outstanding ≤ 28 * length (worked
    b room g).gateway.outstanding
unfolding worked done
work-places zero room p = omega arith
work-places (suc b) room {g} p = next (pending_of g.queue) refl (λ room' h q. work-places b room' q)
  where
    Places : Progress → Type 0
    Places r = length r.output + 28 * length g.outstanding ≤ 28 * length r.gateway.outstanding

    Again : Type 0
    Again = (room' : ℕ) (h : Gateway) → Proper h → length (worked b room' h).output + 28 * length h.outstanding ≤ 28 * length (worked b
        room' h).gateway.outstanding

    rest : Message → Progress
    rest m = once_more (bytes_of_frames (done m g).frames) (worked b (room - length (bytes_of_frames (done m g).frames)) (done m g).gateway)

    -- one event
    event : (m : Message) {cancel : Bool} → Good g.settings cancel m
        → length (bytes_of_frames (done m g).frames) + 28 * length g.outstanding ≤ 28 * length (done m g).gateway.outstanding
    event m good =
        let ms = sent (site_of g.settings) g.state m in
        let before = with_state (after g.state m.kind) (with_queue (processed_next g.state g.queue) g) in
        let more = sent-outstanding false ms before in
        let small = messages-small false ms (λ x n. (sent-good g.settings (standing p).settings m good false g.state x n).ranged.lamp) in
        omega arith

    one : (m : Message) {ms : List Message} → pending_of g.queue ≡ m ∷ ms → {cancel : Bool} → Good g.settings cancel m → (t : Bool) → fits room (done m g) ≡ t → Again → Places (cond t (rest m) (none_done 5 g))
    one m first good true e again =
        let now = fitting room (done m g) (done-stands p m first good) e in
        let then = again (room - length (bytes_of_frames (done m g).frames)) (done m g).gateway now.proper in
        rw length-append (omega (arith, then, event m good))
    one m first good false e again = omega arith

    next : (ms : List Message) → pending_of g.queue ≡ ms → Again → Places (worked_by ms (none_done 6 g) (λ m. cond (fits room (done m g))
        (rest m) (none_done 5 g)))
    next [] e again = omega arith
    next (m ∷ ms) e again =
        let r = pending-member g.queue m (rw e (here refl)) in
        let entry = (standing p).entries r.0 r.1 in
        let good = subst (Good g.settings (is_waiting r.0)) (sym r.2) (record { storable = entry.valid.message; ranged = entry.ranged.message }) in
        one m e good (fits room (done m g)) refl again

-- the calls
module _ (memory output : List ℕ) (bytes : Bytes memory) where
  pub held : sound memory ≡ true → Proper (decode memory)
  held h = let r = codec-laws.reading memory bytes h in record { valid = r.valid-held; ranged = r.ranged }

  left-small : (r : Outcome) {most : ℕ} → length r.output ≤ most → (leaving r memory output).answer.written ≤ most
  unfolding leaving
  left-small r {most} h = by (eqb r.number 0)
    where
      left : Bool → CallResult Answer
      left b =
          cond b
          (record { answer = record { number = 0; written = length r.output }; memory = encode r.gateway memory; output = write 0 r.output output })
          (refused_with r.number memory output)

      by : (b : Bool) → (left b).answer.written ≤ most
      by true = h
      by false = omega arith

  pub call-small : (call : ℕ → Gateway → Outcome) {most : ℕ} → (Proper (decode memory) → length (call (length output) (decode memory)).output ≤ most)
      → (on_sound call memory output).answer.written ≤ most
  unfolding on_sound
  call-small call {most} h = by (sound memory) refl
    where
      by : (b : Bool) → sound memory ≡ b → (cond b (leaving (call (length output) (decode memory)) memory output) (refused_with 10 memory
          output)).answer.written ≤ most
      by true e = left-small (call (length output) (decode memory)) (h (held e))
      by false e = omega arith

  pub started-small : (started memory output).answer.written ≤ 56
  unfolding started
  started-small = call-small start (λ p. start_small p (length output))

  pub committed-small : (committed memory output).answer.written ≤ 44
  unfolding committed
  committed-small = call-small commit (λ p. commit-small p (length output))

  -- 28 × 512
  pub worked-small : (b : ℕ) → (worked_off b memory output).answer.written ≤ 14336
  worked-small b =
      by-work b memory output (λ a. a.written ≤ 14336)
      (λ e.
      let w = work-keeps b (length output) (held e) in
      let v = valid-facts (worked b (length output) (decode memory)).gateway w.gateway.proper.valid in
      omega (arith, work-places b (length output) (held e), v.sent, v.settings.u))
      (omega arith)
