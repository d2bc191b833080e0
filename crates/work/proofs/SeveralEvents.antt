-- Laws of several events of work: before the first, one more, and when work ends; and of work on memory that is not sound.
use mathlib.Core.Path.{◌≡◌, refl, sym, ◌∙◌, ap, subst}
use mathlib.Core.Bool.{true, false, true≢false, false≢true}
use mathlib.Core.List.{List, map}
use Rattle.std.specs.Prelude.{Option, Some, None, is_some, Err}
use borrow.Author.Tests.{eqb-false}
use Prim.Native.Nat.{ℕ, ◌+◌, ◌-◌, ◌*◌, ◌≤◌, ◌<◌}
use native.Mathlib.Nat.{zero-add}
use native.Mathlib.Omega.{arith}
use lib.ListN.{length, length-append}
use Rattle.lists.proofs.ListLaws.{tally-behind}
use Rattle.buffer.specs.Slice.{Bytes, Puts}
use Rattle.memory.specs.Records.{Gateway}
use Rattle.memory.specs.Layout.{outstanding_at, outstanding_size}
use Rattle.memory.specs.Codec.{decode}
use Rattle.memory.specs.Inside.Pieces.{header_written}
use Rattle.memory.specs.Inside.Checking.{checked_as}
use Rattle.memory.specs.Validity.{still_brings}
use Rattle.memory.specs.declared.Header.{Header}
use Rattle.memory.specs.declared.Unsound.{Unsound}
use Rattle.refusal.specs.Numbers.{refusal_number, number_if}
use Rattle.refusal.specs.declared.Refusal.{Refusal}
use Rattle.refusal.specs.declared.Refusal.TheVariants.{NotSound}
use Rattle.memory.proofs.Validated.{valid-facts}
use Rattle.memory.proofs.SoundMemory.{sound-facts, reading-laws}
use Rattle.gateway.specs.Effects.{bytes_of_frames}
use Rattle.gateway.specs.Working.{Progress, worked}
use Rattle.gateway.specs.Calls.{left, worked_off}
use Rattle.gateway.specs.Inside.Premises.{Known}
use Rattle.gateway.proofs.Calling.{unsound}
use Rattle.gateway.proofs.Dispatching.{refusal-numbered}
use Rattle.gateway.specs.Answers.{worked_as}
use Rattle.gateway.specs.declared.Worked.{Worked}
use Rattle.effects.specs.Inside.Placed.{Placed}
use Rattle.effects.specs.Inside.Sending.{frame_of, stored_frames}
use Rattle.effects.proofs.PlacedLaws.{placed_first, placed-inside, placed-last, placed-rest}
use Rattle.effects.proofs.StoredSent.{Stored, sent-stored}
use Rattle.replies.specs.Inside.Turns.{Ready, Reached, Turned, Turns}
use Rattle.replies.specs.declared.Turn.{Turn}
use Rattle.events.proofs.WorkedLaws.{SentMore, First, stops, does, first, and_then, worked-inside, worked-sent, worked-all, worked_then, worked-stopped}
use Rattle.work.specs.Inside.Finishing.{bytes_between, MayFinish, Finishes}

-- the memory after work from `before` on that came to w, for an output of so many bytes
pub record Came (w : Progress) (before : List ℕ) (room : ℕ) (memory : List ℕ) (t : Turn) : Type 0 where
  pub reached : Reached before memory t w.gateway
  pub why : number_if t.why ≡ w.why
  pub written : t.written ≡ length w.output
  pub inside : length w.output ≤ room

-- between two events: count were done from header h on, nothing is put out yet, and work goes on
pub record Going (before output₀ : List ℕ) (h : Header) (room : ℕ) (memory output : List ℕ) (t : Turn) (budget count : ℕ) : Type 0 where
  pub found : Placed before before h (decode before)
  pub came : Came (worked count room (decode before)) before room memory t
  pub on : t.why ≡ None
  pub within : count ≤ budget
  pub same : output ≡ output₀
  pub lent : room ≡ length output₀

-- before the first
pub at_first : {m : List ℕ} (output : List ℕ) {h : Header} → Known m h → Bytes m → (budget : ℕ) → Going m output h (length output) m output (record {
  header = h;
  written
      = 0;
  place = 0;
  why = None;
}) budget 0
unfolding worked
at_first {m} output {h} k bytes budget =
    let s = sound-facts m k.soundness in
    let r = reading-laws m bytes s in
    let found = placed_first m h bytes k in
    record {
      found = found;
      came = record {
        reached = record { placed = found; validity = r.valid-held; ranged = r.ranged; behind = omega arith; next = sym (zero-add _) };
        why = refl;
        written = refl;
        inside = omega arith;
      };
      on = refl;
      within = omega arith;
      same = refl;
      lent = refl;
    }

module _ {w : Progress} {before : List ℕ} {room : ℕ} {memory : List ℕ} {t : Turn} (came : Came w before room memory t) where
  -- what one event asks for
  pub came-ready : Ready memory room t
  came-ready =
      let p = came.reached.placed in
      let i = placed-inside p in
      let v = valid-facts _ came.reached.validity in
      let settings = ap (λ (h : Header). h.settings) p.header in
      let queued : t.header.queued ≡ length w.gateway.queue = ap (λ (h : Header). h.queued) p.header in
      record {
        long = i.long;
        queue-places = rw settings v.settings.q;
        outstanding-places = rw settings v.settings.u;
        queued = i.queued;
        outstanding = i.outstanding;
        place = rw queued came.reached.behind;
        written = rw came.written came.inside;
        stock =
            let behind : t.place ≤ t.header.queued = rw queued came.reached.behind in
            let state : t.header.state.stock ≡ w.gateway.state.stock = ap (λ (h : Header). h.state.stock) p.header in
            rw (placed-rest p t.place behind, state) (omega (arith, tally-behind still_brings t.place w.gateway.queue, v.stocks.held));
      }

  -- one event more
  pub came-further : {memory' : List ℕ} {r : Turn} → Turns memory room memory' t r → (x : Progress)
      → x ≡ and_then w (worked 1 (room - length w.output) w.gateway) → Came x before room memory' r
  came-further {memory'} {r} turns x e =
      let one = worked 1 (room - length w.output) w.gateway in
      let next : Turned one before memory' t r =
      subst (λ (n : ℕ). Turned (worked 1 (room - n) w.gateway) before memory' t r) came.written (turns before w.gateway came.reached)
      in
      let bound = worked-inside 1 (room - length w.output) w.gateway in
      rw e
      (record {
        reached = next.reached;
        why = next.why;
        written = next.written ∙ rw (came.written, length-append);
        inside = rw length-append (omega (arith, bound, came.inside));
      })

  -- the end: what was sent since header h stands behind what was outstanding, and its frames are the output
  module _ {h : Header} (found : Placed before before h (decode before)) (sent : SentMore (decode before) w.gateway w.output) where
    count-is : t.header.outstanding ≡ h.outstanding + length sent.sent
    count-is =
        let then = ap (λ (x : Header). x.outstanding) came.reached.placed.header in
        let used = ap (λ (x : Header). x.outstanding) found.header in
        let all = ap length sent.outstanding ∙ length-append (decode before).outstanding sent.sent in
        omega arith

    there : Stored memory (outstanding_at h.settings.q h.outstanding) (t.header.outstanding - h.outstanding) (map frame_of sent.sent)
    there = sent-stored found came.reached.placed sent.settings sent.sent sent.outstanding refl (omega (arith, count-is))

    bytes-are : bytes_between memory h t.header ≡ w.output
    bytes-are = ap bytes_of_frames there.held ∙ sym sent.frames

    pub may-finish : {output : List ℕ} → room ≡ length output → MayFinish memory output h t.header
    may-finish e =
        let i = placed-inside came.reached.placed in
        record {
          long = omega (arith, i.long);
          more = omega (arith, count-is);
          places = omega (arith, count-is, there.inside);
          room = rw (bytes-are, ← e) came.inside;
        }

-- finishing: the frames put out from the first place that was free, and the header written
module _ {memory output : List ℕ} {first : Header} {place : ℕ} (at : place ≡ outstanding_at first.settings.q first.outstanding) where
  pub may-put : {last : Header} → MayFinish memory output first last → (place + outstanding_size * (last.outstanding - first.outstanding) ≤ length memory)
      × (length (bytes_of_frames (stored_frames memory place (last.outstanding - first.outstanding))) ≤ length output)
  may-put may = (omega (arith, at, may.more, may.places), rw at may.room)

  pub finishes : {t : Turn} {memory' output' : List ℕ} {count behind : ℕ}
      → Puts 0 (bytes_of_frames (stored_frames memory place (t.header.outstanding - first.outstanding))) output output' behind
      → memory' ≡ header_written t.header memory
      → Finishes memory output memory' output' first t count (record { count = count; stopped = t.why; written = behind })
  finishes p e = record { answer = rw (p.position, at, zero-add); stored = e; put = rw at at p.output }

-- work stops with the number of its refusal, and goes on where there is none
not-zero : (w : Option Refusal) → is_some w ≡ true → number_if w ≡ 0 → ⊥
not-zero (Some why) e = eqb-false (refusal_number why) 0 (refusal-numbered why)
not-zero None e = absurd (false≢true e)

goes-on : (w : Option Refusal) → is_some w ≡ false → w ≡ None
goes-on (Some why) e = absurd (true≢false e)
goes-on None e = refl

-- the next event stopped work, and was not counted
stopped-count : (room : ℕ) (g : Gateway) → ((worked 1 room g).why ≡ 0 → ⊥) → (worked 1 room g).count ≡ 0
unfolding worked
stopped-count room g n = by-case (first room g)
  where
    by-case : First room g → (worked 1 room g).count ≡ 0
    by-case (stops why k e) = ap (λ (p : Progress). p.count) (e 0)
    by-case (does output h l s e) = absurd (n (ap (λ (p : Progress). p.why) (e 0)))

-- work that came to what the definition says
finished : (budget : ℕ) {m output memory after output' : List ℕ} {h : Header} {t : Turn} {r : Worked} {count : ℕ} → Known m h
    → Placed m m h (decode m) → Came (worked budget (length output) (decode m)) m (length output) memory t
    → count ≡ (worked budget (length output) (decode m)).count → Finishes memory output after output' h t count r
    → left (worked_as r) after output' ≡ worked_off budget m output
unfolding worked_off
finished budget {m} {output} k found came counted f =
    let bytes = bytes-are came found (worked-sent budget (length output) (decode m)) in
    rw (k.soundness, f.answer, counted, came.why, f.put, bytes, placed-last came.reached.placed f.stored)

module _ {before output₀ : List ℕ} {h : Header} {room : ℕ} {memory output : List ℕ} {t : Turn} {budget count : ℕ}
    (going : Going before output₀ h room memory output t budget count) where
  w : Progress
  w = worked count room (decode before)

  pub ready : Ready memory room t
  ready = came-ready going.came

  done_all : w.why ≡ 0
  unfolding w
  done_all = sym going.came.why ∙ ap number_if going.on

  lent : room ≡ length output
  lent = going.lent ∙ ap length (sym going.same)

  module _ (more : count < budget) {memory' : List ℕ} {r : Turn} (turns : Turns memory room memory' t r) where
    further : worked (count + 1) room (decode before) ≡ and_then w (worked 1 (room - length w.output) w.gateway)
    unfolding w
    further = worked_then count 1 room (decode before) done_all

    came-next : Came (worked (count + 1) room (decode before)) before room memory' r
    unfolding w
    came-next = came-further going.came turns _ further

    pub one_more : is_some r.why ≡ false → Going before output₀ h room memory' output r budget (count + 1)
    one_more z = record { found = going.found; came = came-next; on = goes-on r.why z; within = omega arith; same = going.same; lent = going.lent }

    pub may-stop : MayFinish memory' output h r.header
    may-stop = may-finish came-next going.found (worked-sent (count + 1) room (decode before)) lent

    pub stops-early : {after output' : List ℕ} {answer : Worked} → Known before h → is_some r.why ≡ true → Finishes memory' output after output' h r count answer
        → left (worked_as answer) after output' ≡ worked_off budget before output₀
    unfolding w
    stops-early k s f =
        let ended : (worked (count + 1) room (decode before)).why ≡ 0 → ⊥ = λ z. not-zero r.why s (came-next.why ∙ z) in
        let whole : worked budget room (decode before) ≡ worked (count + 1) room (decode before) =
        let b : budget ≡ count + 1 + (budget - (count + 1)) = omega arith in
        ap (λ (n : ℕ). worked n room (decode before)) b ∙ worked-stopped (count + 1) (budget - (count + 1)) room (decode before) ended
        in
        let none : (worked 1 (room - length w.output) w.gateway).count ≡ 0 =
        stopped-count (room - length w.output) w.gateway (λ z. ended (ap (λ (p : Progress). p.why) further ∙ z))
        in
        let counted : (worked (count + 1) room (decode before)).count ≡ count =
        ap (λ (p : Progress). p.count) further ∙ omega (arith, none, worked-all count room (decode before) done_all)
        in
        finished budget k going.found
        (rw (← going.lent, whole) came-next)
        (rw (← going.lent) (sym counted ∙ ap (λ (p : Progress). p.count) (sym whole)))
        (rw going.same at f)

  module _ (l : budget ≤ count) where
    pub may-end : MayFinish memory output h t.header
    may-end = may-finish going.came going.found (worked-sent count room (decode before)) lent

    pub ends : {after output' : List ℕ} {answer : Worked} → Known before h → Finishes memory output after output' h t budget answer
        → left (worked_as answer) after output' ≡ worked_off budget before output₀
    unfolding w
    ends k f =
        let e : budget ≡ count = omega (arith, going.within) in
        finished budget k going.found
        (rw (← going.lent, e) going.came)
        (e ∙ rw (← going.lent, e) (sym (worked-all count room (decode before) done_all)))
        (rw going.same at f)

-- work on memory that is not sound
pub work-unsound : (budget : ℕ) (m output : List ℕ) {found : Unsound} {why : Refusal} → Err found ≡ checked_as m → why ≡ NotSound
    → left (worked_as (record { count = 0; stopped = Some why; written = 0 })) m output ≡ worked_off budget m output
unfolding worked_off
work-unsound budget m output refused number = rw (unsound m refused, number)
