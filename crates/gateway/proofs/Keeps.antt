-- Every call on a proper gateway leaves a proper gateway with the same settings, whatever it answers, and never answers 10.
use mathlib.Core.Path.{◌≡◌, refl, sym, ◌∙◌, subst}
use mathlib.Core.Bool.{Bool, true, false, cond, not, ◌&&◌}
use mathlib.Core.List.Memᴰ.{head as here}
use mathlib.Core.List.{List, [], ◌∷◌}
use Prim.Native.Nat.{ℕ, zero, suc, ◌-◌, ◌/◌, ◌≤◌, ◌<◌, max}
use native.Mathlib.Omega.{arith}
use lib.Dec.{leb, ltb, eqb}
use lib.ListN.{length}
use borrow.Author.Tests.{eqb-true, not-true}
use Rattle.lists.specs.Lists.{any, without_first}
use Rattle.lists.proofs.SearchLaws.{without-part}
use Rattle.lists.proofs.Ascents.{part-member, part_length}
use Rattle.routing.specs.Arcs.{from, to}
use Rattle.buffer.specs.Slice.{Bytes}
use Rattle.model.specs.Messages.{kind_number, quantity_of}
use Rattle.model.specs.declared.Message.{Message}
use Rattle.model.specs.declared.Kind.{Kind}
use Rattle.model.specs.declared.Kind.TheVariants.{Failure, Request, Delivery, Restock, Start, Lvt, Update}
use Rattle.frame.proofs.Laws.{one-to-one}
use Rattle.std.specs.Prelude.{Result}
use Rattle.frame.specs.Reasons.{reading, form_number, frame_read}
use Rattle.frame.specs.Limits.{refusal}
use Rattle.frame.specs.declared.Frame.{Frame}
use Rattle.frame.specs.declared.forms.FormError.{FormError}
use Rattle.frame.specs.declared.forms.FormError.TheVariants.{NotTaken}
use Rattle.frame.specs.declared.Sense.{Sense}
use Rattle.frame.specs.declared.Sense.TheVariants.{Plain, Cancel, Acknowledgment, CancelAcknowledgment}
use Rattle.memory.specs.Records.{Gateway}
use Rattle.memory.specs.Validity.{is_processed, is_waiting}
use Rattle.memory.specs.declared.Settings.{Settings}
use Rattle.memory.specs.declared.Entry.{Entry}
use Rattle.memory.proofs.Validated.{valid-facts}
use Rattle.lists.proofs.BoolLaws.{and_left, and_right}
use Rattle.gateway.specs.Effects.{Outcome, bytes_of_frames, fits, refused, settled, with_queue}
use Rattle.gateway.specs.Undoing.{processed_of}
use Rattle.gateway.specs.Taking.{take_plain, take_cancel, is_sent, take_acknowledgment}
use Rattle.gateway.specs.Working.{pending_of, done, Progress, none_done, once_more, worked_by, worked}
use Rattle.gateway.specs.Rounds.{begun, is_idle, start, awaited, take_start, take_lvt, take_update}
use Rattle.gateway.specs.Committing.{record_of, commit_oldest, commit}
use Rattle.gateway.specs.Calls.{unless_below, by_carrier, take_by_kind, take_by_sense, take_frame, take_read, take_bytes}
use Rattle.gateway.proofs.Searches.{pending-member}
use Rattle.gateway.proofs.Replies.{Good}
use Rattle.gateway.proofs.Maintaining.{Proper, Standing, standing, Kept, enough, Ends, below-ten, unchanged, refuse, with-agreed, with-outstanding, fitting, settle}
use Rattle.gateway.proofs.Queues.{leave-out}
use Rattle.model.proofs.KindNumbers.{no-restock}
use Rattle.gateway.proofs.Stocks.{stocks-part}
use Rattle.gateway.proofs.Arrivals.{begun-stands, start-stands, lvt-stands}
use Rattle.frame.proofs.FormNumbers.{number-sound, number_small, Taking, takes, refuses as refuses_for, taking}
use Rattle.gateway.proofs.Accepting.{Accepted, refusal-below, not-refused, accepted-good, cancel-kind}
use Rattle.gateway.proofs.Takings.{plain-stands, cancel-stands, done-stands, queue-of, requeue}

-- either of two outcomes
either : {s : Settings} (b : Bool) {u v : Outcome} → (b ≡ true → Ends s u) → (b ≡ false → Ends s v) → Ends s (cond b u v)
either true h l = h refl
either false h l = l refl

module _ {g : Gateway} (p : Proper g) where
  refuses : (number : ℕ) → number < 10 → {b : Bool} → b ≡ false → Ends g.settings (refused number g)
  refuses number h e = refuse p number (below-ten h)

  refuses-form : (reason : FormError) → Ends g.settings (refused (form_number reason) g)
  refuses-form reason = refuse p (form_number reason) (record { sound = number-sound reason; small = number_small reason })

  pub plain-keeps : (room : ℕ) (m : Message) → Good g.settings false m → m.to ≡ g.settings.own → quantity_of m.kind ≡ 0
      → Ends g.settings (settled room g (take_plain m g))
  plain-keeps room m good to-here nothing = settle p room (take_plain m g) (plain-stands p m good to-here nothing)

  pub cancel-keeps : (room : ℕ) (m : Message) → Good g.settings true m → m.to ≡ g.settings.own → Ends g.settings (settled room g (take_cancel m g))
  cancel-keeps room m good to-here = settle p room (take_cancel m g) (cancel-stands p m good to-here)

  pub acknowledgment-keeps : (cancel : Bool) (m : Message) → Ends g.settings (take_acknowledgment cancel m g)
  unfolding take_acknowledgment
  acknowledgment-keeps cancel m =
      either (any (is_sent cancel m) g.outstanding)
      (λ e.
      let v = valid-facts g p.valid in
      let fewer = without-part (is_sent cancel m) g.outstanding in
      let k = with-outstanding (standing p) (without_first (is_sent cancel m) g.outstanding) (λ x n. (standing p).outstanding x (part-member fewer n)) in
      record { gateway = enough k v.queued (omega (arith, part_length fewer, v.sent)); number = below-ten (omega arith) })
      (refuses 7 (omega arith))

  pub start-keeps : (room : ℕ) → Ends g.settings (start room g)
  unfolding start
  start-keeps room =
      either (eqb g.settings.own 0 && is_idle g.round.phase) (λ e. settle p room (begun g) (begun-stands (standing p))) (refuses 4 (omega arith))

  pub take-start-keeps : (room sender : ℕ) → Ends g.settings (take_start room sender g)
  unfolding take_start
  take-start-keeps room sender =
      let idle = is_idle g.round.phase in
      let heard = from g.settings.n g.settings.own in
      let first = awaited sender heard g.round.arrived in
      either (idle && first)
      (λ e. settle p room _ (start-stands (standing p) sender (and_left idle first e) (and_right idle first e)))
      (refuses 4 (omega arith))

  pub take-lvt-keeps : (room sender hour : ℕ) → Ends g.settings (take_lvt room sender hour g)
  unfolding take_lvt
  take-lvt-keeps room sender hour =
      let idle = is_idle g.round.phase in
      let told = to g.settings.n g.settings.own in
      let first = awaited sender told g.round.arrived in
      either (not idle && first)
      (λ e. settle p room _ (lvt-stands (standing p) sender hour (not-true idle (and_left (not idle) first e)) (and_right (not idle) first e)))
      (refuses 4 (omega arith))

  pub take-update-keeps : (room sender hour : ℕ) → hour < 4294967296 → Ends g.settings (take_update room sender hour g)
  unfolding take_update
  take-update-keeps room sender hour h =
      either (leb 1 g.settings.own && eqb sender ((g.settings.own - 1) / 2))
      (λ e. settle p room _ (with-agreed (standing p) (max g.agreed hour) (omega (arith, p.ranged.agreed))))
      (refuses 4 (omega arith))

  pub commit-keeps : (room : ℕ) → Ends g.settings (commit room g)
  unfolding commit
  commit-keeps room = oldest (processed_of g.queue)
    where
      left : Kept g.settings (with_queue (without_first is_processed g.queue) g)
      left =
          let v = valid-facts g p.valid in
          let fewer = without-part is_processed g.queue in
          enough (requeue (standing p) (without_first is_processed g.queue) (leave-out fewer (queue-of (standing p))) (stocks-part fewer (standing p).stocks)) (omega (
            arith,
            part_length fewer,
            v.queued,
          )) v.sent

      oldest : (es : List Entry) → Ends g.settings (commit_oldest room g es)
      oldest [] = refuse p 6 (below-ten (omega arith))
      oldest (e ∷ es) =
          either (ltb e.message.hour g.agreed)
          (λ h. either (leb (length (record_of e)) room) (λ l. record { gateway = left; number = below-ten (omega arith) }) (refuses 5 (omega arith)))
          (refuses 6 (omega arith))

  -- taking a frame
  below-keeps : (hour : ℕ) {r : Outcome} → Ends g.settings r → Ends g.settings (unless_below hour g r)
  below-keeps hour h = either (ltb hour g.agreed) (λ e. refuse p 9 (below-ten (omega arith))) (λ e. h)

  pub frame-keeps : (room : ℕ) (f : Frame) → Accepted g.settings f → Ends g.settings (take_frame room f g)
  unfolding take_frame
  frame-keeps room f a = by-sense f.sense refl
    where
      in-sense : {sense : Sense} → f.sense ≡ sense → Accepted g.settings (record { message = f.message; sense = sense })
      in-sense e = subst (λ (t : Sense). Accepted g.settings (record { message = f.message; sense = t })) e a

      plain : f.sense ≡ Plain → kind_number f.message.kind ≤ 2 → Ends g.settings (unless_below f.message.hour g (settled room g
          (take_plain f.message g)))
      plain e k =
          let t = accepted-good g.settings false f.message (omega (arith, k)) (in-sense e) in
          below-keeps f.message.hour (plain-keeps room f.message t.good t.here (no-restock f.message.kind k))

      by-kind : f.sense ≡ Plain → (kind : Kind) → f.message.kind ≡ kind → Ends g.settings (take_by_kind room f.message g kind)
      by-kind e (Failure origin) i = plain e (rw i (omega arith))
      by-kind e (Request origin) i = plain e (rw i (omega arith))
      by-kind e (Delivery origin) i = plain e (rw i (omega arith))
      by-kind e (Restock quantity) i = refuses-form NotTaken
      by-kind e Start i = take-start-keeps room f.message.from
      by-kind e Lvt i = below-keeps f.message.hour (take-lvt-keeps room f.message.from f.message.hour)
      by-kind e Update i = take-update-keeps room f.message.from f.message.hour (omega (arith, a.ranged.hour))

      by-sense : (sense : Sense) → f.sense ≡ sense → Ends g.settings (take_by_sense room f.message g sense)
      by-sense Plain e = by-kind e f.message.kind refl
      by-sense Cancel e =
          let t = accepted-good g.settings true f.message (omega (arith, cancel-kind f.message (in-sense e).form)) (in-sense e) in
          below-keeps f.message.hour (cancel-keeps room f.message t.good t.here)
      by-sense Acknowledgment e = acknowledgment-keeps false f.message
      by-sense CancelAcknowledgment e = acknowledgment-keeps true f.message

  -- taking a byte string
  pub bytes-keep : (bytes : List ℕ) → Bytes bytes → (room : ℕ) → Ends g.settings (take_bytes bytes room g)
  unfolding take_bytes
  bytes-keep bytes h room = by (taking by_carrier (reading bytes))
    where
      by : {q : Result Frame FormError} → Taking by_carrier (reading bytes) q → Ends g.settings (take_read q room g)
      by (takes good kind) =
          let f = frame_read bytes in
          let s = g.settings in
          let number = refusal f s.n s.own s.last in
          either (eqb number 0)
          (λ z. frame-keeps room f (record {
            form = one-to-one.read_well_formed bytes h f good;
            ranged = one-to-one.read_ranged bytes h f good;
            passes = not-refused s f (eqb-true number 0 z);
          }))
          (refuses number (refusal-below f s.n s.own s.last))
      by (refuses_for reason) = refuses-form reason

-- how work ends, however many events it does
pub record WorkEnds (s : Settings) (r : Progress) : Type 0 where
  pub gateway : Kept s r.gateway
  pub why : r.why < 10

pub work-keeps : (b room : ℕ) {g : Gateway} → Proper g → WorkEnds g.settings (worked b room g)
unfolding worked
work-keeps zero room p = record { gateway = unchanged p; why = omega arith }
work-keeps (suc b) room {g} p = next (pending_of g.queue) refl (λ room' h q. work-keeps b room' q)
  where
    rest : Message → Progress
    rest m = once_more (bytes_of_frames (done m g).frames) (worked b (room - length (bytes_of_frames (done m g).frames)) (done m g).gateway)

    one : (m : Message) (t : Bool) → fits room (done m g) ≡ t → Standing g.settings (done m g).gateway → ((room' : ℕ) (h : Gateway) →
        Proper h → WorkEnds h.settings (worked b room' h))
        → WorkEnds g.settings (cond t (rest m) (none_done 5 g))
    one m true e k again =
        let now = fitting room (done m g) k e in
        let then = again (room - length (bytes_of_frames (done m g).frames)) (done m g).gateway now.proper in
        record { gateway = record { same = then.gateway.same ∙ now.same; proper = then.gateway.proper }; why = then.why }
    one m false e k again = record { gateway = unchanged p; why = omega arith }

    next : (ms : List Message) → pending_of g.queue ≡ ms → ((room' : ℕ) (h : Gateway) → Proper h → WorkEnds h.settings (worked b room' h))
        → WorkEnds g.settings (worked_by ms (none_done 6 g) (λ m. cond (fits room (done m g)) (rest m) (none_done 5 g)))
    next [] e again = record { gateway = unchanged p; why = omega arith }
    next (m ∷ ms) e again =
        let r = pending-member g.queue m (rw e (here refl)) in
        let entry = (standing p).entries r.0 r.1 in
        let good = subst (Good g.settings (is_waiting r.0)) (sym r.2) (record { storable = entry.valid.message; ranged = entry.ranged.message }) in
        one m (fits room (done m g)) refl (done-stands p m e good) again
