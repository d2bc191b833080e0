-- How many bytes taking a frame writes at most: the acknowledgment, and a cancel for each outstanding place that it takes.
use mathlib.Core.Path.{◌≡◌, refl, subst}
use mathlib.Core.Logic.{⊎_elim}
use mathlib.Core.Bool.{Bool, true, false, cond, not, ◌&&◌}
use mathlib.Core.List.Memᴰ
use mathlib.Core.List.Memᴰ.{head as here}
use mathlib.Core.List.Memᴰ.{tail as there}
use mathlib.Core.List.{List, [], ◌∷◌}
use Prim.Native.Nat.{ℕ, ◌+◌, ◌*◌, ◌-◌, ◌/◌, ◌≤◌, min}
use native.Mathlib.Omega.{arith}
use lib.Dec.{leb, ltb, eqb}
use lib.ListN.{length, length-append}
use borrow.Author.Tests.{eqb-true}
use Rattle.lists.specs.Lists.{◌∈◌, any, from_last, joined}
use Rattle.lists.proofs.SearchLaws.{cut-first}
use Rattle.routing.specs.Arcs.{from, to, children}
use Rattle.buffer.specs.Slice.{Bytes}
use Rattle.model.specs.Messages.{kind_number, quantity_of}
use Rattle.model.proofs.KindNumbers.{no-restock}
use Rattle.model.specs.declared.Message.{Message}
use Rattle.model.specs.declared.Kind.{Kind}
use Rattle.model.specs.declared.Kind.TheVariants.{Failure, Request, Delivery, Restock, Start, Lvt, Update}
use Rattle.frame.proofs.Laws.{one-to-one}
use Rattle.std.specs.Prelude.{Result, Ok}
use Rattle.frame.specs.Reasons.{reading, frame_read}
use Rattle.frame.specs.declared.forms.FormError.{FormError}
use Rattle.frame.specs.Limits.{refusal}
use Rattle.frame.specs.declared.Frame.{Frame}
use Rattle.frame.specs.declared.Sense.{Sense}
use Rattle.frame.specs.declared.Sense.TheVariants.{Plain, Cancel, Acknowledgment, CancelAcknowledgment}
use Rattle.memory.specs.Records.{Gateway, site_of}
use Rattle.memory.specs.declared.Entry.{Entry}
use Rattle.memory.specs.declared.Settings.{Settings}
use Rattle.memory.proofs.Validated.{valid-facts}
use Rattle.gateway.specs.Effects.{Effect, Outcome, bytes_of_frames, fits, settled, refused, frames_for, with_state}
use Rattle.gateway.specs.Undoing.{processed_of, restored, sent_back, rolled_back}
use Rattle.lists.specs.Lists.{before_first, from_first}
use Rattle.gateway.specs.Taking.{is_later, is_cancel_of, is_plain, is_sent, acknowledgment, take_plain, take_cancel, take_acknowledgment}
use Rattle.gateway.specs.Rounds.{is_idle, bit_of, all_bits, awaited, value_in, one_start, take_start, one_lvt, take_lvt, take_update}
use Rattle.gateway.specs.Calls.{unless_below, by_carrier, take_by_kind, take_by_sense, take_frame, take_read, take_bytes, taken}
use Rattle.gateway.proofs.Searches.{processed-member}
use Rattle.gateway.proofs.Queues.{found-member}
use Rattle.gateway.proofs.Replies.{Good, sent-good}
use Rattle.frame.proofs.FormNumbers.{Taking, takes, refuses, taking}
use Rattle.gateway.proofs.Accepting.{Accepted, not-refused, accepted-good, cancel-kind}
use Rattle.gateway.proofs.Maintaining.{Proper, Standing, standing, fitting}
use Rattle.gateway.proofs.Takings.{queue-of, plain-stands, cancel-stands}
use Rattle.rollback.proofs.RollbackLaws.{sent-outstanding}
use Rattle.frame.proofs.Sizes.{frame_small}
use Rattle.hurfaith.proofs.FrameSizes.{messages-small, round-small}
use Rattle.hurfaith.proofs.WrittenSizes.{either-small, either-frames, settled-small, few-children, finished-small, begun-small, call-small}

module _ {g : Gateway} (p : Proper g) where
  abbrev s : Settings
  s = g.settings

  -- what some events of the queue had sent has lamps of eighteen bytes
  back-lamps : (events : List Entry) → ((e : Entry) → e ∈ events → e ∈ g.queue) → (m : Message) → m ∈ sent_back (site_of s) events → length m.lamp ≡ 18
  unfolding sent_back
  back-lamps [] h m n = absurd (Memᴰ.not-nil n)
  back-lamps (e ∷ es) h m n =
      let entry = (standing p).entries e (h e (here refl)) in
      ⊎_elim
      (back-lamps es (λ f o. h f (there o)) m)
      (λ o. (sent-good s (standing p).settings e.message (record { storable = entry.valid.message; ranged = entry.ranged.message })
      true e.before m o).ranged.lamp)
      (Memᴰ.append_cases (sent_back (site_of s) es) n)

  -- an acknowledgment, and the cancels of some events
  module _ (cancel : Bool) (m : Message) (lamp : length m.lamp ≡ 18) where
    alone-small : (places : ℕ) → length (bytes_of_frames (acknowledgment cancel m ∷ [])) ≤ 28 + 28 * places
    unfolding joined
    alone-small places = rw length-append (omega (arith, frame_small (acknowledgment cancel m) lamp))

    undone-small : (events : List Entry) → ((e : Entry) → e ∈ events → e ∈ g.queue)
        → length (bytes_of_frames (acknowledgment cancel m ∷ frames_for true (sent_back (site_of s) events))) ≤ 28 + 28 * length (rolled_back events g).outstanding
    unfolding joined rolled_back
    undone-small events h =
        let ms = sent_back (site_of s) events in
        rw (length-append, sent-outstanding true ms (with_state (restored g.state events) g))
        (omega (arith, frame_small (acknowledgment cancel m) lamp, messages-small true ms (back-lamps events h)))

  -- either of two effects, by the outstanding places afterwards
  by-places : (b : Bool) (u v : Effect) → length (bytes_of_frames u.frames) ≤ 28 + 28 * length u.gateway.outstanding
      → (b ≡ false → length (bytes_of_frames v.frames) ≤ 28 + 28 * length v.gateway.outstanding)
      → length (bytes_of_frames (cond b u v).frames) ≤ 28 + 28 * length (cond b u v).gateway.outstanding
  by-places true u v h l = h
  by-places false u v h l = l refl

  by-places-found : (b : Bool) (u v : Effect) → (b ≡ true → length (bytes_of_frames u.frames) ≤ 28 + 28 * length u.gateway.outstanding)
      → length (bytes_of_frames v.frames) ≤ 28 + 28 * length v.gateway.outstanding
      → length (bytes_of_frames (cond b u v).frames) ≤ 28 + 28 * length (cond b u v).gateway.outstanding
  by-places-found true u v h l = h refl
  by-places-found false u v h l = l

  -- an effect for which there is room takes no more than 512 outstanding places
  placed-small : (room : ℕ) (e : Effect) → Standing s e.gateway → length (bytes_of_frames e.frames) ≤ 28 + 28 * length e.gateway.outstanding
      → length (settled room g e).output ≤ 14364
  unfolding settled
  placed-small room e k h = by (fits room e) refl
    where
      by : (b : Bool) → fits room e ≡ b → length (cond b (record { number = 0; gateway = e.gateway; output = bytes_of_frames e.frames })
          (refused 5 g)).output ≤ 14364
      by true q =
          let v = valid-facts e.gateway (fitting room e k q).proper.valid in
          omega (arith, h, v.sent, v.settings.u)
      by false q = omega arith

  plain-small : (room : ℕ) (m : Message) → Good s false m → m.to ≡ s.own → quantity_of m.kind ≡ 0 → length (settled room g (take_plain m g)).output ≤ 14364
  unfolding take_plain
  plain-small room m good to-here nothing =
      let rest = from_first (is_later m) g.queue in
      let among : (e : Entry) → e ∈ rest → e ∈ g.queue = λ e n. rw (cut-first (is_later m) g.queue) at (Memᴰ.append_right (before_first
      (is_later m) g.queue) n) in
      placed-small room (take_plain m g) (plain-stands p m good to-here nothing)
      (by-places (any (is_cancel_of m) g.queue) _ _
      (alone-small false m good.ranged.lamp _)
      (λ e. undone-small false m good.ranged.lamp (processed_of rest) (λ x n. among x (processed-member rest x n))))

  cancel-small : (room : ℕ) (m : Message) → Good s true m → m.to ≡ s.own → length (settled room g (take_cancel m g)).output ≤ 14364
  unfolding take_cancel
  cancel-small room m good to-here =
      let found = from_last (is_plain m) g.queue in
      placed-small room (take_cancel m g) (cancel-stands p m good to-here)
      (by-places-found (any (is_plain m) g.queue) _ _
      (λ e. undone-small true m good.ranged.lamp (processed_of found) (λ x n. found-member m g.queue (queue-of (standing p)) e x
      (processed-member found x n)))
      (alone-small true m good.ranged.lamp _))

  acknowledgment-small : (cancel : Bool) (m : Message) → length (take_acknowledgment cancel m g).output ≤ 14364
  unfolding take_acknowledgment
  acknowledgment-small cancel m = either-small (any (is_sent cancel m) g.outstanding) _ _ (omega arith) (omega arith)

  take-start-small : (room sender : ℕ) → length (take_start room sender g).output ≤ 14364
  unfolding take_start one_start joined
  take-start-small room sender =
      let heard = from s.n s.own in
      either-small (is_idle g.round.phase && awaited sender heard g.round.arrived) _ _
      (settled-small room g (one_start (all_bits heard) (g.round.arrived + bit_of sender heard) g)
      (either-frames (eqb (g.round.arrived + bit_of sender heard) (all_bits heard)) _ _ (omega (arith, begun-small p)) (omega arith)))
      (omega arith)

  take-lvt-small : (room sender hour : ℕ) → length (take_lvt room sender hour g).output ≤ 14364
  unfolding take_lvt one_lvt joined
  take-lvt-small room sender hour =
      let told = to s.n s.own in
      let value = min (value_in g.round.phase g) hour in
      either-small (not (is_idle g.round.phase) && awaited sender told g.round.arrived) _ _
      (settled-small room g (one_lvt (all_bits told) (g.round.arrived + bit_of sender told) value g)
      (either-frames (eqb (g.round.arrived + bit_of sender told) (all_bits told)) _ _ (omega (arith, finished-small p value)) (omega arith)))
      (omega arith)

  take-update-small : (room sender hour : ℕ) → length (take_update room sender hour g).output ≤ 14364
  unfolding take_update
  take-update-small room sender hour =
      either-small (leb 1 s.own && eqb sender ((s.own - 1) / 2)) _ _
      (settled-small room g _ (omega (arith, round-small Update hour s.own (children s.n s.own), few-children p)))
      (omega arith)

  below-small : (hour : ℕ) (r : Outcome) → length r.output ≤ 14364 → length (unless_below hour g r).output ≤ 14364
  below-small hour r h = either-small (ltb hour g.agreed) _ _ (omega arith) h

  take-frame-small : (room : ℕ) (f : Frame) → Accepted s f → length (take_frame room f g).output ≤ 14364
  unfolding take_frame
  take-frame-small room f a = by-sense f.sense refl
    where
      in-sense : {sense : Sense} → f.sense ≡ sense → Accepted s (record { message = f.message; sense = sense })
      in-sense e = subst (λ (t : Sense). Accepted s (record { message = f.message; sense = t })) e a

      plain : f.sense ≡ Plain → kind_number f.message.kind ≤ 2 → length (unless_below f.message.hour g (settled room g (take_plain
          f.message g))).output ≤ 14364
      plain e k =
          let t = accepted-good s false f.message (omega (arith, k)) (in-sense e) in
          below-small f.message.hour _ (plain-small room f.message t.good t.here (no-restock f.message.kind k))

      by-kind : f.sense ≡ Plain → (kind : Kind) → f.message.kind ≡ kind → length (take_by_kind room f.message g kind).output ≤ 14364
      by-kind e (Failure origin) i = plain e (rw i (omega arith))
      by-kind e (Request origin) i = plain e (rw i (omega arith))
      by-kind e (Delivery origin) i = plain e (rw i (omega arith))
      by-kind e (Restock quantity) i = omega arith
      by-kind e Start i = take-start-small room f.message.from
      by-kind e Lvt i = below-small f.message.hour _ (take-lvt-small room f.message.from f.message.hour)
      by-kind e Update i = take-update-small room f.message.from f.message.hour

      by-sense : (sense : Sense) → f.sense ≡ sense → length (take_by_sense room f.message g sense).output ≤ 14364
      by-sense Plain e = by-kind e f.message.kind refl
      by-sense Cancel e =
          let t = accepted-good s true f.message (omega (arith, cancel-kind f.message (in-sense e).form)) (in-sense e) in
          below-small f.message.hour _ (cancel-small room f.message t.good t.here)
      by-sense Acknowledgment e = acknowledgment-small false f.message
      by-sense CancelAcknowledgment e = acknowledgment-small true f.message

  take-bytes-small : (bytes : List ℕ) → Bytes bytes → (room : ℕ) → length (take_bytes bytes room g).output ≤ 14364
  unfolding take_bytes
  take-bytes-small bytes h room = by (taking by_carrier (reading bytes))
    where
      f : Frame
      f = frame_read bytes

      number : ℕ
      number = refusal f s.n s.own s.last

      passed : reading bytes ≡ Ok f → (b : Bool) → eqb number 0 ≡ b → length (cond b (take_frame room f g) (refused number g)).output ≤ 14364
      passed good true z =
          take-frame-small room f (record {
            form = one-to-one.read_well_formed bytes h f good;
            ranged = one-to-one.read_ranged bytes h f good;
            passes = not-refused s f (eqb-true number 0 z);
          })
      passed good false z = omega arith

      by : {q : Result Frame FormError} → Taking by_carrier (reading bytes) q → length (take_read q room g).output ≤ 14364
      by (takes good kind) = passed good (eqb number 0) refl
      by (refuses reason) = omega arith

-- 28 for the acknowledgment and 28 × 512 for the cancels
pub taken-small : (memory frame output : List ℕ) → Bytes memory → Bytes frame → (taken memory frame output).answer.written ≤ 14364
unfolding taken
taken-small memory frame output bytes read = call-small memory output bytes (take_bytes frame) (λ p. take-bytes-small p frame read (length output))
