-- What a frame that is accepted at a gateway was, and what it came to.
use mathlib.Core.Path.{◌≡◌, refl, sym, ◌∙◌, ap, subst}
use Prim.Native.Nat.{ℕ, ◌≤◌}
use native.Mathlib.Omega.{arith}
use mathlib.Core.Bool.{Bool, true, false, cond}
use mathlib.Core.List.{List, []}
use lib.Dec.{ltb, eqb}
use borrow.Author.Tests.{ltb-false, eqb-true, eqb-false}
use Rattle.lists.specs.Lists.{any, without_first}
use Rattle.model.specs.Messages.{kind_number}
use Rattle.model.specs.declared.Kind.{Kind}
use Rattle.model.specs.declared.Kind.TheVariants.{Failure, Request, Delivery, Restock, Start, Lvt, Update}
use Rattle.std.specs.Prelude.{Result, Ok}
use Rattle.frame.specs.Reasons.{reading, frame_read, read_in}
use Rattle.frame.specs.declared.forms.FormError.{FormError}
use Rattle.frame.specs.Limits.{refusal}
use Rattle.frame.specs.declared.Frame.{Frame}
use Rattle.frame.specs.declared.Sense.{Sense}
use Rattle.frame.specs.declared.Sense.TheVariants.{Plain, Cancel, Acknowledgment, CancelAcknowledgment}
use Rattle.memory.specs.Records.{Gateway}
use Rattle.frame.proofs.FormNumbers.{number-some, Taking, takes, refuses, taking}
use Rattle.gateway.specs.Effects.{Effect, Outcome, bytes_of_frames, fits, settled, with_outstanding}
use Rattle.gateway.specs.Taking.{is_sent, take_plain, take_cancel, take_acknowledgment}
use Rattle.gateway.specs.Rounds.{take_start, take_lvt, take_update}
use Rattle.gateway.specs.Calls.{unless_below, by_carrier, take_by_kind, take_by_sense, take_frame, take_bytes}
use Rattle.run.proofs.EventsUnderWay.{IsEvent}

-- an effect for which there is room
abbrev pub outcome_of : Effect → Outcome
outcome_of e = record { number = 0; gateway = e.gateway; output = bytes_of_frames e.frames }

-- the sense of an acknowledgment
abbrev pub acknowledgment_sense : Bool → Sense
acknowledgment_sense b = cond b CancelAcknowledgment Acknowledgment

-- how a frame was accepted
pub data Accepted (room : ℕ) (f : Frame) (g : Gateway) : Outcome → Type 0 where
  plain-taken : f.sense ≡ Plain → IsEvent f.message → kind_number f.message.kind ≤ 2 → g.agreed ≤ f.message.hour → fits room
      (take_plain f.message g) ≡ true
      → Accepted room f g (outcome_of (take_plain f.message g))
  cancel-taken : f.sense ≡ Cancel → g.agreed ≤ f.message.hour → fits room (take_cancel f.message g) ≡ true
      → Accepted room f g (outcome_of (take_cancel f.message g))
  acknowledgment-taken : (b : Bool) → f.sense ≡ acknowledgment_sense b → any (is_sent b f.message) g.outstanding ≡ true
      → Accepted room f g (record { number = 0; gateway = with_outstanding (without_first (is_sent b f.message) g.outstanding) g; output = [] })
  start-taken : f.sense ≡ Plain → f.message.kind ≡ Start → (take_start room f.message.from g).number ≡ 0
      → Accepted room f g (take_start room f.message.from g)
  lvt-taken : f.sense ≡ Plain → f.message.kind ≡ Lvt → g.agreed ≤ f.message.hour → (take_lvt room f.message.from f.message.hour g).number ≡ 0
      → Accepted room f g (take_lvt room f.message.from f.message.hour g)
  update-taken : f.sense ≡ Plain → f.message.kind ≡ Update → (take_update room f.message.from f.message.hour g).number ≡ 0
      → Accepted room f g (take_update room f.message.from f.message.hour g)

-- an effect that is settled
pub record Settles (room : ℕ) (g : Gateway) (e : Effect) : Type 0 where
  pub room-enough : fits room e ≡ true
  pub comes-to : settled room g e ≡ outcome_of e

pub settles : (room : ℕ) (g : Gateway) (e : Effect) → (settled room g e).number ≡ 0 → Settles room g e
unfolding settled
settles room g e h = by-case (fits room e) refl
  where
    by-case : (t : Bool) → fits room e ≡ t → Settles room g e
    by-case true p = record { room-enough = p; comes-to = rw p }
    by-case false p = absurd (omega (arith, rw p at h))

-- an hour that is not below the agreed time
pub record NotBelow (hour : ℕ) (g : Gateway) (r : Outcome) : Type 0 where
  pub in-time : g.agreed ≤ hour
  pub comes-to : unless_below hour g r ≡ r

pub not-below : (hour : ℕ) (g : Gateway) (r : Outcome) → (unless_below hour g r).number ≡ 0 → NotBelow hour g r
not-below hour g r h = by-case (ltb hour g.agreed) refl
  where
    by-case : (t : Bool) → ltb hour g.agreed ≡ t → NotBelow hour g r
    by-case true p = absurd (omega (arith, rw p at h))
    by-case false p = record { in-time = ltb-false hour g.agreed p; comes-to = rw p }

module _ (room : ℕ) (f : Frame) (g : Gateway) where
  plain-accepted : f.sense ≡ Plain → IsEvent f.message → kind_number f.message.kind ≤ 2 → (unless_below f.message.hour g (settled
      room g (take_plain f.message g))).number ≡ 0
      → Accepted room f g (unless_below f.message.hour g (settled room g (take_plain f.message g)))
  plain-accepted s k few h =
      let b = not-below f.message.hour g (settled room g (take_plain f.message g)) h in
      let e = settles room g (take_plain f.message g) (ap (λ (r : Outcome). r.number) (sym b.comes-to) ∙ h) in
      subst (Accepted room f g) (sym (b.comes-to ∙ e.comes-to)) (plain-taken s k few b.in-time e.room-enough)

  cancel-accepted : f.sense ≡ Cancel → (unless_below f.message.hour g (settled room g (take_cancel f.message g))).number ≡ 0
      → Accepted room f g (unless_below f.message.hour g (settled room g (take_cancel f.message g)))
  cancel-accepted s h =
      let b = not-below f.message.hour g (settled room g (take_cancel f.message g)) h in
      let e = settles room g (take_cancel f.message g) (ap (λ (r : Outcome). r.number) (sym b.comes-to) ∙ h) in
      subst (Accepted room f g) (sym (b.comes-to ∙ e.comes-to)) (cancel-taken s b.in-time e.room-enough)

  acknowledgment-accepted : (b : Bool) → f.sense ≡ acknowledgment_sense b → (take_acknowledgment b f.message g).number ≡ 0 → Accepted room
      f g (take_acknowledgment b f.message g)
  unfolding take_acknowledgment
  acknowledgment-accepted b s h = by-case (any (is_sent b f.message) g.outstanding) refl
    where
      by-case : (t : Bool) → any (is_sent b f.message) g.outstanding ≡ t → Accepted room f g (take_acknowledgment b f.message g)
      by-case true p = rw p (acknowledgment-taken b s p)
      by-case false p = absurd (omega (arith, rw p at h))

  by-kind : f.sense ≡ Plain → (k : Kind) → f.message.kind ≡ k → (take_by_kind room f.message g k).number ≡ 0 → Accepted room f g
      (take_by_kind room f.message g k)
  by-kind s (Failure origin) e h = plain-accepted s (rw e) (omega (arith, ap kind_number e)) h
  by-kind s (Request origin) e h = plain-accepted s (rw e) (omega (arith, ap kind_number e)) h
  by-kind s (Delivery origin) e h = plain-accepted s (rw e) (omega (arith, ap kind_number e)) h
  by-kind s (Restock quantity) e h = absurd (omega (arith, h))
  by-kind s Start e h = start-taken s e h
  by-kind s Lvt e h =
      let b = not-below f.message.hour g (take_lvt room f.message.from f.message.hour g) h in
      subst (Accepted room f g) (sym b.comes-to) (lvt-taken s e b.in-time (ap (λ (r : Outcome). r.number) (sym b.comes-to) ∙ h))
  by-kind s Update e h = update-taken s e h

  by-sense : (s : Sense) → f.sense ≡ s → (take_by_sense room f.message g s).number ≡ 0 → Accepted room f g (take_by_sense room f.message g s)
  by-sense Plain e h = by-kind e f.message.kind refl h
  by-sense Cancel e h = cancel-accepted e h
  by-sense Acknowledgment e h = acknowledgment-accepted false e h
  by-sense CancelAcknowledgment e h = acknowledgment-accepted true e h

  pub frame-accepted : (take_frame room f g).number ≡ 0 → Accepted room f g (take_frame room f g)
  unfolding take_frame
  frame-accepted h = by-sense f.sense refl h

-- a byte string that is accepted is a frame, passes 2 and 3, and is accepted as such
pub record BytesAccepted (bytes : List ℕ) (room : ℕ) (g : Gateway) : Type 0 where
  pub good : reading bytes ≡ Ok (frame_read bytes)
  pub passes : refusal (frame_read bytes) g.settings.n g.settings.own g.settings.last ≡ 0
  pub comes-to : take_bytes bytes room g ≡ take_frame room (frame_read bytes) g
  pub taken : Accepted room (frame_read bytes) g (take_frame room (frame_read bytes) g)

pub bytes-accepted : (bytes : List ℕ) (room : ℕ) (g : Gateway) → (take_bytes bytes room g).number ≡ 0 → BytesAccepted bytes room g
unfolding take_bytes
bytes-accepted bytes room g h = by (taking by_carrier (reading bytes)) refl
  where
    f : Frame
    f = frame_read bytes

    number : ℕ
    number = refusal f g.settings.n g.settings.own g.settings.last

    by_number : reading bytes ≡ Ok f → Ok f ≡ read_in by_carrier (reading bytes) → (t : Bool) → eqb number 0 ≡ t → BytesAccepted bytes room g
    by_number good e true q =
        let same : take_bytes bytes room g ≡ take_frame room f g = rw (← e, q) in
        record {
          good = good;
          passes = eqb-true number 0 q;
          comes-to = same;
          taken = frame-accepted room f g (ap (λ (r : Outcome). r.number) (sym same) ∙ h);
        }
    by_number good e false q = absurd (eqb-false number 0 q (rw (← e, q) at h))

    by : {x : Result Frame FormError} → Taking by_carrier (reading bytes) x → x ≡ read_in by_carrier (reading bytes) → BytesAccepted bytes room g
    by (takes good kind) e = by_number good e (eqb number 0) refl
    by (refuses reason) e = absurd (number-some reason (rw (← e) at h))
