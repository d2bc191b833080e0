-- A law for each branch of the call take: refusals in their order, then what each sense and kind of frame comes to.
use mathlib.Core.Path.{◌≡◌, refl, sym, ◌∙◌}
use mathlib.Core.Bool.{true, false, cond}
use mathlib.Core.List.{List}
use Rattle.std.specs.Prelude.{Result, Ok, Err}
use Rattle.refusal.specs.Numbers.{refusal_number}
use Rattle.refusal.proofs.Numbers.{refusal-some}
use Rattle.refusal.specs.declared.Refusal.{Refusal}
use Rattle.refusal.specs.declared.Refusal.TheVariants.{BelowAgreedTime}
use Prim.Native.Nat.{ℕ, ◌≤◌, ◌<◌}
use lib.Dec.{eqb}
use lib.ListN.{length}
use borrow.Author.Tests.{ne_eqb, lt-ltb, le-ltb}
use Rattle.buffer.specs.Slice.{Bytes}
use Rattle.frame.specs.Writing.{well_formed}
use Rattle.frame.specs.Reasons.{reading, form_number, read_in}
use Rattle.frame.specs.declared.Frame.{Frame}
use Rattle.frame.specs.declared.forms.FormError.{FormError}
use Rattle.frame.specs.declared.Sense.TheVariants.{Plain, Cancel, Acknowledgment, CancelAcknowledgment}
use Rattle.frame.proofs.FormNumbers.{taken-read}
use Rattle.frame.proofs.Laws.{one-to-one}
use Rattle.memory.specs.Codec.{decode}
use Rattle.memory.specs.Inside.Fits.{MessageFits}
use Rattle.memory.specs.Records.{Gateway}
use Rattle.memory.specs.declared.Header.{Header}
use Rattle.gateway.specs.Effects.{Outcome, refused, settled}
use Rattle.gateway.specs.Taking.{take_cancel, take_acknowledgment}
use Rattle.gateway.specs.Calls.{CallResult, left, leaving, unless_below, by_carrier, take_by_kind, take_for, take_frame, take_bytes, taken, on_sound}
use Rattle.gateway.specs.Inside.Premises.{Known}
use Rattle.gateway.specs.Answers.{Answer, answer_of}
use Rattle.gateway.proofs.ReadMessages.{ranged-fits}
use Rattle.gateway.proofs.Knowing.{agreed-is, settings-are}

-- no refusal has the number 0
pub refusal-numbered : (why : Refusal) → eqb (refusal_number why) 0 ≡ false
refusal-numbered why = ne_eqb (refusal_number why) 0 (refusal-some why)

-- what a refusal leaves
pub leaves-refused : (m output : List ℕ) (g : Gateway) (why : Refusal) → left (answer_of (Err why)) m output ≡ leaving (refused (refusal_number why) g) m output
unfolding leaving
leaves-refused m output g why = rw (refusal-numbered why)

-- below the agreed time, or not
module _ (m output : List ℕ) (h : Header) (k : Known m h) (hour : ℕ) (x : Outcome) where
  pub below : hour < h.agreed → left (answer_of (Err BelowAgreedTime)) m output ≡ leaving (unless_below hour (decode m) x) m output
  below l = leaves-refused m output (decode m) BelowAgreedTime ∙ rw (lt-ltb hour (decode m).agreed (rw (sym (agreed-is m h k)) l))

  pub not-below : h.agreed ≤ hour → {l : CallResult Answer} → l ≡ leaving x m output → l ≡ leaving (unless_below hour (decode m) x) m output
  not-below l p = p ∙ rw (le-ltb hour (decode m).agreed (rw (sym (agreed-is m h k)) l))

-- a frame by its sense
module _ (m output : List ℕ) (room : ℕ) (f : Frame) (g : Gateway) {l : CallResult Answer} where
  pub sense-plain : f.sense ≡ Plain → l ≡ leaving (take_by_kind room f.message g f.message.kind) m output → l ≡ leaving (take_frame room f g) m output
  unfolding take_frame
  sense-plain e p = p ∙ rw e

  pub sense-cancel : f.sense ≡ Cancel → l ≡ leaving (unless_below f.message.hour g (settled room g (take_cancel f.message g))) m
      output → l ≡ leaving (take_frame room f g) m output
  unfolding take_frame
  sense-cancel e p = p ∙ rw e

-- an acknowledgment leaves the output alone
module _ (m after output : List ℕ) (room : ℕ) (f : Frame) (g : Gateway) (r : Result ℕ Refusal) where
  pub sense-acknowledgment : f.sense ≡ Acknowledgment → ((out : List ℕ) → left (answer_of r) after out ≡ leaving
      (take_acknowledgment false f.message g) m out)
      → left (answer_of r) after output ≡ leaving (take_frame room f g) m output
  unfolding take_frame
  sense-acknowledgment e p = p output ∙ rw e

  pub sense-cancel-acknowledgment : f.sense ≡ CancelAcknowledgment → ((out : List ℕ) → left (answer_of r) after out
      ≡ leaving (take_acknowledgment true f.message g) m out)
      → left (answer_of r) after output ≡ leaving (take_frame room f g) m output
  unfolding take_frame
  sense-cancel-acknowledgment e p = p output ∙ rw e

-- the number of the checks before
module _ (m output : List ℕ) (x : Outcome) (g : Gateway) {wanted : ℕ} where
  pub number-refused : (why : Refusal) → refusal_number why ≡ wanted → left (answer_of (Err why)) m output
      ≡ leaving (cond (eqb wanted 0) x (refused wanted g)) m output
  number-refused why e = leaves-refused m output g why ∙ rw (← e, refusal-numbered why)

  pub number_passed : 0 ≡ wanted → {l : CallResult Answer} → l ≡ leaving x m output → l ≡ leaving (cond (eqb wanted 0) x (refused wanted g)) m output
  number_passed e p = p ∙ rw (← e)

-- a byte string by what was read in this call
module _ (m bytes output : List ℕ) (h : Header) (k : Known m h) where
  pub form-refused : {reason : FormError} → Err reason ≡ read_in by_carrier (reading bytes) → (why : Refusal) → refusal_number why ≡ form_number reason
      → left (answer_of (Err why)) m output ≡ leaving (take_bytes bytes (length output) (decode m)) m output
  unfolding take_bytes
  form-refused e why u = leaves-refused m output (decode m) why ∙ rw (← e, u)

  pub form-taken : {f : Frame} → Ok f ≡ read_in by_carrier (reading bytes) → {l : CallResult Answer}
      → l ≡ leaving (take_for h.settings f (length output) (decode m)) m output → l ≡ leaving (take_bytes bytes (length output) (decode m)) m output
  unfolding take_bytes
  form-taken e p = p ∙ rw (← e, settings-are m h k)

-- take is such a call
pub take-call : (m bytes output : List ℕ) → on_sound (take_bytes bytes) m output ≡ taken m bytes output
unfolding taken
take-call m bytes output = refl

-- the message of a frame that this call takes fits its fields, and the frame is well formed
module _ (bytes : List ℕ) (b : Bytes bytes) {f : Frame} (e : Ok f ≡ read_in by_carrier (reading bytes)) where
  is-read : reading bytes ≡ Ok f
  is-read = taken-read by_carrier (reading bytes) (sym e)

  pub read_fits : MessageFits f.message
  read_fits = ranged-fits f (one-to-one.read_ranged bytes b f is-read)

  pub read-formed : well_formed f ≡ true
  read-formed = one-to-one.read_well_formed bytes b f is-read
