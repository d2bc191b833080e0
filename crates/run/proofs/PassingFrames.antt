-- Frames that their addressee does not turn down for their form, their numbers or their hour.
use mathlib.Core.Path.{◌≡◌, sym, ◌∙◌, ap, subst}
use mathlib.Core.Bool.{true, false}
use mathlib.Core.List.{List}
use Prim.Native.Nat.{ℕ}
use lib.Dec.{eqb}
use Rattle.model.specs.Messages.{kind_number}
use Rattle.std.specs.Prelude.{Ok}
use Rattle.frame.specs.Reasons.{reading, frame_in, frame_read, read_in}
use Rattle.frame.specs.Limits.{numbers_below, hour_allowed}
use Rattle.frame.specs.Writing.{written, well_formed}
use Rattle.frame.specs.Claims.{RangedFrame}
use Rattle.frame.specs.declared.Frame.{Frame}
use Rattle.frame.proofs.Laws.{one-to-one}
use Rattle.gateway.specs.Calls.{by_carrier}

-- of the forms, no Restock, and with its numbers and its hour in their ranges
pub record Passing (n last : ℕ) (bytes : List ℕ) : Type 0 where
  pub form : reading bytes ≡ Ok (frame_read bytes)
  pub kind : eqb (kind_number (frame_read bytes).message.kind) 3 ≡ false
  pub numbers : numbers_below n (frame_read bytes).message ≡ true
  pub hour : hour_allowed last (frame_read bytes).message ≡ true

-- the carrier's call takes it
pub passing-form : {n last : ℕ} (bytes : List ℕ) → Passing n last bytes → read_in by_carrier (reading bytes) ≡ Ok (frame_read bytes)
passing-form bytes p = rw (p.form, p.kind)

-- with equal limits
pub same-passing : {n n' last last' : ℕ} → n ≡ n' → last ≡ last' → {bytes : List ℕ} → Passing n last bytes → Passing n' last' bytes
same-passing {n' = n'} {last = last} p q {bytes} k = subst (λ (x : ℕ). Passing n' x bytes) q (subst (λ (x : ℕ). Passing x last bytes) p k)

-- a frame that is written
pub passing-frame : (n last : ℕ) (f : Frame) → RangedFrame f → well_formed f ≡ true → eqb (kind_number f.message.kind) 3 ≡ false
    → numbers_below n f.message ≡ true → hour_allowed last f.message ≡ true → Passing n last (written f)
passing-frame n last f r e k a h =
    let is : reading (written f) ≡ Ok f = one-to-one.written_read f r e in
    let same : frame_read (written f) ≡ f = ap frame_in is in
    record {
      form = is ∙ sym (ap Ok same);
      kind = ap (λ (x : Frame). eqb (kind_number x.message.kind) 3) same ∙ k;
      numbers = ap (λ (x : Frame). numbers_below n x.message) same ∙ a;
      hour = ap (λ (x : Frame). hour_allowed last x.message) same ∙ h;
    }
