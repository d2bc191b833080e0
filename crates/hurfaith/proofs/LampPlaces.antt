-- The packed answer of reading the lamp: its number and the place of the part are read back.
use mathlib.Core.Path.{◌≡◌, sym, ◌∙◌, ap}
use mathlib.Core.List.{List}
use Prim.Native.Nat.{ℕ, ◌+◌, ◌/◌}
use native.Mathlib.Omega.{arith}
use denote.Ref.{Bor}
use Rattle.frame.specs.Reasons.{reading}
use Rattle.frame.specs.Lamps.{lamp_place, lamp_form, lamp_start, lamp_refusal}
use Rattle.frame.proofs.FormNumbers.{read-small}
use Rattle.frame.proofs.Accepted.{lamp-carried, lamp-not-carried}
use Rattle.packing.specs.Packed.{packed}
use Rattle.hurfaith.specs.Exported.{LampAnswer}

module _ (frame : Bor (List ℕ)) {number answer : ℕ} (n : number ≡ lamp_refusal frame.now) where
  -- the place is where the part starts
  answered : (place : ℕ) → answer ≡ packed number place 0 → lamp_start (reading frame.now) ≡ place → LampAnswer frame answer
  unfolding packed
  answered place e s =
      let small = read-small (lamp_form (reading frame.now)) in
      let above : answer / 256 ≡ lamp_start (reading frame.now) = omega arith in
      record {
        equal = e ∙ ap (λ (x : ℕ). packed x place 0) n ∙ ap (λ (x : ℕ). packed (lamp_refusal frame.now) x 0) (sym s);
        number = omega arith;
        place = λ p is. is.place ∙ ap (λ (x : ℕ). (frame.ref_ptr.0, x + frame.ref_ptr.1)) (sym above);
      }

  pub lamp-answered : number ≡ 0 → answer ≡ packed number 9 0 → LampAnswer frame answer
  unfolding lamp_place
  lamp-answered h e = answered 9 e (rw (lamp-carried frame.now (sym n ∙ h)))

  pub lamp-refused : (number ≡ 0 → ⊥) → answer ≡ packed number 0 0 → LampAnswer frame answer
  lamp-refused h e = answered 0 e (rw (lamp-not-carried frame.now (λ z. h (n ∙ z))))
