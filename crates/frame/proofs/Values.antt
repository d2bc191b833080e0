-- What a value is refused with, by the tests that it passes.
use mathlib.Core.Path.{◌≡◌, refl, sym, ◌∙◌}
use Prim.Native.Nat.{ℕ}
use mathlib.Core.Bool.{Bool, true, false, cond, not, ◌&&◌}
use lib.Dec.{eqb}
use borrow.Author.Tests.{leb-true}
use Rattle.model.specs.Messages.{kind_number}
use Rattle.frame.specs.Kinds.{has_lamp, sense_number}
use Rattle.frame.specs.Writing.{all_between, lamp_fits, gateways_agree, sense_allowed, hour_fits, well_formed, unless, value_refusal}
use Rattle.frame.specs.Claims.{ValueNumbers}
use Rattle.frame.specs.declared.Frame.{Frame}
use Rattle.frame.proofs.Presence.{lamp-kinds, lamp-fields}

-- the number by five tests: the header, that there is a lamp, its bytes with it and without, and the gateways
abbrev number : (header there some none agree : Bool) → ℕ
number header there some none agree = unless (header && cond there true none) 1 (unless (cond there some none) 12 (unless agree 1 0))

number-formed : (header there some none agree : Bool) → (header && cond there some none && agree) ≡ eqb (number header there some none agree) 0
number-formed false there some none agree = refl
number-formed true true false none agree = refl
number-formed true true true none true = refl
number-formed true true true none false = refl
number-formed true false some false agree = refl
number-formed true false some true true = refl
number-formed true false some true false = refl

-- with a lamp no sense and no hour is refused
number-lamp : (header there some none agree : Bool) → (there ≡ true → header ≡ true) → eqb (number header there some none agree) 12 ≡ (there && not some)
number-lamp header true some none agree h = rw (h refl) (by some agree)
  where
    by : (some agree : Bool) → eqb (unless some 12 (unless agree 1 0)) 12 ≡ not some
    by true true = refl
    by true false = refl
    by false agree = refl
number-lamp true false some true true h = refl
number-lamp true false some true false h = refl
number-lamp true false some false agree h = refl
number-lamp false false some none agree h = refl

number-few : (header there some none agree : Bool) → (number header there some none agree ≡ 0 → ⊥) → (number header there some none agree ≡ 12 → ⊥)
    → number header there some none agree ≡ 1
number-few false there some none agree h k = refl
number-few true true false none agree h k = absurd (k refl)
number-few true true true none true h k = absurd (h refl)
number-few true true true none false h k = refl
number-few true false some false agree h k = refl
number-few true false some true true h k = absurd (h refl)
number-few true false some true false h k = refl

-- a kind with a lamp has an hour, and may have a sense
lamp-header : (kind hour sense : ℕ) → has_lamp kind ≡ true → (sense_allowed kind sense && hour_fits kind hour) ≡ true
lamp-header kind hour sense e = rw (e, (lamp-fields kind (leb-true kind 2 (sym (lamp-kinds kind) ∙ e))).hour)

module _ (f : Frame) where
  abbrev kind : ℕ
  kind = kind_number f.message.kind

  -- a law of the number, of what these tests find
  abbrev of-value : {P : (header there some none agree : Bool) → Type 0} → ((header there some none agree : Bool) → P header there some none agree)
      → P (sense_allowed kind (sense_number f.sense) && hour_fits kind f.message.hour) (has_lamp kind) (all_between 33 126 f.message.lamp)
      (all_between 0 0 f.message.lamp) (gateways_agree f.message.from f.message.to f.message.kind)
  of-value law = law _ _ _ _ _

  value-formed : well_formed f ≡ eqb (value_refusal f) 0
  unfolding well_formed value_refusal lamp_fits
  value-formed = of-value number-formed

  value-lamp : eqb (value_refusal f) 12 ≡ (has_lamp kind && not (all_between 33 126 f.message.lamp))
  unfolding value_refusal lamp_fits
  value-lamp = of-value number-lamp (lamp-header kind f.message.hour (sense_number f.sense))

  -- a value that is refused, and not for its lamp, is refused with 1
  pub refused-with-1 : (value_refusal f ≡ 0 → ⊥) → (value_refusal f ≡ 12 → ⊥) → value_refusal f ≡ 1
  unfolding value_refusal lamp_fits
  refused-with-1 = of-value number-few

pub value-numbers : ValueNumbers
value-numbers = record { formed = value-formed; lamp = value-lamp }
