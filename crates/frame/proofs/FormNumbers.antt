-- Laws of the reasons for which a byte string is refused, and of their numbers.
use mathlib.Core.Path.{◌≡◌, refl, sym, ◌∙◌, ap}
use Prim.Native.Nat.{ℕ, ◌<◌}
use native.Mathlib.Omega.{arith}
use mathlib.Core.Bool.{Bool, true, false, not, ◌&&◌, false≢true}
use mathlib.Core.List.{List}
use lib.Dec.{eqb}
use borrow.Author.Tests.{eq-eqb}
use Rattle.std.specs.Prelude.{Result, Ok, Err, is_ok}
use Rattle.std.specs.Result.{result_unwrap_or}
use Rattle.frame.specs.Writing.{unless}
use Rattle.frame.specs.Reasons.{reading, blank_frame, frame_in, frame_read, read_in, read_number, refusal_in, form_number, form_refusal}
use Rattle.frame.specs.declared.forms.FormError.{FormError}
use Rattle.frame.specs.declared.forms.FormError.TheVariants.{TooShort, WrongMap, WrongLength, WrongSense, WrongLamp, WrongGateways, NotTaken}
use Rattle.frame.specs.declared.Frame.{Frame}

-- what was read is a frame just where its number is 0
pub ok-number : (r : Result Frame FormError) → is_ok r ≡ eqb (read_number r) 0
ok-number (Ok f) = refl
ok-number (Err TooShort) = refl
ok-number (Err WrongMap) = refl
ok-number (Err WrongLength) = refl
ok-number (Err WrongSense) = refl
ok-number (Err WrongLamp) = refl
ok-number (Err WrongGateways) = refl
ok-number (Err NotTaken) = refl

pub ok-read : (r : Result Frame FormError) → is_ok r ≡ true → r ≡ Ok (frame_in r)
ok-read (Ok f) e = refl
ok-read (Err reason) e = absurd (false≢true e)

-- a byte string that is not refused for its form is a frame
pub read-frame : (s : List ℕ) → form_refusal s ≡ 0 → reading s ≡ Ok (frame_read s)
read-frame s e = ok-read (reading s) (ok-number (reading s) ∙ eq-eqb (form_refusal s) 0 e)

-- a blank frame stands for a reason
pub unwrapped : (r : Result Frame FormError) → result_unwrap_or r blank_frame ≡ frame_in r
unwrapped (Ok f) = refl
unwrapped (Err reason) = refl

-- each reason has a number
pub number-some : (reason : FormError) → form_number reason ≡ 0 → ⊥
number-some TooShort e = omega arith
number-some WrongMap e = omega arith
number-some WrongLength e = omega arith
number-some WrongSense e = omega arith
number-some WrongLamp e = omega arith
number-some WrongGateways e = omega arith
number-some NotTaken e = omega arith

-- no reason has the number of unsound memory
pub number-sound : (reason : FormError) → form_number reason ≡ 10 → ⊥
number-sound TooShort e = omega arith
number-sound WrongMap e = omega arith
number-sound WrongLength e = omega arith
number-sound WrongSense e = omega arith
number-sound WrongLamp e = omega arith
number-sound WrongGateways e = omega arith
number-sound NotTaken e = omega arith

pub read-sound : (r : Result Frame FormError) → read_number r ≡ 10 → ⊥
read-sound (Ok f) e = omega arith
read-sound (Err reason) e = number-sound reason e

-- and each number fits a byte
pub number_small : (reason : FormError) → form_number reason < 256
number_small TooShort = omega arith
number_small WrongMap = omega arith
number_small WrongLength = omega arith
number_small WrongSense = omega arith
number_small WrongLamp = omega arith
number_small WrongGateways = omega arith
number_small NotTaken = omega arith

pub read-small : (r : Result Frame FormError) → read_number r < 256
read-small (Ok f) = omega arith
read-small (Err reason) = number_small reason

-- what is refused for its form keeps its number, whatever a call takes
pub form-kept : (taken : Frame → Bool) (r : Result Frame FormError) {number : ℕ} → not (is_ok r) ≡ true → number ≡ read_number r
    → number ≡ read_number (read_in taken r)
form-kept taken (Ok f) h n = absurd (false≢true h)
form-kept taken (Err reason) h n = n

-- what was read passes a call just where it is a frame and taken there
pub ok-passes : (taken : Frame → Bool) (r : Result Frame FormError) → is_ok (read_in taken r) ≡ (is_ok r && taken (frame_in r))
ok-passes taken (Ok f) = by (taken f)
  where
    by : (b : Bool) → is_ok (unless b (Err NotTaken) (Ok f)) ≡ b
    by true = refl
    by false = refl
ok-passes taken (Err reason) = refl

-- and so by its number
pub number-passes : (taken : Frame → Bool) (r : Result Frame FormError) → eqb (read_number (read_in taken r)) 0 ≡ (is_ok r && taken (frame_in r))
number-passes taken r = sym (ok-number (read_in taken r)) ∙ ok-passes taken r

both : (a b : Bool) → (a && b) ≡ true → (a ≡ true) × (b ≡ true)
both true b h = (refl, h)
both false b h = absurd (false≢true h)

-- what a call takes is a frame, and of those that it takes
pub ok-passed : (taken : Frame → Bool) (r : Result Frame FormError) → is_ok (read_in taken r) ≡ true → (r ≡ Ok (frame_in r)) × (taken (frame_in r) ≡ true)
ok-passed taken r h = let (good, right) = both _ _ (sym (ok-passes taken r) ∙ h) in (ok-read r good, right)

pub form-passed : (taken : Frame → Bool) (r : Result Frame FormError) → eqb (read_number (read_in taken r)) 0 ≡ true
    → (r ≡ Ok (frame_in r)) × (taken (frame_in r) ≡ true)
form-passed taken r h = ok-passed taken r (ok-number (read_in taken r) ∙ h)

-- what a call makes of what was read: it takes the frame, or refuses for a reason
pub data Taking (taken : Frame → Bool) (r : Result Frame FormError) : Result Frame FormError → Type 0 where
  takes : r ≡ Ok (frame_in r) → taken (frame_in r) ≡ true → Taking taken r (Ok (frame_in r))
  refuses : (reason : FormError) → Taking taken r (Err reason)

pub taking : (taken : Frame → Bool) (r : Result Frame FormError) → Taking taken r (read_in taken r)
taking taken (Ok f) = by (taken f) refl
  where
    by : (b : Bool) → taken f ≡ b → Taking taken (Ok f) (unless b (Err NotTaken) (Ok f))
    by true e = takes refl e
    by false e = refuses NotTaken
taking taken (Err reason) = refuses reason

-- the frame that it takes is the one that was read
pub taken-read : (taken : Frame → Bool) (r : Result Frame FormError) {f : Frame} → read_in taken r ≡ Ok f → r ≡ Ok f
taken-read taken r {f} = by (taking taken r)
  where
    by : {q : Result Frame FormError} → Taking taken r q → q ≡ Ok f → r ≡ Ok f
    by (takes e t) p = e ∙ p
    by (refuses reason) p = absurd (false≢true (ap is_ok p))

-- what passes such a call and has no number is a frame that is taken and not refused
pub refusal-passed : (taken : Frame → Bool) (refusal : Frame → ℕ) (r : Result Frame FormError) → refusal_in refusal (read_in taken r) ≡ 0
    → (r ≡ Ok (frame_in r)) × (taken (frame_in r) ≡ true) × (refusal (frame_in r) ≡ 0)
refusal-passed taken refusal r = by (taking taken r)
  where
    by : {q : Result Frame FormError} → Taking taken r q → refusal_in refusal q ≡ 0 → (r ≡ Ok (frame_in r)) × (taken (frame_in r) ≡ true) × (refusal (frame_in r) ≡ 0)
    by (takes e t) h = (e, t, h)
    by (refuses reason) h = absurd (number-some reason h)
