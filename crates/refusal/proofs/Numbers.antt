-- Laws of the numbers of refusals.
use mathlib.Core.Path.{◌≡◌, refl, sym}
use mathlib.Core.Bool.{true, false}
use Prim.Native.Nat.{ℕ, ◌<◌}
use native.Mathlib.Omega.{arith}
use lib.Dec.{eqb}
use borrow.Author.Tests.{ne_eqb}
use Rattle.std.specs.Prelude.{Result, Ok, Err, is_ok}
use Rattle.refusal.specs.Numbers.{refusal_number, number_in}
use Rattle.refusal.specs.declared.Refusal.{Refusal}
use Rattle.refusal.specs.declared.Refusal.TheVariants.{NoFrame, WrongGateway, PastLastHour, OutOfTurn, NoRoom, NothingToDo, NotOutstanding, OutOfRange, BelowAgreedTime, NotSound, WrongLength, WrongLamp}

-- the numbers are 1 to 12
pub refusal-some : (why : Refusal) → refusal_number why ≡ 0 → ⊥
refusal-some NoFrame e = omega arith
refusal-some WrongGateway e = omega arith
refusal-some PastLastHour e = omega arith
refusal-some OutOfTurn e = omega arith
refusal-some NoRoom e = omega arith
refusal-some NothingToDo e = omega arith
refusal-some NotOutstanding e = omega arith
refusal-some OutOfRange e = omega arith
refusal-some BelowAgreedTime e = omega arith
refusal-some NotSound e = omega arith
refusal-some WrongLength e = omega arith
refusal-some WrongLamp e = omega arith

pub refusal-most : (why : Refusal) → refusal_number why < 13
refusal-most NoFrame = omega arith
refusal-most WrongGateway = omega arith
refusal-most PastLastHour = omega arith
refusal-most OutOfTurn = omega arith
refusal-most NoRoom = omega arith
refusal-most NothingToDo = omega arith
refusal-most NotOutstanding = omega arith
refusal-most OutOfRange = omega arith
refusal-most BelowAgreedTime = omega arith
refusal-most NotSound = omega arith
refusal-most WrongLength = omega arith
refusal-most WrongLamp = omega arith

-- a call is accepted just where its number is 0
pub number-ok : {A : Type 0} (r : Result A Refusal) → is_ok r ≡ eqb (number_in r) 0
number-ok (Ok x) = refl
number-ok (Err why) = sym (ne_eqb (refusal_number why) 0 (refusal-some why))
