-- The numbers of refusals. Document 01, "What a call turns down", and document 02's 11 and 12.
use Rattle.std.specs.Prelude.{ℕ, Option, Some, None, Result, Ok, Err}
use Rattle.refusal.specs.declared.Refusal.{Refusal}
use Rattle.refusal.specs.declared.Refusal.TheVariants.{NoFrame, WrongGateway, PastLastHour, OutOfTurn, NoRoom, NothingToDo, NotOutstanding, OutOfRange, BelowAgreedTime, NotSound, WrongLength, WrongLamp}

abbrev pub refusal_number : Refusal → ℕ
-- a frame not exactly one of the forms, or one not taken in this call
refusal_number NoFrame = 1
-- a gateway number of N or more, or addressed elsewhere
refusal_number WrongGateway = 2
-- an hour past H
refusal_number PastLastHour = 3
-- a step of the round out of turn
refusal_number OutOfTurn = 4
-- too few queue places, outstanding places or output bytes for all that the call would do
refusal_number NoRoom = 5
-- no unprocessed message; nothing to commit
refusal_number NothingToDo = 6
-- an acknowledgment equal to nothing outstanding
refusal_number NotOutstanding = 7
-- a setting, a routing number or, at set up, the length of the memory outside its range
refusal_number OutOfRange = 8
-- a plain message, a cancel or an Lvt below the gateway's agreed time
refusal_number BelowAgreedTime = 9
-- memory that is not sound
refusal_number NotSound = 10
-- a frame of fewer than two bytes, or of another length than its map gives
refusal_number WrongLength = 11
-- a lamp with a byte outside 33 to 126
refusal_number WrongLamp = 12

-- what a call answers, as the documents count it: 0 where it is accepted, else the number of its refusal
abbrev pub number_in : {A : Type 0} → Result A Refusal → ℕ
number_in (Ok x) = 0
number_in (Err why) = refusal_number why

-- the same of a call that has a refusal or none
abbrev pub number_if : Option Refusal → ℕ
number_if None = 0
number_if (Some why) = refusal_number why
