-- The numbers of the enumerations, as a cast gives them.
use mathlib.Core.Path.{◌≡◌, refl}
use mathlib.Core.Bool.{Bool, true, false}
use denote.Enum.Declared
use Rattle.std.specs.Int.{from_bool}
use Rattle.memory.specs.Codec.{mark_number, phase_number, cancel_number}
use Rattle.memory.specs.declared.Mark.{Mark}
use Rattle.memory.specs.declared.Mark.TheVariants.{Pending, Processed, Waiting}
use Rattle.memory.specs.declared.Phase.{Phase}
use Rattle.memory.specs.declared.Phase.TheVariants.{Idle, Counting, Stopped}
use Rattle.memory.specs.contracts.Mark.{the_type as mark-type}
use Rattle.memory.specs.contracts.Phase.{the_type as phase-type}

pub mark-tag : (mark : Mark) → Declared.tag_of mark-type mark ≡ mark_number mark
mark-tag Pending = refl
mark-tag Processed = refl
mark-tag Waiting = refl

pub phase-tag : (phase : Phase) → Declared.tag_of phase-type phase ≡ phase_number phase
phase-tag Idle = refl
phase-tag Counting = refl
phase-tag Stopped = refl

pub cancel-byte : (cancel : Bool) → from_bool cancel ≡ cancel_number cancel
cancel-byte true = refl
cancel-byte false = refl
