-- Examples of writing a frame, as one table: its number, how many bytes are written and the output afterwards; and of reading what stands
-- at the ends of a lamp's bytes.
use Rattle.std.specs.Prelude.{◌≡◌, ℕ, ◌-◌, Ok, List, [], ◌∷◌, ◌++◌, length, take, replicate}
use Rattle.model.specs.declared.Kind.{Kind}
use Rattle.model.specs.declared.Kind.TheVariants.{Failure, Request, Restock, Start, Update}
use Rattle.frame.specs.Layout.{lamp_width}
use Rattle.frame.specs.Writing.{not_written, writing}
use Rattle.frame.specs.Reasons.{form_refusal, reading}
use Rattle.frame.specs.declared.Sense.{Sense}
use Rattle.frame.specs.declared.Sense.TheVariants.{Plain, Cancel}
use Rattle.frame.specs.declared.Frame.{Frame}

-- a lamp by its first and its last character, and what stands for the lamp of a kind that has none
abbrev lamp : ℕ → ℕ → List ℕ
lamp first last = first ∷ (replicate 16 48 ++ (last ∷ []))

abbrev none : List ℕ
none = replicate lamp_width 0

-- a message with its sense
abbrev value : Kind → (from to hour : ℕ) → List ℕ → Sense → Frame
value kind from to hour lamp sense = record { message = record { hour = hour; from = from; to = to; kind = kind; lamp = lamp }; sense = sense }

-- a Failure of gateway 0 at hour 7, and its bytes
abbrev failure : List ℕ → Frame
failure lamp = value (Failure 0) 0 0 7 lamp Plain

abbrev failure_bytes : List ℕ → List ℕ
failure_bytes lamp = 63 ∷ 0 ∷ 0 ∷ 0 ∷ 0 ∷ 0 ∷ 0 ∷ 7 ∷ 0 ∷ lamp

-- an output of so many bytes
abbrev bytes : ℕ → List ℕ
bytes n = replicate n 255

-- refused with that number and not with 5, and nothing is written, in an output that is long enough and in one that is too short
abbrev Refused : Frame → ℕ → Type 0
Refused f number = (writing f (bytes 30) ≡ not_written number (bytes 30)) × (writing f (bytes 3) ≡ not_written number (bytes 3))

-- written as these bytes: refused with 5 in an output with one too few, put into one with just enough, and the bytes behind them stay
abbrev WrittenAs : Frame → List ℕ → Type 0
WrittenAs f s =
    (writing f (bytes (length s - 1)) ≡ not_written 5 (bytes (length s - 1)))
    × (writing f (bytes (length s)) ≡ record { number = 0; count = length s; output = s })
    × (writing f (bytes (length s) ++ (1 ∷ 2 ∷ [])) ≡ record { number = 0; count = length s; output = s ++ (1 ∷ 2 ∷ []) })

pub record WrittenNumbers : Type 0 where
  -- a lamp with the least and the greatest byte that it may have
  pub ends : WrittenAs (failure (lamp 33 126)) (failure_bytes (lamp 33 126))
  -- one below, in the first byte; one above, in the last; and in a cancel
  pub below : Refused (failure (lamp 32 48)) 12
  pub above : Refused (failure (lamp 48 127)) 12
  pub in_cancel : Refused (value (Request 1) 1 0 7 (lamp 48 127) Cancel) 12
  -- a bad lamp with gateway fields that disagree: the lamp comes first. With a good one: 1
  pub lamp_first : Refused (value (Failure 0) 0 1 7 (lamp 48 127) Plain) 12
  pub disagreeing : Refused (value (Failure 0) 0 1 7 (lamp 48 48) Plain) 1
  -- a field that the kind lacks is outside its map, before all else: a sense or an hour of a Start
  pub sense_of_start : Refused (value Start 1 0 0 none Cancel) 1
  pub hour_of_start : Refused (value Start 1 0 7 none Plain) 1
  -- and the lamp of a kind without one, whatever its bytes are, with gateways that agree and that do not
  pub lamp_of_restock : Refused (value (Restock 5) 0 0 7 (lamp 48 48) Plain) 1
  pub bad_lamp_of_restock : Refused (value (Restock 5) 0 1 7 (lamp 48 127) Plain) 1
  -- without a sense, an hour and a lamp of their own they are written; an Update has an hour
  pub start : WrittenAs (value Start 1 0 0 none Plain) (7 ∷ 4 ∷ 1 ∷ 0 ∷ [])
  pub restock : WrittenAs (value (Restock 5) 0 0 7 none Plain) (79 ∷ 3 ∷ 0 ∷ 0 ∷ 0 ∷ 0 ∷ 0 ∷ 7 ∷ 0 ∷ 5 ∷ [])
  pub update : WrittenAs (value Update 0 1 7 none Plain) (15 ∷ 6 ∷ 0 ∷ 1 ∷ 0 ∷ 0 ∷ 0 ∷ 7 ∷ [])
  -- reading has the same ends: 33 and 126 are taken, 32 and 127 are 12
  pub ends_read : reading (failure_bytes (lamp 33 126)) ≡ Ok (failure (lamp 33 126))
  pub below_read : form_refusal (failure_bytes (lamp 32 48)) ≡ 12
  pub above_read : form_refusal (failure_bytes (lamp 48 127)) ≡ 12
  -- a cut frame with a bad lamp: the length comes first
  pub cut_read : form_refusal (take 26 (failure_bytes (lamp 127 48))) ≡ 11
