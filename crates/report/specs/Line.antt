-- The line that the program frames prints of a byte string: kind, from, to, hour, origin, quantity, sense and lamp, or the number
-- with which it is refused and the reason in words.
use Rattle.std.specs.Prelude.{ℕ, cond, Some, Result, Ok, Err, List, [], ◌∷◌, ◌++◌}
use Rattle.text.specs.Decimal.{field}
use Rattle.model.specs.Messages.{kind_number, origin_of, quantity_of}
use Rattle.model.specs.declared.Message.{Message}
use Rattle.frame.specs.Kinds.{has_lamp, sense_number}
use Rattle.frame.specs.Reasons.{reading}
use Rattle.frame.specs.declared.Frame.{Frame}
use Rattle.frame.specs.declared.forms.FormError.{FormError}
use Rattle.reasons.specs.Words.{refused_text}

-- kind, from, to and hour; a field that the kind lacks is 0
unfoldable pub route : Message → List ℕ
route m = field (kind_number m.kind) ++ (field m.from ++ (field m.to ++ field m.hour))

-- origin, quantity and sense, which is 0 for a plain message
unfoldable pub content : Frame → List ℕ
content f = field (origin_of f.message.kind) ++ (field (quantity_of f.message.kind) ++ field (sense_number f.sense))

-- the lamp's eighteen characters, or a dash
unfoldable pub lamp_text : Message → List ℕ
lamp_text m = cond (has_lamp (kind_number m.kind)) m.lamp (45 ∷ [])

unfoldable pub frame_text : Frame → List ℕ
frame_text f = route f.message ++ (content f ++ lamp_text f.message)

-- the line of what was read: the frame, or the reason
abbrev pub line_of : Result Frame FormError → List ℕ
line_of (Ok f) = frame_text f
line_of (Err reason) = refused_text (Some reason)

-- the line of a byte string, without its line end
unfoldable pub line : List ℕ → List ℕ
line s = line_of (reading s)
