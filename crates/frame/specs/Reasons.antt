-- What a byte string is: a frame, or refused for the first reason that holds.
use Rattle.std.specs.Prelude.{ℕ, ◌+◌, Bool, true, cond, ◌&&◌, ◌||◌, Result, Ok, Err, List, [], ◌∷◌, leb, ltb, eqb, length, get_or, replicate}
use Rattle.buffer.specs.Number.{number_of}
use Rattle.model.specs.Messages.{kind_of}
use Rattle.model.specs.declared.Kind.TheVariants.{Start}
use Rattle.frame.specs.Layout.{widths, lamp_width, whole_length, cut}
use Rattle.frame.specs.Kinds.{has_lamp, map_of_kind, sense_bit, sense_of}
use Rattle.frame.specs.Writing.{lamp_fits, gateways_agree, unless}
use Rattle.frame.specs.declared.Sense.TheVariants.{Plain}
use Rattle.frame.specs.declared.Frame.{Frame}
use Rattle.frame.specs.declared.forms.FormError.{FormError}
use Rattle.frame.specs.declared.forms.FormError.TheVariants.{TooShort, WrongMap, WrongLength, WrongSense, WrongLamp, WrongGateways, NotTaken}
use Rattle.frame.specs.declared.Fields.{Fields}

-- a lamp's bytes; eighteen zeros where there is none
abbrev pub lamp_of : List ℕ → List ℕ
lamp_of [] = replicate lamp_width 0
lamp_of (b ∷ bs) = b ∷ bs

-- the fields by their bytes, bit 0 first; one that has no bytes is zero
unfoldable pub values_of : List (List ℕ) → Fields
values_of parts = record {
  kind = number_of (get_or parts 0 []);
  from = number_of (get_or parts 1 []);
  to = number_of (get_or parts 2 []);
  hour = number_of (get_or parts 3 []);
  origin = number_of (get_or parts 4 []);
  lamp = lamp_of (get_or parts 5 []);
  quantity = number_of (get_or parts 6 []);
  sense = number_of (get_or parts 7 []);
}

-- the fields of a byte string whose first byte is the map
unfoldable pub fields_of : List ℕ → Fields
unfolding cut values_of
fields_of s = values_of (cut 1 (get_or s 0 0) widths s)

-- the frame with those fields
abbrev pub frame_of : Fields → Frame
frame_of v = record {
  message = record { hour = v.hour; from = v.from; to = v.to; kind = kind_of v.kind v.origin v.quantity; lamp = v.lamp };
  sense = sense_of v.sense;
}

-- the map is that of the kind, with bit 7 only for a kind with a lamp
unfoldable pub map_fits : ℕ → ℕ → Bool
unfolding map_of_kind has_lamp
map_fits map kind = ltb kind 7 && (eqb map (map_of_kind kind) || (has_lamp kind && eqb map (map_of_kind kind + sense_bit)))

-- the sense is 1 to 3 where bit 7 stands
abbrev pub sense_fits : ℕ → ℕ → Bool
sense_fits map sense = cond (leb sense_bit map) (leb 1 sense && leb sense 3) true

-- why fields are refused: the last three reasons, in this order; or else the frame with them
unfoldable pub fields_reading : ℕ → Fields → Result Frame FormError
unfolding lamp_fits
fields_reading map v =
    let m = (frame_of v).message in
    unless (sense_fits map v.sense) (Err WrongSense)
    (unless (lamp_fits m) (Err WrongLamp)
    (unless (gateways_agree m.from m.to m.kind) (Err WrongGateways)
    (Ok (frame_of v))))

-- what reading a byte string gives: the first reason in this order, or the frame
unfoldable pub reading : List ℕ → Result Frame FormError
unfolding map_fits fields_of fields_reading whole_length
reading s =
    let map = get_or s 0 0 in
    unless (leb 2 (length s)) (Err TooShort)
    (unless (map_fits map (get_or s 1 0)) (Err WrongMap)
    (unless (eqb (length s) (whole_length map)) (Err WrongLength)
    (fields_reading map (fields_of s))))

-- what stands for the frame of a byte string that is refused
abbrev pub blank_frame : Frame
blank_frame = record { message = record { hour = 0; from = 0; to = 0; kind = Start; lamp = replicate lamp_width 0 }; sense = Plain }

-- the frame that was read
abbrev pub frame_in : Result Frame FormError → Frame
frame_in (Ok f) = f
frame_in (Err reason) = blank_frame

-- the frame of a byte string
abbrev pub frame_read : List ℕ → Frame
frame_read s = frame_in (reading s)

-- what was read, in a call that takes these frames only: its last reason is that this form is not taken
abbrev pub read_in : (Frame → Bool) → Result Frame FormError → Result Frame FormError
read_in taken (Ok f) = unless (taken f) (Err NotTaken) (Ok f)
read_in taken (Err reason) = Err reason

-- the number of a reason: 11 length, 12 lamp, 1 map, kind, sense, gateway fields and a form not taken in this call
abbrev pub form_number : FormError → ℕ
form_number TooShort = 11
form_number WrongMap = 1
form_number WrongLength = 11
form_number WrongSense = 1
form_number WrongLamp = 12
form_number WrongGateways = 1
form_number NotTaken = 1

-- that of what was read: 0 where it is a frame
abbrev pub read_number : Result Frame FormError → ℕ
read_number (Ok f) = 0
read_number (Err reason) = form_number reason

-- what was read is refused with where frames are refused with these numbers, 0 for none: a reason comes first
abbrev pub refusal_in : (Frame → ℕ) → Result Frame FormError → ℕ
refusal_in refusal (Ok f) = refusal f
refusal_in refusal (Err reason) = form_number reason

-- what a byte string is refused with for its form, in whatever call, or 0
abbrev pub form_refusal : List ℕ → ℕ
form_refusal s = read_number (reading s)
