-- The table of kinds, which gives each kind its one map, and the sense.
use Rattle.std.specs.Prelude.{ℕ, ◌+◌, ◌/◌, ◌^◌, Bool, cond, List, [], ◌∷◌, leb, eqb, get_or}
use Rattle.model.specs.Messages.{kind_number}
use Rattle.frame.specs.Layout.{odd}
use Rattle.frame.specs.declared.Sense.{Sense}
use Rattle.frame.specs.declared.Sense.TheVariants.{Plain, Cancel, Acknowledgment, CancelAcknowledgment}
use Rattle.frame.specs.declared.Frame.{Frame}

-- the maps (presence bitmaps) of kinds 0 to 6
abbrev pub maps : List ℕ
maps = 63 ∷ 63 ∷ 63 ∷ 79 ∷ 7 ∷ 15 ∷ 15 ∷ []

-- the map of the kind with that number
unfoldable pub map_of_kind : ℕ → ℕ
map_of_kind kind = get_or maps kind 0

-- the field of that bit stands in the map
abbrev pub has_field : ℕ → ℕ → Bool
has_field bit map = odd (map / 2 ^ bit)

-- by the table a kind has an hour, an origin, a lamp, a quantity, where bit 3, 4, 5, 6 stands in its map
unfoldable pub has_hour : ℕ → Bool
unfolding map_of_kind
has_hour kind = has_field 3 (map_of_kind kind)

unfoldable pub has_origin : ℕ → Bool
unfolding map_of_kind
has_origin kind = has_field 4 (map_of_kind kind)

unfoldable pub has_lamp : ℕ → Bool
unfolding map_of_kind
has_lamp kind = has_field 5 (map_of_kind kind)

unfoldable pub has_quantity : ℕ → Bool
unfolding map_of_kind
has_quantity kind = has_field 6 (map_of_kind kind)

-- bit 7 of the map
abbrev pub sense_bit : ℕ
sense_bit = 128

-- the number of a sense; a plain message has none, and counts as 0
abbrev pub sense_number : Sense → ℕ
sense_number Plain = 0
sense_number Cancel = 1
sense_number Acknowledgment = 2
sense_number CancelAcknowledgment = 3

-- the sense with that number
abbrev pub sense_of : ℕ → Sense
sense_of number =
    cond (eqb number 1) Cancel
    (cond (eqb number 2) Acknowledgment
    (cond (eqb number 3) CancelAcknowledgment Plain))

-- the map with bit 7 added where there is a sense
abbrev pub with_sense : ℕ → ℕ → ℕ
with_sense map sense = cond (leb 1 sense) (map + sense_bit) map

-- a frame's map
unfoldable pub map_of : Frame → ℕ
unfolding map_of_kind
map_of f = with_sense (map_of_kind (kind_number f.message.kind)) (sense_number f.sense)
