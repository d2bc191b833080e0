-- What is proved of these definitions beside the contracts.
use Rattle.std.specs.Prelude.{◌≡◌, true, not, cond, ◌&&◌, Ok, List, [], ℕ, ◌<◌, ◌^◌, eqb, length}
use Rattle.std.specs.Int.Count.{ones}
use Rattle.std.specs.Borrow.{Bor}
use Rattle.buffer.specs.Slice.{Bytes}
use Rattle.model.specs.Messages.{kind_number, origin_of, quantity_of, kind_of}
use Rattle.frame.specs.Layout.{gateway_width, lamp_width, widths, standing}
use Rattle.frame.specs.Kinds.{has_origin, has_lamp, has_quantity}
use Rattle.frame.specs.Writing.{all_between, well_formed, value_refusal, written}
use Rattle.frame.specs.Reasons.{reading, frame_read}
use Rattle.frame.specs.Lamps.{IsLamp, lamp_refusal}
use Rattle.frame.specs.declared.Frame.{Frame}

-- the numbers fit their fields, as those of every frame that a program holds do
pub record RangedFrame (f : Frame) : Type 0 where
  pub hour : f.message.hour < 256 ^ 4
  pub from : f.message.from < 256 ^ gateway_width
  pub to : f.message.to < 256 ^ gateway_width
  pub origin : origin_of f.message.kind < 256 ^ gateway_width
  pub quantity : quantity_of f.message.kind < 256 ^ 2
  pub lamp : length f.message.lamp ≡ lamp_width
  pub bytes : Bytes f.message.lamp

-- Demand 2: "frames and messages correspond one to one."
-- Frames and well-formed values are one to one.
pub record OneToOne : Type 0 where
  -- reading what was written gives the value
  pub written_read : (f : Frame) → RangedFrame f → well_formed f ≡ true → reading (written f) ≡ Ok f
  -- a byte string that is read is what its value is written as
  pub read_written : (s : List ℕ) → Bytes s → (f : Frame) → reading s ≡ Ok f → written f ≡ s
  -- and that value is well formed
  pub read_well_formed : (s : List ℕ) → Bytes s → (f : Frame) → reading s ≡ Ok f → well_formed f ≡ true
  pub read_ranged : (s : List ℕ) → Bytes s → (f : Frame) → reading s ≡ Ok f → RangedFrame f

-- what a value is refused with, and which values are frames
pub record ValueNumbers : Type 0 where
  -- nothing, exactly where it is well formed
  pub formed : (f : Frame) → well_formed f ≡ eqb (value_refusal f) 0
  -- 12, exactly where its kind has a lamp and a byte of the lamp is outside 33 to 126
  pub lamp : (f : Frame) → eqb (value_refusal f) 12 ≡ (has_lamp (kind_number f.message.kind) && not (all_between 33 126 f.message.lamp))

-- the number of fields is the number of one bits in the map
pub record FieldCount : Type 0 where
  pub fields : (map : ℕ) → map < 256 → length (standing map widths) ≡ ones map

-- the table of kinds is the one source: a kind has an origin and a quantity just where its map has them, and else they are zero
pub record OwnFields : Type 0 where
  pub origin : (number origin quantity : ℕ) → origin_of (kind_of number origin quantity) ≡ cond (has_origin number) origin 0
  pub quantity : (number origin quantity : ℕ) → quantity_of (kind_of number origin quantity) ≡ cond (has_quantity number) quantity 0

-- the part that reading the lamp hands back is the lamp where its number is 0, eighteen bytes, and is empty exactly where it is not
pub record LampAndNumber : Type 0 where
  pub found : (frame p : Bor (List ℕ)) → IsLamp frame p → lamp_refusal frame.now ≡ 0 → p.now ≡ (frame_read frame.now).message.lamp
  pub whole : (frame p : Bor (List ℕ)) → IsLamp frame p → lamp_refusal frame.now ≡ 0 → length p.now ≡ lamp_width
  pub refused : (frame p : Bor (List ℕ)) → IsLamp frame p → (lamp_refusal frame.now ≡ 0 → ⊥) → p.now ≡ []
