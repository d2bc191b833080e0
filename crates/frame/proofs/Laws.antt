-- What is claimed of frames, proved.
use mathlib.Core.Path.{◌≡◌, sym, ◌∙◌, ap, subst}
use mathlib.Core.List.{List, []}
use Prim.Native.Nat.{ℕ}
use denote.Ref.{Bor}
use lib.ListN.{length}
use Rattle.buffer.specs.Slice.{part}
use Rattle.buffer.proofs.Writes.{length_part}
use Rattle.frame.specs.Layout.{lamp_width, widths}
use Rattle.frame.specs.Writing.{well_formed, written}
use Rattle.std.specs.Prelude.{Ok}
use Rattle.frame.specs.Reasons.{fields_of, frame_of, reading, frame_in, frame_read}
use Rattle.frame.specs.Lamps.{lamp_place, lamp_refusal, IsLamp}
use Rattle.frame.specs.Claims.{RangedFrame, OneToOne, FieldCount, LampAndNumber}
use Rattle.frame.specs.declared.Frame.{Frame}
use Rattle.frame.proofs.Widths.{standing-count}
use Rattle.frame.proofs.Accepted.{accepted, lamp-carried, lamp-not-carried, lamp-maps, lamp-inside}
use Rattle.frame.proofs.ReadFirst.{lamp-part, returned, returned-formed, returned-ranged}
use Rattle.frame.proofs.WriteFirst.{read-after-write}

-- the frame is the one with the fields
is-read : (s : List ℕ) {f : Frame} → reading s ≡ Ok f → f ≡ frame_of (fields_of s)
is-read s e = sym (ap frame_in e) ∙ (accepted s e).frame

pub one-to-one : OneToOne
one-to-one = record {
  written_read = read-after-write;
  read_written = λ s b f e. ap written (is-read s e) ∙ (returned s b (accepted s e)).same;
  read_well_formed = λ s b f e. ap well_formed (is-read s e) ∙ returned-formed s b (accepted s e);
  read_ranged = λ s b f e. subst RangedFrame (sym (is-read s e)) (returned-ranged s b (accepted s e));
}

pub field-count : FieldCount
field-count = record { fields = standing-count widths }

-- the part and the number go by one test
module _ (frame p : Bor (List ℕ)) (is : IsLamp frame p) where
  lamp-found : lamp_refusal frame.now ≡ 0 → p.now ≡ (frame_read frame.now).message.lamp
  unfolding lamp_place
  lamp-found h =
      let some = lamp-carried frame.now h in
      let (passes, maps) = lamp-maps frame.now some in
      (rw some at is.bytes) ∙ sym (lamp-part frame.now maps (lamp-inside frame.now some)) ∙ sym (ap (λ (f : Frame). f.message.lamp) passes.frame)

  lamp-whole : lamp_refusal frame.now ≡ 0 → length p.now ≡ lamp_width
  unfolding lamp_place
  lamp-whole h =
      let some = lamp-carried frame.now h in
      ap length (rw some at is.bytes) ∙ length_part frame.now 9 18 (lamp-inside frame.now some)

  lamp-refused : (lamp_refusal frame.now ≡ 0 → ⊥) → p.now ≡ []
  unfolding part
  lamp-refused h = rw (lamp-not-carried frame.now h) at is.bytes

pub lamp-and-number : LampAndNumber
lamp-and-number = record { found = lamp-found; whole = lamp-whole; refused = lamp-refused }
