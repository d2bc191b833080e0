-- Reading the lamp hands back its eighteen bytes of the frame, as a part of the lent frame. The part alone cannot say why there is
-- none: a number beside it does.
use Rattle.std.specs.Prelude.{◌≡◌, ℕ, ◌+◌, Bool, cond, Result, is_ok, List, take}
use Rattle.std.specs.Borrow.{Bor}
use Rattle.lists.specs.Lists.{tally}
use Rattle.buffer.specs.Slice.{part}
use Rattle.model.specs.Messages.{kind_number}
use Rattle.frame.specs.Layout.{widths, lamp_width}
use Rattle.frame.specs.Kinds.{has_lamp}
use Rattle.frame.specs.Reasons.{reading, read_in, read_number}
use Rattle.frame.specs.declared.forms.FormError.{FormError}
use Rattle.frame.specs.declared.Frame.{Frame}

-- a frame with a lamp, by the table of kinds
abbrev pub with_lamp : Frame → Bool
with_lamp f = has_lamp (kind_number f.message.kind)

-- what reading the lamp makes of what was read: a frame with one; or why there is none, the reasons of every frame, then that the frame has none
abbrev pub lamp_form : Result Frame FormError → Result Frame FormError
lamp_form r = read_in with_lamp r

-- there is no such reason
abbrev pub carries_lamp : Result Frame FormError → Bool
carries_lamp r = is_ok (lamp_form r)

-- the lamp's place: behind the map and the fields of bits 0 to 4
unfoldable pub lamp_place : ℕ
unfolding tally
lamp_place = 1 + tally (λ n. n) (take 5 widths)

-- a slice is the very part of another from position at on: it lies in the same block of memory, at bytes further, and has the n bytes there
pub record IsPart (whole : Bor (List ℕ)) (at n : ℕ) (p : Bor (List ℕ)) : Type 0 where
  pub place : p.ref_ptr ≡ (whole.ref_ptr.0, at + whole.ref_ptr.1)
  pub bytes : p.now ≡ part whole.now at n

-- where the lamp starts and how long it is; without a lamp the part is empty
abbrev pub lamp_start : Result Frame FormError → ℕ
lamp_start r = cond (carries_lamp r) lamp_place 0

abbrev pub lamp_length : Result Frame FormError → ℕ
lamp_length r = cond (carries_lamp r) lamp_width 0

-- the part that holds a frame's lamp
abbrev pub IsLamp : Bor (List ℕ) → Bor (List ℕ) → Type 0
IsLamp frame p = IsPart frame (lamp_start (reading frame.now)) (lamp_length (reading frame.now)) p

-- what reading the lamp of a byte string is refused with, or 0
abbrev pub lamp_refusal : List ℕ → ℕ
lamp_refusal s = read_number (lamp_form (reading s))
