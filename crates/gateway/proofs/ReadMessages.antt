-- What is read from bytes fits its fields, whatever its form.
use mathlib.Core.Path.{◌≡◌, refl}
use mathlib.Core.List.{List}
use Prim.Native.Nat.{ℕ}
use lib.Dec.{lit<}
use Rattle.buffer.specs.Slice.{Bytes}
use Rattle.frame.specs.Claims.{RangedFrame}
use Rattle.frame.specs.Reasons.{reading, blank_frame, frame_in, frame_read}
use Rattle.frame.specs.declared.Frame.{Frame}
use Rattle.frame.specs.declared.forms.FormError.{FormError}
use Rattle.std.specs.Prelude.{Result, Ok, Err}
use Rattle.frame.proofs.Laws.{one-to-one}
use Rattle.memory.specs.Inside.Fits.{MessageFits}

blank-fits : MessageFits blank_frame.message
blank-fits = record { hour = lit< tt; from = lit< tt; to = lit< tt; origin = lit< tt; quantity = lit< tt; lamp = refl }

pub ranged-fits : (f : Frame) → RangedFrame f → MessageFits f.message
ranged-fits f r = record { hour = r.hour; from = r.from; to = r.to; origin = r.origin; quantity = r.quantity; lamp = r.lamp }

fits_read : (r : Result Frame FormError) → ((f : Frame) → r ≡ Ok f → MessageFits f.message) → MessageFits (frame_in r).message
fits_read (Ok f) h = h f refl
fits_read (Err reason) h = blank-fits

pub reading-fits : (s : List ℕ) → Bytes s → MessageFits (frame_read s).message
reading-fits s bytes = fits_read (reading s) (λ f e. ranged-fits f (one-to-one.read_ranged s bytes f e))
