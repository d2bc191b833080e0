-- What an effect comes to: it is settled where there is room for it, and refused with 5 where there is not.
use mathlib.Core.Path.{◌≡◌}
use mathlib.Core.Bool.{true, false, ◌&&◌}
use mathlib.Core.List.{List}
use Rattle.std.specs.Prelude.{Err}
use Rattle.refusal.specs.declared.Refusal.TheVariants.{NoRoom}
use Prim.Native.Nat.{ℕ}
use lib.Dec.{leb}
use lib.ListN.{length}
use Rattle.buffer.specs.Slice.{write}
use Rattle.memory.specs.Codec.{encode}
use Rattle.memory.specs.Records.{Gateway}
use Rattle.gateway.specs.Effects.{Effect, bytes_of_frames, fits, settled}
use Rattle.gateway.specs.Calls.{left, leaving}
use Rattle.gateway.specs.Answers.{answer_of}

-- the three needs, one after the other
pub fits_by : (room : ℕ) (e : Effect) {a b d : ℕ} → length e.gateway.queue ≡ a → length e.gateway.outstanding ≡ b → length
    (bytes_of_frames e.frames) ≡ d
    → fits room e ≡ (leb a e.gateway.settings.q && leb b e.gateway.settings.u && leb d room)
unfolding fits
fits_by room e p q r = rw (p, q, r)

module _ (m output : List ℕ) (g : Gateway) (e : Effect) where
  pub no_room : fits (length output) e ≡ false → left (answer_of (Err NoRoom)) m output ≡ leaving (settled (length output) g e) m output
  unfolding leaving settled
  no_room f = rw f

  pub with-room : fits (length output) e ≡ true → {after out : List ℕ} {n : ℕ} → after ≡ encode e.gateway m → out ≡ write 0
      (bytes_of_frames e.frames) output → n ≡ length (bytes_of_frames e.frames)
      → record { answer = record { number = 0; written = n }; memory = after; output = out } ≡ leaving (settled (length output) g e) m output
  unfolding leaving settled
  with-room f p q r = rw (f, p, q, r)
