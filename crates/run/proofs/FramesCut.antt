-- What a call wrote, cut into frames again.
use mathlib.Core.Path.{◌≡◌, ◌∙◌, ap, subst}
use mathlib.Core.List.{List, map}
use Prim.Native.Nat.{ℕ, ◌+◌}
use lib.ListN.{length, take, drop}
use lib.Seq.{take-append_seam}
use Rattle.lists.specs.Lists.{All}
use Rattle.lists.proofs.PieceLaws.{pieces-joined}
use Rattle.buffer.specs.Slice.{write}
use Rattle.frame.specs.Layout.{whole_length}
use Rattle.frame.specs.Kinds.{map_of}
use Rattle.frame.specs.Writing.{written}
use Rattle.frame.specs.declared.Frame.{Frame}
use Rattle.frame.proofs.Sizes.{whole-some}
use Rattle.gateway.specs.Effects.{bytes_of_frames}
use Rattle.gateway.specs.SettingUp.{cut_frames}
use Rattle.run.specs.World.{frames_in}

-- a frame is as long as the table says of its map
abbrev pub Whole : Frame → Type 0
Whole f = whole_length (map_of f) ≡ length (written f)

-- what was written is read back
pub written_back : (bytes output : List ℕ) → take (length bytes) (write 0 bytes output) ≡ bytes
unfolding write
written_back bytes output = take-append_seam bytes (drop (0 + length bytes) output)

-- the frames that a call wrote, as the run cuts them out of its output
pub frames-in : (fs : List Frame) (output : List ℕ) → All Whole fs
    → frames_in (length (bytes_of_frames fs)) (write 0 (bytes_of_frames fs) output) ≡ map written fs
unfolding written
frames-in fs output a =
    ap (cut_frames (length (bytes_of_frames fs))) (written_back (bytes_of_frames fs) output)
    ∙ pieces-joined whole_length whole-some written fs a

-- as bytes that are known to be theirs
pub frames-of : (fs : List Frame) {bytes : List ℕ} → bytes_of_frames fs ≡ bytes → All Whole fs → (output : List ℕ)
    → frames_in (length bytes) (write 0 bytes output) ≡ map written fs
frames-of fs e a output = subst (λ (x : List ℕ). frames_in (length x) (write 0 x output) ≡ map written fs) e (frames-in fs output a)
