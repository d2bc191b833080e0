-- The cancels of undone events stand in the outstanding places behind those that were in use, in the order in which their frames go out.
use mathlib.Core.Path.{◌≡◌, ◌∙◌, subst}
use mathlib.Core.Bool.{true}
use mathlib.Core.List.{List, ◌∷◌, map}
use Prim.Native.Nat.{ℕ, ◌+◌, ◌*◌, ◌≤◌}
use lib.ListN.{length, length-append, length-map}
use Rattle.lists.specs.Lists.{joined}
use Rattle.buffer.specs.Slice.{Puts}
use Rattle.model.specs.declared.Message.{Message}
use Rattle.frame.specs.Writing.{written}
use Rattle.frame.specs.declared.Frame.{Frame}
use Rattle.memory.specs.Layout.{outstanding_at, outstanding_size}
use Rattle.memory.specs.Records.{Gateway, site_of}
use Rattle.memory.specs.declared.Entry.{Entry}
use Rattle.memory.specs.declared.Header.{Header}
use Rattle.gateway.specs.Effects.{bytes_of_frames, frames_for}
use Rattle.gateway.specs.Undoing.{sent_back, rolled_back}
use Rattle.effects.specs.Inside.Placed.{Placed}
use Rattle.effects.specs.Inside.Sending.{stored_frames}
use Rattle.effects.proofs.StoredSent.{sent_as, frames-of, Stored, sent-stored}
use Rattle.rollback.proofs.RollbackLaws.{rolled-settings, rolled-behind}

-- after undoing these events, from the first place on that was free
pub cancels-stored : {before found memory : List ℕ} {h r : Header} {g after : Gateway} → Placed before found h g → (es : List Entry) → Placed before
    memory r after → after.settings ≡ (rolled_back es g).settings → after.outstanding ≡ (rolled_back es g).outstanding → {free count : ℕ}
    → free ≡ outstanding_at h.settings.q h.outstanding → count ≡ length (sent_back (site_of g.settings) es)
    → Stored memory free count (frames_for true (sent_back (site_of g.settings) es))
cancels-stored {memory = memory} {g = g} first es p settings outstanding {free} {count} at n =
    let ms : List Message = sent_back (site_of g.settings) es in
    subst (Stored memory free count) (frames-of true ms)
    (sent-stored first p (settings ∙ rolled-settings es g) (map (sent_as true) ms) (outstanding ∙ rolled-behind es g) at (n ∙ rw length-map))

-- a frame and then theirs
module _ {memory : List ℕ} {free count : ℕ} {frames : List Frame} (s : Stored memory free count frames) (first : Frame) where
  pub may-put : {room : ℕ} → length (written first) + length (bytes_of_frames frames) ≤ room
      → (free + outstanding_size * count ≤ length memory) × (length (bytes_of_frames (first ∷ stored_frames memory free count)) ≤ room)
  unfolding joined
  may-put l = (s.inside, rw (s.held, length-append) l)

  pub all-put : {output out : List ℕ} {n : ℕ} → Puts 0 (bytes_of_frames (first ∷ stored_frames memory free count)) output out n → Puts 0
      (bytes_of_frames (first ∷ frames)) output out n
  all-put p = rw s.held at p
