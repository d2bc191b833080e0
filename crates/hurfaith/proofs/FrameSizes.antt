-- The lengths of the frames that calls put out: none has more than twenty-eight bytes.
use mathlib.Core.Path.{◌≡◌, refl}
use mathlib.Core.Bool.{Bool}
use mathlib.Core.List.{List, [], ◌∷◌}
use Prim.Native.Nat.{ℕ, ◌*◌, ◌≤◌}
use native.Mathlib.Omega.{arith}
use lib.ListN.{length, length-append}
use mathlib.Core.List.Memᴰ.{head as here}
use mathlib.Core.List.Memᴰ.{tail as there}
use Rattle.lists.specs.Lists.{◌∈◌, joined}
use Rattle.model.specs.declared.Message.{Message}
use Rattle.model.specs.declared.Kind.{Kind}
use Rattle.memory.specs.Validity.{frame_if}
use Rattle.gateway.specs.Effects.{bytes_of_frames, frames_for}
use Rattle.gateway.specs.Rounds.{frame_in_round, frames_in_round}
use Rattle.frame.proofs.Sizes.{frame_small}

-- the frames of some messages or cancels
pub messages-small : (cancel : Bool) (ms : List Message) → ((m : Message) → m ∈ ms → length m.lamp ≡ 18) → length (bytes_of_frames
    (frames_for cancel ms)) ≤ 28 * length ms
unfolding joined
messages-small cancel [] h = omega arith
messages-small cancel (m ∷ ms) h =
    rw length-append
    (omega (arith, frame_small (frame_if cancel m) (h m (here refl)), messages-small cancel ms (λ x n. h x (there n))))

-- the frames of a round
pub round-small : (kind : Kind) (hour own : ℕ) (receivers : List ℕ) → length (bytes_of_frames (frames_in_round kind hour own receivers)) ≤ 28 * length receivers
unfolding joined
round-small kind hour own [] = omega arith
round-small kind hour own (to ∷ receivers) =
    rw length-append (omega (arith, frame_small (frame_in_round kind hour own to) refl, round-small kind hour own receivers))
