-- Laws of the frames of what outstanding places hold: one place more, and a frame before them.
use mathlib.Core.Path.{◌≡◌, ◌∙◌, ap}
use Prim.Native.Nat.{ℕ, ◌+◌, ◌-◌, ◌*◌, ◌≤◌, ◌<◌}
use native.Mathlib.Omega.{arith}
use mathlib.Core.List.{List, ◌∷◌, ◌++◌, map, map-append, append-nil}
use lib.ListN.{length, length-append}
use Rattle.lists.specs.Lists.{joined}
use Rattle.lists.proofs.ListLaws.{joined-append}
use Rattle.buffer.specs.Slice.{part, Puts}
use Rattle.buffer.proofs.Putting.{puts-more, puts-length}
use Rattle.frame.specs.Writing.{written}
use Rattle.frame.specs.declared.Frame.{Frame}
use Rattle.memory.specs.Layout.{outstanding_size}
use Rattle.memory.specs.Codec.{sent_of, places_at}
use Rattle.memory.proofs.Places.{read-add}
use Rattle.gateway.specs.Effects.{bytes_of_frames}
use Rattle.effects.specs.Inside.Sending.{frame_of, stored_frames}

module _ (m : List ℕ) (place : ℕ) where
  -- the frame of the place k places on, and the bytes of those before it
  abbrev pub frame_here : ℕ → Frame
  frame_here k = frame_of (sent_of (part m (place + outstanding_size * k) outstanding_size))

  abbrev pub bytes_to : ℕ → List ℕ
  bytes_to k = bytes_of_frames (stored_frames m place k)

  bytes-add : (k j : ℕ) → bytes_to (k + j) ≡ bytes_to k ++ bytes_of_frames (stored_frames m (place + outstanding_size * k) j)
  bytes-add k j =
      let fs = places_at sent_of outstanding_size m place k in
      let gs = places_at sent_of outstanding_size m (place + outstanding_size * k) j in
      rw (read-add sent_of outstanding_size m place k j, map-append frame_of fs gs) (joined-append written (map frame_of fs) (map frame_of gs))

  one_place : (k : ℕ) → bytes_of_frames (stored_frames m (place + outstanding_size * k) 1) ≡ written (frame_here k)
  unfolding joined places_at
  one_place k = append-nil (written (frame_here k))

  pub one_more : (k : ℕ) → bytes_to (k + 1) ≡ bytes_to k ++ written (frame_here k)
  one_more k = bytes-add k 1 ∙ ap (λ (b : List ℕ). bytes_to k ++ b) (one_place k)

  pub more_bytes : (k n : ℕ) → k < n → length (bytes_to k) + length (written (frame_here k)) ≤ length (bytes_to n)
  more_bytes k n h =
      let e : k + 1 + (n - (k + 1)) ≡ n = omega arith in
      let a = rw (e, length-append) at (ap length (bytes-add (k + 1) (n - (k + 1)))) in
      let b = rw length-append at (ap length (one_more k)) in
      omega arith

  module _ {at count k behind : ℕ} {output now : List ℕ} (p : Puts at (bytes_to k) output now behind) (h : k < count)
      (room : at + length (bytes_to count) ≤ length output) {f : Frame} (e : f ≡ frame_here k) where
    inside : at + length (bytes_to k) ≤ length output
    inside = omega (arith, more_bytes k count h, room)

    pub next-room : behind + length (written f) ≤ length now
    next-room = rw (e, puts-length inside p, p.position) (omega (arith, more_bytes k count h, room))

-- a frame and the others
module _ (first : Frame) (frames : List Frame) (output : List ℕ) (room : length (bytes_of_frames (first ∷ frames)) ≤ length output) where
  pub first-inside : 0 + length (written first) ≤ length output
  unfolding joined
  first-inside = let r = rw length-append at room in omega arith

  module _ {now : List ℕ} {behind : ℕ} (p : Puts 0 (written first) output now behind) where
    pub others-room : behind + length (bytes_of_frames frames) ≤ length now
    unfolding joined
    others-room = let r = rw length-append at room in rw (puts-length first-inside p, p.position) (omega arith)

    pub others-put : {later : List ℕ} {end : ℕ} → Puts behind (bytes_of_frames frames) now later end → Puts 0 (bytes_of_frames (first ∷ frames))
        output later end
    unfolding joined
    others-put q = puts-more first-inside p q
