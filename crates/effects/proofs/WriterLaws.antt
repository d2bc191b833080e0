-- Laws of a writer: no bytes, more bytes, and what it has put.
use mathlib.Core.Path.{◌≡◌, ◌∙◌, ap, sym}
use Prim.Native.Nat.{ℕ, ◌+◌, ◌≤◌, ◌<◌}
use native.Mathlib.Omega.{arith}
use mathlib.Core.List.{List, ◌++◌}
use lib.ListN.{length, length-append}
use denote.Ref.{at_last}
use Rattle.lists.specs.Lists.{joined}
use Rattle.buffer.specs.Slice.{Puts}
use Rattle.buffer.proofs.Writes.{write-nil, write-join}
use Rattle.frame.specs.Writing.{written}
use Rattle.frame.specs.declared.Frame.{Frame}
use Rattle.writer.specs.declared.outgoing.Writer.{Writer}
use Rattle.writer.specs.Inside.Outgoing.{advanced}
use Rattle.memory.specs.Codec.{places_at}
use Rattle.effects.specs.Inside.Sending.{advanced_by}
use Rattle.effects.proofs.StoredFrames.{frame_here, bytes_to, one_more, more_bytes}

-- the bytes that a writer has put
pub writer-puts : {w v : Writer} {xs : List ℕ} → v ≡ advanced_by xs w → Puts w.at xs w.output.now v.output.now v.at
writer-puts e = record { position = ap (λ (v : Writer). v.at) e; output = ap (λ (v : Writer). v.output.now) e }

-- a frame behind other bytes
pub advanced-more : (w : Writer) (xs : List ℕ) (f : Frame) → w.at + length xs ≤ length w.output.now → advanced (advanced_by xs w) f ≡ advanced_by (xs ++ written f) w
advanced-more w xs f room =
    let p : w.at + length xs + length (written f) ≡ w.at + length (xs ++ written f) = rw length-append (omega arith) in
    λ i. record { output = at_last w.output (write-join w.at xs (written f) w.output.now room i); at = p i }

module _ (m : List ℕ) (place : ℕ) where
  -- before the first place
  pub none-advanced : (w : Writer) → w ≡ advanced_by (bytes_to m place 0) w
  unfolding joined places_at
  none-advanced w =
      let p : w.at ≡ w.at + 0 = omega arith in
      λ i. record { output = at_last w.output (sym (write-nil w.at w.output.now) i); at = p i }

  -- one place more
  module _ (w : Writer) {v : Writer} {k count : ℕ} (e : v ≡ advanced_by (bytes_to m place k) w) (h : k < count)
      (room : w.at + length (bytes_to m place count) ≤ length w.output.now) {f : Frame} (is : f ≡ frame_here m place k) where
    pub next-advanced : {u : Writer} → u ≡ advanced v f → u ≡ advanced_by (bytes_to m place (k + 1)) w
    next-advanced q =
        q ∙ ap (λ (x : Writer). advanced x f) e ∙ advanced-more w (bytes_to m place k) f (omega (arith, more_bytes m place k count h, room))
        ∙ ap (λ (xs : List ℕ). advanced_by xs w) (rw is (sym (one_more m place k)))
