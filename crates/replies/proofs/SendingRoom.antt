-- Laws of what doing a message sends, at most one message: whether there is room for it, and that it is sent.
use mathlib.Core.Path.{◌≡◌, refl}
use mathlib.Core.Bool.{true, false, true≢false}
use mathlib.Core.List.{List, [], ◌∷◌, ◌++◌, append-nil}
use Prim.Native.Nat.{ℕ, ◌+◌, ◌≤◌, ◌<◌}
use native.Mathlib.Nat.{add-zero}
use native.Mathlib.Omega.{arith}
use lib.Dec.{leb}
use lib.ListN.{length}
use borrow.Author.Tests.{le-leb, lt-leb}
use Rattle.lists.specs.Lists.{All, cons, joined}
use Rattle.lists.proofs.ListLaws.{all_right}
use Rattle.buffer.specs.Slice.{write}
use Rattle.model.specs.Messages.{kind_number}
use Rattle.model.specs.declared.Message.{Message}
use Rattle.std.specs.Prelude.{Option, None, Some, is_some}
use Rattle.frame.specs.Kinds.{map_of}
use Rattle.frame.specs.Writing.{written}
use Rattle.frame.specs.declared.Frame.{Frame}
use Rattle.frame.proofs.Output.{whole-size}
use Rattle.frame.proofs.Sizes.{plain-length}
use Rattle.memory.specs.Layout.{outstanding_at, outstanding_size}
use Rattle.memory.specs.Codec.{sent_bytes}
use Rattle.memory.specs.Inside.Fits.{MessageFits, SentFits}
use Rattle.memory.specs.Validity.{frame_if}
use Rattle.memory.specs.declared.Header.{Header}
use Rattle.memory.specs.declared.Sent.{Sent}
use Rattle.gateway.specs.Effects.{bytes_of_frames, sent_one, sent_all}
use Rattle.effects.specs.Inside.Sending.{header_sent}
use Rattle.effects.proofs.PlacedLaws.{placed-sent}
use Rattle.replies.specs.Inside.Turns.{reply_bytes, room_for, MaySendReply, SendsReply}

-- the bytes of one frame
pub bytes_one : (f : Frame) → bytes_of_frames (f ∷ []) ≡ written f
unfolding joined
bytes_one f = append-nil (written f)

-- nothing is sent
pub no_bytes : 0 ≡ reply_bytes None
unfolding joined
no_bytes = refl

-- one message is
pub bytes-of-one : (m : Message) → length m.lamp ≡ 18 → kind_number m.kind ≤ 2 → 27 ≡ reply_bytes (Some m)
unfolding map_of
bytes-of-one m lamp few = rw (bytes_one, whole-size (frame_if false m) lamp, plain-length m.kind few)

module _ (h : Header) (room : ℕ) where
  -- nothing is sent
  pub room-for-none : h.outstanding ≤ h.settings.u → true ≡ room_for h room None
  unfolding joined
  room-for-none l = rw (add-zero, le-leb h.outstanding h.settings.u l, le-leb 0 room (omega arith))

  pub room-for-nothing : (reply : Option Message) → is_some reply ≡ false → h.outstanding ≤ h.settings.u → true ≡ room_for h room reply
  room-for-nothing None e l = room-for-none l
  room-for-nothing (Some m) e l = absurd (true≢false e)

  -- one message is
  module _ (m : Message) where
    pub no_place : h.settings.u ≤ h.outstanding → false ≡ room_for h room (Some m)
    no_place l = rw (lt-leb (h.outstanding + 1) h.settings.u (omega arith))

    pub room-for-one : {bytes : ℕ} → bytes ≡ reply_bytes (Some m) → h.outstanding < h.settings.u → leb bytes room ≡ room_for h room (Some m)
    room-for-one e l = rw (e, le-leb (h.outstanding + 1) h.settings.u (omega arith))

module _ (memory : List ℕ) (h : Header) where
  -- nothing is sent
  pub none-sent : SendsReply memory memory h None h
  unfolding sent_all
  none-sent before g p fits = p

  -- one message is
  module _ (m : Message) (may : MaySendReply memory h (Some m)) where
    place-left : h.outstanding < h.settings.u
    place-left = let l = may.outstanding in omega arith

    pub place-free : {place : ℕ} → place ≡ outstanding_at h.settings.q h.outstanding → place + outstanding_size ≤ length memory
    place-free at = omega (arith, at, place-left, may.long)

    fits_last : (xs : List Sent) (x : Sent) → All SentFits (xs ++ (x ∷ [])) → MessageFits x.message
    fits_last xs x ps = of_one (all_right xs (x ∷ []) ps)
      where
        of_one : All SentFits (x ∷ []) → MessageFits x.message
        of_one (cons h hs) = h.message

    pub one-sent : {place : ℕ} → place ≡ outstanding_at h.settings.q h.outstanding → {memory' : List ℕ} {r : Header}
        → memory' ≡ write place (sent_bytes (record { message = m; cancel = false })) memory → r ≡ header_sent m.hour h
        → SendsReply memory memory' h (Some m) r
    unfolding sent_all sent_one
    one-sent at stored header before g p fits =
        let message : MessageFits m = fits_last g.outstanding (record { message = m; cancel = false }) fits.outstanding in
        placed-sent p false m message place-left (rw at at stored) header
