-- A cancel that waits: its entry is put into its queue place, and of the header the count of queue places alone is written, as all else of it
-- stands there already.
use mathlib.Core.Path.{◌≡◌, sym, ◌∙◌, subst}
use mathlib.Core.List.{List, ◌∷◌, ◌++◌}
use Prim.Native.Nat.{ℕ, ◌+◌, ◌-◌, ◌*◌, ◌≤◌}
use native.Mathlib.Omega.{arith}
use lib.ListN.{length, take, drop}
use Rattle.buffer.specs.Slice.{Bytes, part, write}
use Rattle.buffer.specs.Number.{bytes_of}
use Rattle.buffer.proofs.Writes.{length_part, length-write}
use Rattle.buffer.proofs.Standing.{Stands, stands-before}
use Rattle.memory.specs.Layout.{header_size, queue_at, queue_size}
use Rattle.memory.specs.Records.{header_of}
use Rattle.memory.specs.Codec.{header_front, header_back, entry_bytes, decode, encode}
use Rattle.memory.specs.declared.Header.{Header}
use Rattle.memory.specs.declared.Entry.{Entry}
use Rattle.memory.proofs.RoundTrips.{length_front, length_back}
use Rattle.memory.proofs.Stored.{length-entry}
use Rattle.memory.proofs.Holding.{Holds}
use Rattle.memory.proofs.SoundMemory.{sound-facts, sound-holds, header-held}
use Rattle.gateway.specs.Effects.{with_queue}
use Rattle.gateway.specs.Inside.Premises.{Known}
use Rattle.places.proofs.Counts.{queued-alone}
use Rattle.effects.specs.Inside.Placed.{entry_inserted}
use Rattle.rollback.specs.Inside.Entering.{MayEnter}
use Rattle.rollback.proofs.RoomLaws.{roomy, entered-place}

module _ (m : List ℕ) (h : Header) (bytes : Bytes m) (known : Known m h) {k : ℕ} {e : Entry} (may : MayEnter m (decode m) m h k e) where
  held : Holds (decode m) m
  held = sound-holds m bytes (sound-facts m known.soundness)

  header_is : header_of (decode m) ≡ h
  header_is = header-held m bytes (sound-facts m known.soundness) ∙ sym known.header

  -- the places behind place k, moved up
  moving : List ℕ
  moving = part m (queue_at k) (queue_size * (h.queued - k))

  moved : List ℕ
  unfolding moving
  moved = write (queue_at k + queue_size) moving m

  moving-inside : queue_at k + queue_size + length moving ≤ length m
  unfolding moving
  moving-inside =
      let r = roomy may in
      rw (length_part m (queue_at k) (queue_size * (h.queued - k)) (omega (arith, r.place, r.long))) (omega (arith, r.place, r.long))

  moved-long : length moved ≡ length m
  unfolding moved
  moved-long = length-write (queue_at k + queue_size) moving m moving-inside

  entry-inside : queue_at k + length (entry_bytes e) ≤ length moved
  entry-inside =
      let r = roomy may in
      omega (arith, moved-long, length-entry e may.entry.message.lamp, r.place, r.long)

  -- what stands in the header stays
  kept : (from : ℕ) (ys : List ℕ) → from + length ys ≤ header_size → Stands from ys m → Stands from ys (entry_inserted h.queued k e m)
  unfolding moved moving
  kept from ys behind s =
      stands-before (queue_at k) (entry_bytes e) moved entry-inside from ys (omega arith)
      (stands-before (queue_at k + queue_size) moving m moving-inside from ys (omega arith) s)

  pub entered-alone : {middle after : List ℕ} → middle ≡ entry_inserted h.queued k e m → after ≡ write 10 (bytes_of 2 (h.queued + 1)) middle
      → after ≡ encode (with_queue (take k (decode m).queue ++ (e ∷ drop k (decode m).queue)) (decode m)) m
  unfolding moved moving
  entered-alone p q =
      let r = roomy may in
      let long : length (entry_inserted h.queued k e m) ≡ length m = length-write (queue_at k) (entry_bytes e) moved entry-inside ∙ moved-long in
      let front = kept 0 (header_front h) (omega (arith, length_front h)) (subst (λ (x : Header). Stands 0 (header_front x) m) header_is held.front) in
      let back = kept 6 (header_back h) (omega (arith, length_back h)) (subst (λ (x : Header). Stands 6 (header_back x) m) header_is held.back) in
      entered-place may p
      (q ∙ rw p (sym (queued-alone h (entry_inserted h.queued k e m) (omega (arith, long, r.long)) front back (h.queued + 1))))
