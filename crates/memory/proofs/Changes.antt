-- A gateway that changes a little, written over memory that holds it: only the header and the places that change are written.
use mathlib.Core.Path.{◌≡◌}
use Prim.Native.Nat.{ℕ, ◌+◌, ◌*◌, ◌≤◌}
use native.Mathlib.Omega.{arith}
use mathlib.Core.List.{List, [], ◌∷◌, ◌++◌}
use lib.ListN.{length}
use Rattle.lists.specs.Lists.{joined, All}
use Rattle.lists.proofs.ListLaws.{all_map}
use Rattle.buffer.specs.Slice.{part, write}
use Rattle.buffer.proofs.Writes.{length-write}
use Rattle.memory.specs.Records.{Gateway, header_of}
use Rattle.memory.specs.Layout.{header_size, queue_at, outstanding_at, outstanding_size, queue_size}
use Rattle.memory.specs.Codec.{entry_bytes, sent_bytes, header_front, header_back, encode}
use Rattle.memory.specs.declared.Entry.{Entry}
use Rattle.memory.specs.declared.Sent.{Sent}
use Rattle.memory.specs.Inside.Fits.{EntryFits, SentFits, GatewayFits, Room}
use Rattle.buffer.proofs.Standing.{Stands, write-stands, write-covers, stands_after}
use Rattle.memory.proofs.FourWrites.{headed}
use Rattle.memory.proofs.Places.{length-places, append_places, append-place, replace-place, remove-place, insert-place}
use Rattle.memory.proofs.RoundTrips.{entry_length, sent-length}
use Rattle.memory.proofs.Holding.{Holds, length-queue, length-outstanding, encode-by}

-- the bytes of the queue and of what is outstanding, written where they belong
abbrev pub queue_written : List Entry → List ℕ → List ℕ
queue_written es m = write header_size (joined entry_bytes es) m

abbrev pub outstanding_written : ℕ → List Sent → List ℕ → List ℕ
outstanding_written q ss m = write (outstanding_at q 0) (joined sent_bytes ss) m

-- what the header of h adds
abbrev pub with_header : Gateway → List ℕ → List ℕ
with_header h m = headed (header_front (header_of h)) (header_back (header_of h)) m

-- a queue written over another that is not longer
module _ (m : List ℕ) {old new : List Entry} (fits-old : All EntryFits old) (fits-new : All EntryFits new) where
  pub queue-over : length old ≤ length new → queue_at (length new) ≤ length m → queue_written new (queue_written old m) ≡ queue_written new m
  queue-over h inside =
      let k = length-places entry_bytes queue_size (all_map entry_length fits-old) in
      let l = length-places entry_bytes queue_size (all_map entry_length fits-new) in
      write-covers header_size (joined entry_bytes new) (joined entry_bytes old) m (rw l inside) (rw (k, l) (omega arith))

-- a queue of which the first entries stand already
pub queue-from : (m : List ℕ) (xs zs : List Entry) → All EntryFits xs → All EntryFits zs → queue_at (length xs + length zs) ≤ length m
    → Stands header_size (joined entry_bytes xs) m → queue_written (xs ++ zs) m ≡ write (queue_at (length xs)) (joined entry_bytes zs) m
queue-from m xs zs p q inside stand = append_places entry_bytes queue_size header_size m xs zs (all_map entry_length p) (all_map entry_length q) inside stand

-- one queue place is replaced, taken out, or put in
module _ (m : List ℕ) (xs : List Entry) (x : Entry) (zs : List Entry) (fits : All EntryFits (xs ++ (x ∷ zs))) (inside : queue_at (length xs +
    1 + length zs) ≤ length m) where
  pub entry-replaced : (y : Entry) → EntryFits y → Stands header_size (joined entry_bytes (xs ++ (x ∷ zs))) m
      → queue_written (xs ++ (y ∷ zs)) m ≡ write (queue_at (length xs)) (entry_bytes y) m
  entry-replaced y p stand = replace-place entry_bytes queue_size header_size m xs x zs inside y (all_map entry_length fits) (entry_length y p) stand

  pub entry-removed : Stands header_size (joined entry_bytes (xs ++ (x ∷ zs))) m
      → queue_written (xs ++ zs) m ≡ write (queue_at (length xs)) (part m (queue_at (length xs + 1)) (queue_size * length zs)) m
  entry-removed stand = remove-place entry_bytes queue_size header_size m xs x zs inside (all_map entry_length fits) stand

  pub entry_inserted : Stands header_size (joined entry_bytes (xs ++ zs)) m
      → queue_written (xs ++ (x ∷ zs)) m ≡ write (queue_at (length xs)) (entry_bytes x) (write (queue_at (length xs + 1)) (part m (queue_at
      (length xs)) (queue_size * length zs)) m)
  entry_inserted stand = insert-place entry_bytes queue_size header_size m xs x zs inside (all_map entry_length fits) stand

-- some more are outstanding
module _ (m : List ℕ) (q : ℕ) where
  sent-place : (k : ℕ) → outstanding_at q 0 + outstanding_size * k ≡ outstanding_at q k
  sent-place k = omega arith

  pub sent-appended : (xs zs : List Sent) → All SentFits xs → All SentFits zs → outstanding_at q (length xs + length zs) ≤ length m
      → Stands (outstanding_at q 0) (joined sent_bytes xs) m → outstanding_written q (xs ++ zs) m ≡ write (outstanding_at q (length xs)) (joined sent_bytes zs) m
  sent-appended xs zs p r inside stand =
      rw (sent-place (length xs)) at
      (append_places sent_bytes outstanding_size (outstanding_at q 0) m xs zs (all_map sent-length p) (all_map sent-length r) (rw (sent-place (length xs +
      length zs)) inside) stand)

  pub one-sent : (xs : List Sent) (x : Sent) → All SentFits xs → SentFits x → outstanding_at q (length xs + 1) ≤ length m
      → Stands (outstanding_at q 0) (joined sent_bytes xs) m → outstanding_written q (xs ++ (x ∷ [])) m ≡ write (outstanding_at q (length xs)) (sent_bytes x) m
  one-sent xs x p r inside stand =
      rw (sent-place (length xs)) at
      (append-place sent_bytes outstanding_size (outstanding_at q 0) m xs x (all_map sent-length p) (sent-length x r) (rw (sent-place (length
      xs + 1)) inside) stand)

  -- one is not outstanding any more
  pub sent-removed : (xs : List Sent) (x : Sent) (zs : List Sent) → All SentFits (xs ++ (x ∷ zs)) → outstanding_at q (length xs + 1 + length zs) ≤ length m
      → Stands (outstanding_at q 0) (joined sent_bytes (xs ++ (x ∷ zs))) m
      → outstanding_written q (xs ++ zs) m ≡ write (outstanding_at q (length xs)) (part m (outstanding_at q (length xs + 1)) (outstanding_size * length zs)) m
  sent-removed xs x zs p inside stand =
      rw (sent-place (length xs), sent-place (length xs + 1)) at
      (remove-place sent_bytes outstanding_size (outstanding_at q 0) m xs x zs (rw (sent-place (length xs + 1 + length zs)) inside) (all_map sent-length p) stand)

-- memory holds g, and h, with as many queue places, is written over it
module _ (g h : Gateway) (m : List ℕ) (fits : GatewayFits h) (room : Room h m) (held : Holds g m) (same : h.settings.q ≡ g.settings.q) where
  queue-before : header_size + length (joined entry_bytes h.queue) ≤ outstanding_at h.settings.q 0
  queue-before = rw (length-queue h fits) (omega (arith, room.queued))

  sent-inside : outstanding_at h.settings.q 0 + length (joined sent_bytes h.outstanding) ≤ length m
  sent-inside = rw (length-outstanding h fits) (omega (arith, room.sent, room.long))

  queue-inside : header_size + length (joined entry_bytes h.queue) ≤ length m
  queue-inside = omega (arith, queue-before, sent-inside)

  pub queue-as-long : length (queue_written h.queue m) ≡ length m
  queue-as-long = length-write header_size (joined entry_bytes h.queue) m queue-inside

  -- a queue that stays
  pub queue-stays : h.queue ≡ g.queue → queue_written h.queue m ≡ m
  queue-stays e = write-stands header_size (joined entry_bytes h.queue) m queue-inside (rw e held.queue)

  -- what is outstanding stands behind the new queue as it did, and may stay
  pub outstanding-still : Stands (outstanding_at h.settings.q 0) (joined sent_bytes g.outstanding) (queue_written h.queue m)
  outstanding-still =
      stands_after header_size (joined entry_bytes h.queue) m queue-inside (outstanding_at h.settings.q 0) (joined sent_bytes g.outstanding) queue-before
      (rw same held.outstanding)

  pub outstanding-stays : h.outstanding ≡ g.outstanding → outstanding_written h.settings.q h.outstanding (queue_written h.queue m)
      ≡ queue_written h.queue m
  outstanding-stays e =
      write-stands (outstanding_at h.settings.q 0) (joined sent_bytes h.outstanding) (queue_written h.queue m) (rw queue-as-long
      sent-inside) (rw e outstanding-still)

  -- the header is written last: over the memory with the new queue and what is outstanding now
  pub both-changed : {a b : List ℕ} → queue_written h.queue m ≡ a → outstanding_written h.settings.q h.outstanding a ≡ b → encode h m ≡ with_header h b
  both-changed p q = encode-by h m fits room p q

  pub queue-changed : {a : List ℕ} → h.outstanding ≡ g.outstanding → queue_written h.queue m ≡ a → encode h m ≡ with_header h a
  queue-changed d p = both-changed p (rw p at (outstanding-stays d))

  pub outstanding-changed : {a : List ℕ} → h.queue ≡ g.queue → outstanding_written h.settings.q h.outstanding m ≡ a → encode h m ≡ with_header h a
  outstanding-changed e p = both-changed (queue-stays e) p

  pub header-changed : h.queue ≡ g.queue → h.outstanding ≡ g.outstanding → encode h m ≡ with_header h m
  header-changed e d = outstanding-changed e (rw (queue-stays e) at (outstanding-stays d))
