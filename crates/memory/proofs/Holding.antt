-- Memory that holds a gateway: its bytes stand in it. Writing the gateway makes it so, and reading gives the gateway.
use mathlib.Core.Path.{◌≡◌, ◌∙◌, ap}
use Prim.Native.Nat.{ℕ, ◌*◌}
use native.Mathlib.Omega.{arith}
use mathlib.Core.List.{List}
use lib.Dec.{lit≤}
use lib.ListN.{length}
use Rattle.lists.specs.Lists.{joined, All}
use Rattle.lists.proofs.ListLaws.{all_map}
use Rattle.buffer.specs.Slice.{part, write}
use Rattle.memory.specs.Records.{Gateway, header_of}
use Rattle.memory.specs.Layout.{header_size, outstanding_at, outstanding_size, queue_size}
use Rattle.memory.specs.Claims.{Untouched}
use Rattle.memory.specs.Codec.{entry_bytes, entry_of, sent_bytes, sent_of, header_at, header_front, header_back, places_at, decode, encode}
use Rattle.buffer.proofs.Standing.{Stands}
use Rattle.memory.proofs.FourWrites.{headed, FourWrites, four-writes}
use Rattle.memory.proofs.Places.{Sized, length-places, read-stored}
use Rattle.memory.specs.Inside.Fits.{GatewayFits, Room}
use Rattle.memory.proofs.RoundTrips.{length_front, length_back, entry_length, sent-length, entry_kept, sent-kept, header-back}

-- the gateway's bytes stand in the memory
pub record Holds (g : Gateway) (m : List ℕ) : Type 0 where
  pub front : Stands 0 (header_front (header_of g)) m
  pub back : Stands 6 (header_back (header_of g)) m
  pub queue : Stands header_size (joined entry_bytes g.queue) m
  pub outstanding : Stands (outstanding_at g.settings.q 0) (joined sent_bytes g.outstanding) m

module _ (g : Gateway) (r : GatewayFits g) where
  -- how long the gateway's bytes are
  pub queue-sized : All (Sized entry_bytes queue_size) g.queue
  queue-sized = all_map entry_length r.queue

  pub outstanding-sized : All (Sized sent_bytes outstanding_size) g.outstanding
  outstanding-sized = all_map sent-length r.outstanding

  pub length-queue : length (joined entry_bytes g.queue) ≡ queue_size * length g.queue
  length-queue = length-places entry_bytes queue_size queue-sized

  pub length-outstanding : length (joined sent_bytes g.outstanding) ≡ outstanding_size * length g.outstanding
  length-outstanding = length-places sent_bytes outstanding_size outstanding-sized

module _ (g : Gateway) (m : List ℕ) (r : GatewayFits g) (room : Room g m) where
  -- reading memory that holds the gateway
  pub holds-header : Holds g m → header_at m ≡ header_of g
  holds-header s =
      header-back (header_of g) r.header m (rw (length_front (header_of g)) at s.front) (rw (length_back (header_of g)) at s.back)

  pub holds-decode : Holds g m → decode m ≡ g
  unfolding decode
  holds-decode s =
      let h = holds-header s in
      let queue : places_at entry_of queue_size m header_size (header_at m).queued ≡ g.queue =
      ap (λ k. places_at entry_of queue_size m header_size k.queued) h ∙ read-stored entry_bytes entry_of queue_size m header_size (all_map
      entry_kept r.queue) s.queue
      in
      let outstanding : places_at sent_of outstanding_size m (outstanding_at (header_at m).settings.q 0) (header_at m).outstanding ≡ g.outstanding =
      ap (λ k. places_at sent_of outstanding_size m (outstanding_at k.settings.q 0) k.outstanding) h
      ∙ read-stored sent_bytes sent_of outstanding_size m (outstanding_at g.settings.q 0) (all_map sent-kept r.outstanding) s.outstanding
      in
      λ i. record {
        settings = (h i).settings;
        state = (h i).state;
        agreed = (h i).agreed;
        round = (h i).round;
        queue = queue i;
        outstanding = outstanding i;
      }

-- writing the gateway
module _ (g : Gateway) (m : List ℕ) (r : GatewayFits g) (room : Room g m) where
  pub writes : FourWrites (header_front (header_of g)) (header_back (header_of g)) (joined entry_bytes g.queue) (outstanding_at
      g.settings.q 0) (joined sent_bytes g.outstanding) m
  writes =
      four-writes (header_front (header_of g)) (header_back (header_of g)) (joined entry_bytes g.queue) (joined sent_bytes g.outstanding) m
      (outstanding_at g.settings.q 0)
      (rw (length_front (header_of g)) (lit≤ tt))
      (rw (length_back (header_of g)) (lit≤ tt))
      (rw (length-queue g r) (omega (arith, room.queued)))
      (rw (length-outstanding g r) (omega (arith, room.long, room.sent)))

  pub encode-length : length (encode g m) ≡ length m
  unfolding encode
  encode-length = writes.as_long

  pub encode-holds : Holds g (encode g m)
  unfolding encode
  encode-holds = record { front = writes.front-stands; back = writes.back-stands; queue = writes.queue-stands; outstanding = writes.sent-stands }

  pub encode-elsewhere : (from n : ℕ) → Untouched g from n → part (encode g m) from n ≡ part m from n
  unfolding encode
  encode-elsewhere from n u =
      writes.elsewhere from n
      (rw (length_front (header_of g)) u.front)
      (rw (length_back (header_of g)) u.back)
      (rw (length-queue g r) u.queue)
      (rw (length-outstanding g r) u.outstanding)

  -- writing over memory that holds the gateway changes nothing
  pub encode_same : Holds g m → encode g m ≡ m
  unfolding encode
  encode_same s = writes.unchanged s.front s.back s.queue s.outstanding

  -- the header may be written last, over what is written behind it
  pub encode-by : {a b : List ℕ} → write header_size (joined entry_bytes g.queue) m ≡ a → write (outstanding_at g.settings.q 0) (joined
      sent_bytes g.outstanding) a ≡ b
      → encode g m ≡ headed (header_front (header_of g)) (header_back (header_of g)) b
  unfolding encode
  encode-by p q = writes.header-last ∙ rw (p, q)

  pub encode-room : Room g (encode g m)
  encode-room = record { long = rw encode-length room.long; queued = room.queued; sent = room.sent }

-- what is written is read again
pub decode-encode : (g : Gateway) (m : List ℕ) → GatewayFits g → Room g m → decode (encode g m) ≡ g
decode-encode g m r room = holds-decode g (encode g m) r (encode-room g m r room) (encode-holds g m r room)
