-- Laws of memory between the first store of a call and its last: how it begins, what each store does to it, what is read from it,
-- and that the header written over it gives the gateway's memory.
use mathlib.Core.Path.{◌≡◌, refl, sym, ◌∙◌, ap, subst}
use Prim.Native.Nat.{ℕ, suc, ◌+◌, ◌-◌, ◌*◌, ◌≤◌, ◌<◌}
use native.Mathlib.Nat.{add-zero}
use native.Mathlib.Omega.{arith}
use mathlib.Core.Bool.{Bool}
use mathlib.Core.List.{List, [], ◌∷◌, ◌++◌, map}
use lib.ListN.{length, get_or, take, drop, length-append}
use lib.Seq.{take_at, drop_at, split_at}
use Rattle.lists.specs.Lists.{joined, All, nil, cons}
use Rattle.lists.proofs.ListLaws.{all_append, all_left, all_right, all_map}
use Rattle.buffer.specs.Slice.{Bytes, part, write}
use Rattle.buffer.proofs.Writes.{length-write, write-nil}
use Rattle.model.specs.declared.Message.{Message}
use Rattle.model.specs.declared.State.{State}
use Rattle.memory.specs.Records.{Gateway}
use Rattle.memory.specs.Layout.{header_size, queue_at, outstanding_at, size_for, outstanding_size, queue_size}
use Rattle.memory.specs.Codec.{entry_bytes, entry_of, sent_bytes, sent_of, header_front, header_back, places_at, decode, encode}
use Rattle.memory.specs.Ranges.{RangedState}
use Rattle.memory.specs.Inside.Fits.{MessageFits, EntryFits, SentFits, RoundFits, HeaderFits, GatewayFits}
use Rattle.memory.specs.declared.Header.{Header}
use Rattle.memory.specs.declared.Entry.{Entry}
use Rattle.memory.specs.declared.Sent.{Sent}
use Rattle.memory.specs.declared.Round.{Round}
use Rattle.memory.specs.declared.Phase.{Phase}
use Rattle.memory.specs.declared.Phase.TheVariants.{Idle, Counting, Stopped}
use Rattle.buffer.proofs.Standing.{Stands, write-stands, write-swap, write-covers, stands-written, stands-before, stands_after}
use Rattle.memory.proofs.Places.{length-places, length-read, read-add, read-stored}
use Rattle.memory.proofs.RoundTrips.{entry_length, entry_kept, sent-length, sent-kept}
use Rattle.memory.proofs.Holding.{length-queue, length-outstanding, encode-by}
use Rattle.memory.proofs.SoundMemory.{sound-facts, sound-holds, sound-room, sound-fits, header-held}
use Rattle.memory.proofs.Changes.{queue_written, outstanding_written, queue-over, one-sent, entry-replaced, entry_inserted, entry-removed}
use Rattle.gateway.specs.Effects.{with_queue, with_state, with_agreed, with_round, lowered_in, noted, sent_one}
use Rattle.gateway.specs.Inside.Premises.{Known}
use Rattle.memory.proofs.Places.{place_at}
use Rattle.effects.specs.Inside.Sending.{header_sent, frame_of, stored_frames}
use Rattle.effects.specs.Inside.Placed.{Placed}

-- sound memory as a call finds it
pub placed_first : (m : List ℕ) (h : Header) → Bytes m → Known m h → Placed m m h (decode m)
placed_first m h bytes k =
    let s = sound-facts m k.soundness in
    let g = decode m in
    let fits = sound-fits m bytes s in
    let room = sound-room m bytes s in
    let held = sound-holds m bytes s in
    let queue : queue_written g.queue m ≡ m = write-stands header_size (joined entry_bytes g.queue) m (rw (length-queue g fits) (omega
    (arith, room.long, room.queued))) held.queue in
    let sent : outstanding_written g.settings.q g.outstanding m ≡ m =
    write-stands (outstanding_at g.settings.q 0) (joined sent_bytes g.outstanding) m (rw (length-outstanding g fits) (omega (
      arith,
      room.long,
      room.sent,
    ))) held.outstanding
    in
    record { fits = fits; room = room; header = k.header ∙ sym (header-held m bytes s); places = sym (rw queue sent) }

-- the places that a header counts lie inside the memory
pub record Inside (memory : List ℕ) (h : Header) : Type 0 where
  pub long : size_for h.settings.q h.settings.u ≤ length memory
  pub queued : h.queued ≤ h.settings.q
  pub outstanding : h.outstanding ≤ h.settings.u
  pub q : h.settings.q < 65536
  pub u : h.settings.u < 65536

module _ {before memory : List ℕ} {h : Header} {g : Gateway} (p : Placed before memory h g) where
  -- the bytes of the queue and of what is outstanding lie in the memory, one behind the other
  queue-first : header_size + length (joined entry_bytes g.queue) ≤ outstanding_at g.settings.q 0
  queue-first = rw (length-queue g p.fits) (omega (arith, p.room.queued))

  sent-inside : outstanding_at g.settings.q 0 + length (joined sent_bytes g.outstanding) ≤ length before
  sent-inside = rw (length-outstanding g p.fits) (omega (arith, p.room.long, p.room.sent))

  queue-inside : header_size + length (joined entry_bytes g.queue) ≤ length before
  queue-inside = omega (arith, queue-first, sent-inside)

  queue_long : length (queue_written g.queue before) ≡ length before
  queue_long = length-write header_size (joined entry_bytes g.queue) before queue-inside

  -- the memory is as long as it was
  pub placed-length : length memory ≡ length before
  placed-length =
      rw p.places
      (length-write (outstanding_at g.settings.q 0) (joined sent_bytes g.outstanding) (queue_written g.queue before) (rw queue_long
      sent-inside) ∙ queue_long)

  -- what stands in it
  pub placed-outstanding : Stands (outstanding_at g.settings.q 0) (joined sent_bytes g.outstanding) memory
  placed-outstanding =
      rw p.places (stands-written (outstanding_at g.settings.q 0) (joined sent_bytes g.outstanding) (queue_written g.queue before)
      (rw queue_long sent-inside))

  pub placed-queue : Stands header_size (joined entry_bytes g.queue) memory
  placed-queue =
      rw p.places
      (stands-before (outstanding_at g.settings.q 0) (joined sent_bytes g.outstanding) (queue_written g.queue before) (rw queue_long sent-inside)
      header_size (joined entry_bytes g.queue) queue-first
      (stands-written header_size (joined entry_bytes g.queue) before queue-inside))

  -- what the header says of the memory
  pub placed-inside : Inside memory h
  placed-inside =
      rw p.header
      (record {
        long = rw placed-length p.room.long;
        queued = p.room.queued;
        outstanding = p.room.sent;
        q = p.fits.header.settings.q;
        u = p.fits.header.settings.u;
      })

  -- the frames of what is outstanding from some place on
  pub placed-frames : (old new : List Sent) → g.outstanding ≡ old ++ new → {place count : ℕ} → place ≡ outstanding_at g.settings.q (length
      old) → count ≡ length new → stored_frames memory place count ≡ map frame_of new
  placed-frames old new e {place} {count} at n =
      let from = outstanding_at g.settings.q 0 in
      let k = length old in
      let all = rw (e, length-append) at (read-stored sent_bytes sent_of outstanding_size memory from (all_map sent-kept p.fits.outstanding)
      placed-outstanding) in
      let cut = read-add sent_of outstanding_size memory from k (length new) in
      let first = places_at sent_of outstanding_size memory from k in
      let rest = places_at sent_of outstanding_size memory (from + outstanding_size * k) (length new) in
      let there : place ≡ from + outstanding_size * k = omega arith in
      rw (there, n)
      (ap (map frame_of) (sym (drop_at first rest k (length-read sent_of outstanding_size memory from k)) ∙ (ap (drop k) (sym cut ∙ all) ∙ drop_at
      old new k refl)))

  -- finishing: the header written over it
  pub placed-last : {after : List ℕ} → after ≡ write 6 (header_back h) (write 0 (header_front h) memory) → after ≡ encode g before
  placed-last e = e ∙ sym (rw (← p.header) at (encode-by g before p.fits p.room refl (sym p.places)))

-- the note stays in its range
lowered-fits : (phase : Phase) (note hour : ℕ) → note < 4294967296 → lowered_in phase note hour < 4294967296
lowered-fits Idle note hour h = h
lowered-fits Counting note hour h = omega arith
lowered-fits Stopped note hour h = h

-- one more is sent
module _ {before memory : List ℕ} {h : Header} {g : Gateway} (p : Placed before memory h g) (cancel : Bool) (m : Message) (message : MessageFits m)
    (place : h.outstanding < h.settings.u) where
  new-sent : Sent
  new-sent = record { message = m; cancel = cancel }

  fits-new : SentFits new-sent
  unfolding new-sent
  fits-new = record { message = message }

  count-sent : length (g.outstanding ++ (new-sent ∷ [])) ≡ suc (length g.outstanding)
  count-sent = length-append g.outstanding (new-sent ∷ []) ∙ omega arith

  free : length g.outstanding < g.settings.u
  free = rw p.header at place

  pub placed-sent : {memory' : List ℕ} {h' : Header}
      → memory' ≡ write (outstanding_at h.settings.q h.outstanding) (sent_bytes (record { message = m; cancel = cancel })) memory
      → h' ≡ header_sent m.hour h → Placed before memory' h' (sent_one cancel m g)
  unfolding sent_one noted new-sent
  placed-sent e d =
      let old = p.fits in
      let all : All SentFits (g.outstanding ++ (new-sent ∷ [])) = all_append old.outstanding (cons fits-new nil) in
      let q = g.settings.q in
      let long = placed-length p in
      let k = length-places sent_bytes outstanding_size (all_map sent-length old.outstanding) in
      let l = length-places sent_bytes outstanding_size (all_map sent-length all) in
      let n = count-sent in
      let under = queue_written g.queue before in
      let as_long : length under ≡ length before = queue_long p in
      let added : outstanding_written q (g.outstanding ++ (new-sent ∷ [])) memory ≡ write (outstanding_at q (length g.outstanding))
      (sent_bytes new-sent) memory =
      one-sent memory q g.outstanding new-sent old.outstanding fits-new (rw long (omega (arith, p.room.long, free))) (placed-outstanding p)
      in
      let over : outstanding_written q (g.outstanding ++ (new-sent ∷ [])) (outstanding_written q g.outstanding under) ≡ outstanding_written
      q (g.outstanding ++ (new-sent ∷ [])) under =
      write-covers (outstanding_at q 0) (joined sent_bytes (g.outstanding ++ (new-sent ∷ []))) (joined sent_bytes g.outstanding) under
      (rw (l, n, as_long) (omega (arith, p.room.long, free))) (rw (k, l, n) (omega arith))
      in
      record {
        fits = record {
          header = record {
            settings = old.header.settings;
            state = old.header.state;
            agreed = old.header.agreed;
            round = record {
              arrived = old.header.round.arrived;
              note = lowered-fits g.round.phase g.round.note m.hour
                  old.header.round.note;
            };
            queued = old.header.queued;
            outstanding = rw n (omega (arith, free, old.header.settings.u));
          };
          queue = old.queue;
          outstanding = all;
        };
        room = record { long = p.room.long; queued = p.room.queued; sent = rw n (omega (arith, free)) };
        header = d ∙ (ap (header_sent m.hour) p.header ∙ λ i. record {
          settings = g.settings;
          state = g.state;
          agreed = g.agreed;
          round = noted m.hour g.round;
          queued = length g.queue;
          outstanding = sym n i;
        });
        places = e ∙ (rw p.header (sym added) ∙ (ap (outstanding_written q (g.outstanding ++ (new-sent ∷ []))) p.places ∙ over));
      }

-- a gateway whose numbers fit, with another queue that its places hold
queue-fits : {g : Gateway} → GatewayFits g → (queue : List Entry) → All EntryFits queue → length queue ≤ g.settings.q
    → GatewayFits (with_queue queue g)
queue-fits f queue all place = record {
  header = record {
    settings = f.header.settings;
    state = f.header.state;
    agreed = f.header.agreed;
    round = f.header.round;
    queued = omega (arith, place, f.header.settings.q);
    outstanding = f.header.outstanding;
  };
  queue = all;
  outstanding = f.outstanding;
}

-- another queue that is as long or longer, written over the memory
module _ {before memory : List ℕ} {h : Header} {g : Gateway} (p : Placed before memory h g) (queue : List Entry) (all : All EntryFits queue)
    (longer : length g.queue ≤ length queue) (place : length queue ≤ g.settings.q) where
  queue-again : queue_written queue memory ≡ outstanding_written g.settings.q g.outstanding (queue_written queue before)
  queue-again =
      let at = outstanding_at g.settings.q 0 in
      let sent = joined sent_bytes g.outstanding in
      let old = queue_written g.queue before in
      let l = length-places entry_bytes queue_size (all_map entry_length all) in
      let swapped : queue_written queue (write at sent old) ≡ write at sent (queue_written queue old) =
      sym (write-swap header_size (joined entry_bytes queue) at sent old (rw l (omega arith)) (rw (queue_long p) (sent-inside p)))
      in
      ap (queue_written queue) p.places
      ∙ (swapped ∙ ap (write at sent) (queue-over before p.fits.queue all longer (omega (arith, p.room.long))))

  pub placed-queued : {memory' : List ℕ} {h' : Header} → memory' ≡ queue_written queue memory
      → h' ≡ record { settings = h.settings; state = h.state; agreed = h.agreed; round = h.round; queued = length queue; outstanding = h.outstanding }
      → Placed before memory' h' (with_queue queue g)
  placed-queued e d = record {
    fits = queue-fits p.fits queue all place;
    room = record { long = p.room.long; queued = place; sent = p.room.sent };
    header = d ∙ rw p.header;
    places = e ∙ queue-again;
  }

all-behind : {p : Entry → Type 0} (xs : List Entry) (x : Entry) (zs : List Entry) → All p (xs ++ (x ∷ zs)) → All p zs
all-behind xs x zs ps = all_right (x ∷ []) zs (all_right xs (x ∷ zs) ps)

all-at : {p : Entry → Type 0} (xs : List Entry) (x : Entry) (zs : List Entry) → All p (xs ++ (x ∷ zs)) → p x
all-at {p = p} xs x zs ps = first (all_right xs (x ∷ zs) ps)
  where
    first : All p (x ∷ zs) → p x
    first (cons h hs) = h

-- an entry of the queue is replaced by another, in its place
module _ {before memory : List ℕ} {h : Header} {g : Gateway} (p : Placed before memory h g) (xs : List Entry) (x : Entry) (zs : List Entry)
    (e : g.queue ≡ xs ++ (x ∷ zs)) (y : Entry) (new : EntryFits y) {k : ℕ} (at : k ≡ length xs) where
  same_count : length (xs ++ (y ∷ zs)) ≡ length g.queue
  same_count = length-append xs (y ∷ zs) ∙ (sym (length-append xs (x ∷ zs)) ∙ sym (ap length e))

  pub placed-replaced : {memory' : List ℕ} → memory' ≡ write (queue_at k) (entry_bytes y) memory → Placed before memory' h (with_queue (xs ++ (y ∷ zs)) g)
  placed-replaced w =
      let fits : All EntryFits (xs ++ (x ∷ zs)) = rw (← e) p.fits.queue in
      let all : All EntryFits (xs ++ (y ∷ zs)) = all_append (all_left xs (x ∷ zs) fits) (cons new (all-behind xs x zs fits)) in
      let inside : queue_at (length xs + 1 + length zs) ≤ length memory =
      rw (placed-length p) (omega (arith, p.room.long, p.room.queued, ap length e, length-append xs (x ∷ zs)))
      in
      let stored : queue_written (xs ++ (y ∷ zs)) memory ≡ write (queue_at (length xs)) (entry_bytes y) memory =
      entry-replaced memory xs x zs fits inside y new (rw (← e) (placed-queue p))
      in
      placed-queued p (xs ++ (y ∷ zs)) all (omega (arith, same_count)) (omega (arith, same_count, p.room.queued))
      (w ∙ (rw at (sym stored)))
      (λ i. record {
        settings = h.settings;
        state = h.state;
        agreed = h.agreed;
        round = h.round;
        queued = (ap (λ (k : Header).
            k.queued) p.header ∙ sym same_count) i;
        outstanding = h.outstanding;
      })

-- an entry is put into the queue, those from its place on moved up
module _ {before memory : List ℕ} {h : Header} {g : Gateway} (p : Placed before memory h g) (xs zs : List Entry)
    (e : g.queue ≡ xs ++ zs) (x : Entry) (new : EntryFits x) (place : h.queued < h.settings.q) {k : ℕ} (at : k ≡ length xs) where
  one_more : length (xs ++ (x ∷ zs)) ≡ h.queued + 1
  one_more = length-append xs (x ∷ zs) ∙ omega (arith, ap length e, length-append xs zs, ap (λ (k : Header). k.queued) p.header)

  queued-is : h.queued ≡ length g.queue
  queued-is = ap (λ (k : Header). k.queued) p.header

  places_is : h.settings.q ≡ g.settings.q
  places_is = ap (λ (k : Header). k.settings.q) p.header

  pub placed-inserted : {memory' : List ℕ} {h' : Header}
      → memory' ≡ write (queue_at k) (entry_bytes x) (write (queue_at k + queue_size) (part memory (queue_at k) (queue_size * (h.queued - k))) memory)
      → h' ≡ record { settings = h.settings; state = h.state; agreed = h.agreed; round = h.round; queued = h.queued + 1; outstanding = h.outstanding }
      → Placed before memory' h' (with_queue (xs ++ (x ∷ zs)) g)
  placed-inserted w d =
      let fits : All EntryFits (xs ++ zs) = rw (← e) p.fits.queue in
      let all : All EntryFits (xs ++ (x ∷ zs)) = all_append (all_left xs zs fits) (cons new (all_right xs zs fits)) in
      let n = one_more in
      let m = length-append xs zs in
      let inside : queue_at (length xs + 1 + length zs) ≤ length memory =
      rw (placed-length p) (omega (arith, p.room.long, place, places_is, queued-is, ap length e, m))
      in
      let next : queue_at (length xs + 1) ≡ queue_at k + queue_size = rw at (omega arith) in
      let rest : length zs ≡ h.queued - k = rw at (omega (arith, queued-is, ap length e, m)) in
      let stored = rw (next, rest, ← at) at (entry_inserted memory xs x zs all inside (rw (← e) (placed-queue p))) in
      placed-queued p (xs ++ (x ∷ zs)) all (omega (arith, n, queued-is)) (omega (arith, n, place, places_is)) (w ∙ sym stored) (rw n d)

-- reading: the places hold the queue and what is outstanding
module _ {before memory : List ℕ} {h : Header} {g : Gateway} (p : Placed before memory h g) where
  pub placed-entries : places_at entry_of queue_size memory header_size h.queued ≡ g.queue
  placed-entries = rw p.header (read-stored entry_bytes entry_of queue_size memory header_size (all_map entry_kept p.fits.queue) (placed-queue p))

  pub placed-sent-places : places_at sent_of outstanding_size memory (queue_at h.settings.q) h.outstanding ≡ g.outstanding
  placed-sent-places =
      rw p.header
      (rw add-zero at (read-stored sent_bytes sent_of outstanding_size memory (outstanding_at g.settings.q 0) (all_map sent-kept p.fits.outstanding)
      (placed-outstanding p)))

  pub placed-count : length g.queue ≡ h.queued
  placed-count = rw p.header

  -- the places before place k, and those from it on
  module _ (k : ℕ) (below : k ≤ h.queued) where
    in_two : places_at entry_of queue_size memory header_size k ++ places_at entry_of queue_size memory (queue_at k) (h.queued - k) ≡ g.queue
    in_two =
        let e : k + (h.queued - k) ≡ h.queued = omega arith in
        sym (read-add entry_of queue_size memory header_size k (h.queued - k)) ∙ rw e placed-entries

    pub placed-front : places_at entry_of queue_size memory header_size k ≡ take k g.queue
    placed-front = rw (← in_two) (sym (take_at (places_at entry_of queue_size memory header_size k) (places_at entry_of queue_size memory (queue_at k) (h.queued -
        k)) k (length-read entry_of queue_size memory header_size k)))

    pub placed-rest : places_at entry_of queue_size memory (queue_at k) (h.queued - k) ≡ drop k g.queue
    placed-rest = rw (← in_two) (sym (drop_at (places_at entry_of queue_size memory header_size k) (places_at entry_of queue_size memory (queue_at k) (h.queued - k))
        k (length-read entry_of queue_size memory header_size k)))

  -- the entry in place k
  module _ (k : ℕ) (below : k < h.queued) where
    pub placed-entry : (d : Entry) → entry_of (part memory (queue_at k) queue_size) ≡ get_or g.queue k d
    placed-entry d = rw (← placed-entries) (sym (place_at entry_of queue_size memory header_size h.queued k d below))

    pub placed-split : {x : Entry} → x ≡ entry_of (part memory (queue_at k) queue_size) → g.queue ≡ take k g.queue ++ (x ∷ drop (suc k) g.queue)
    placed-split {x} e = rw (e, placed-entry x) (split_at g.queue k x (rw placed-count below))

    pub placed-fits : {x : Entry} → x ≡ entry_of (part memory (queue_at k) queue_size) → EntryFits x
    placed-fits {x} e = all-at (take k g.queue) x (drop (suc k) g.queue) (subst (λ (l : List Entry). All EntryFits l) (placed-split e) p.fits.queue)

-- an entry is taken out of the memory as the call found it, those behind it moved down
module _ {m : List ℕ} {h : Header} {g : Gateway} (p : Placed m m h g) (xs : List Entry) (x : Entry) (zs : List Entry)
    (e : g.queue ≡ xs ++ (x ∷ zs)) {k : ℕ} (at : k ≡ length xs) where
  pub placed-removed : {memory' : List ℕ} {h' : Header}
      → memory' ≡ write (queue_at k) (part m (queue_at k + queue_size) (queue_size * (h.queued - k - 1))) m
      → h' ≡ record { settings = h.settings; state = h.state; agreed = h.agreed; round = h.round; queued = h.queued - 1; outstanding = h.outstanding }
      → Placed m memory' h' (with_queue (xs ++ zs) g)
  placed-removed w d =
      let old : All EntryFits (xs ++ (x ∷ zs)) = rw (← e) p.fits.queue in
      let all : All EntryFits (xs ++ zs) = all_append (all_left xs (x ∷ zs) old) (all-behind xs x zs old) in
      let n : length g.queue ≡ length xs + suc (length zs) = ap length e ∙ length-append xs (x ∷ zs) in
      let c : length g.queue ≡ h.queued = placed-count p in
      let fewer : length (xs ++ zs) ≡ h.queued - 1 = length-append xs zs ∙ omega arith in
      let inside : queue_at (length xs + 1 + length zs) ≤ length m = omega (arith, p.room.long, p.room.queued) in
      let next : queue_at (length xs + 1) ≡ queue_at k + queue_size = rw at (omega arith) in
      let rest : length zs ≡ h.queued - k - 1 = omega arith in
      let stored = rw (next, rest, ← at) at (entry-removed m xs x zs old inside (rw (← e) (placed-queue p))) in
      let l = length-places entry_bytes queue_size (all_map entry_length all) in
      let q = g.settings.q in
      let room : length (xs ++ zs) ≤ q = omega (arith, fewer, p.room.queued) in
      let fit : header_size + length (joined entry_bytes (xs ++ zs)) ≤ outstanding_at q 0 = rw l (omega arith) in
      let sent = joined sent_bytes g.outstanding in
      let still : Stands (outstanding_at q 0) sent (queue_written (xs ++ zs) m) =
      stands_after header_size (joined entry_bytes (xs ++ zs)) m (omega (arith, fit, p.room.long)) (outstanding_at q 0) sent fit (placed-outstanding p)
      in
      let long : length (queue_written (xs ++ zs) m) ≡ length m = length-write header_size (joined entry_bytes (xs ++ zs)) m (omega (arith, fit, p.room.long)) in
      record {
        fits = queue-fits p.fits (xs ++ zs) all room;
        room = record { long = p.room.long; queued = room; sent = p.room.sent };
        header = d ∙ rw (← fewer, p.header);
        places = w ∙ (sym stored ∙ sym (write-stands (outstanding_at q 0) sent (queue_written (xs ++ zs) m) (rw long (sent-inside p)) still));
      }

-- nothing queued and nothing outstanding
pub placed-none : (m : List ℕ) (h : Header) → HeaderFits h → h.queued ≡ 0 → h.outstanding ≡ 0 → size_for h.settings.q h.settings.u ≤ length m
    → Placed m m h (record { settings = h.settings; state = h.state; agreed = h.agreed; round = h.round; queue = []; outstanding = [] })
unfolding joined
placed-none m h fits none sent long = record {
  fits = record {
    header = record {
      settings = fits.settings;
      state = fits.state;
      agreed = fits.agreed;
      round = fits.round;
      queued = omega arith;
      outstanding = omega arith;
    };
    queue = nil;
    outstanding = nil;
  };
  room = record { long = long; queued = omega arith; sent = omega arith };
  header = λ i. record { settings = h.settings; state = h.state; agreed = h.agreed; round = h.round; queued = none i; outstanding = sent i };
  places = sym (rw (write-nil header_size m) (write-nil (outstanding_at h.settings.q 0) m));
}

-- only the header changes: its state, its agreed time or its round
module _ {before memory : List ℕ} {h : Header} {g : Gateway} (p : Placed before memory h g) where
  placed-header : {h' : Header} {s : State} {t : ℕ} {r : Round} → RangedState s → t < 4294967296 → RoundFits r
      → h' ≡ record { settings = g.settings; state = s; agreed = t; round = r; queued = length g.queue; outstanding = length g.outstanding }
      → Placed before memory h' (record { settings = g.settings; state = s; agreed = t; round = r; queue = g.queue; outstanding = g.outstanding })
  placed-header a b c d = record {
    fits = record {
      header = record {
        settings = p.fits.header.settings;
        state = a;
        agreed = b;
        round = c;
        queued = p.fits.header.queued;
        outstanding = p.fits.header.outstanding;
      };
      queue = p.fits.queue;
      outstanding = p.fits.outstanding;
    };
    room = record { long = p.room.long; queued = p.room.queued; sent = p.room.sent };
    header = d;
    places = p.places;
  }

  pub placed-state : {s : State} {h' : Header} → RangedState s
      → h' ≡ record { settings = h.settings; state = s; agreed = h.agreed; round = h.round; queued = h.queued; outstanding = h.outstanding }
      → Placed before memory h' (with_state s g)
  placed-state a d = placed-header a p.fits.header.agreed p.fits.header.round (d ∙ rw p.header)

  pub placed-round : {r : Round} {h' : Header} → RoundFits r
      → h' ≡ record { settings = h.settings; state = h.state; agreed = h.agreed; round = r; queued = h.queued; outstanding = h.outstanding }
      → Placed before memory h' (with_round r g)
  placed-round c d = placed-header p.fits.header.state p.fits.header.agreed c (d ∙ rw p.header)

  pub placed-agreed : {t : ℕ} {h' : Header} → t < 4294967296
      → h' ≡ record { settings = h.settings; state = h.state; agreed = t; round = h.round; queued = h.queued; outstanding = h.outstanding }
      → Placed before memory h' (with_agreed t g)
  placed-agreed b d = placed-header p.fits.header.state b p.fits.header.round (d ∙ rw p.header)
