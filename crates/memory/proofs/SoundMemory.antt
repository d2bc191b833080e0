-- Soundness as facts, and the laws of the codec: sound memory holds a valid gateway, and a valid gateway makes sound memory.
use mathlib.Core.Path.{◌≡◌, sym}
use Prim.Native.Nat.{ℕ, ◌+◌, ◌*◌, ◌≤◌}
use native.Mathlib.Omega.{arith}
use mathlib.Core.Bool.{Bool, true}
use mathlib.Core.List.{List}
use lib.ListN.{length, get_or}
use borrow.Author.Tests.{leb-true, le-leb}
use Rattle.lists.specs.Lists.{every, All}
use Rattle.lists.proofs.ListLaws.{all_of, all-each, all_map}
use Rattle.buffer.specs.Slice.{Bytes}
use Rattle.memory.specs.Records.{Gateway, header_of}
use Rattle.memory.specs.Ranges.{Ranged}
use Rattle.memory.specs.Layout.{header_size, outstanding_at, size_for, outstanding_size, queue_size, queue_at}
use Rattle.memory.specs.Codec.{phase_number, entry_bytes, entry_of, sent_bytes, sent_of, header_at, places_at, decode, encode}
use Rattle.memory.specs.Validity.{settings_valid, valid}
use Rattle.buffer.proofs.Equality.{same_bytes_lem, bytes_same}
use Rattle.memory.specs.Soundness.{entry_exact, sent_exact, sound}
use Rattle.memory.specs.Claims.{after, WritingLaws, ReadingLaws, CodecLaws}
use Rattle.memory.specs.declared.Phase.{Phase}
use Rattle.memory.specs.declared.Phase.TheVariants.{Idle, Counting, Stopped}
use Rattle.memory.specs.Inside.Fits.{GatewayFits, Room}
use Rattle.memory.proofs.Validated.{Valid, valid-facts, facts-settings, every-each, each-every}
use Rattle.lists.proofs.BoolLaws.{and_left, and_right}
use Rattle.buffer.proofs.Standing.{stands-part}
use Rattle.memory.proofs.Places.{Exact, length-read, stored_exact, exact-stands}
use Rattle.memory.proofs.Fitting.{valid-fits, fits-ranged}
use Rattle.memory.proofs.RoundTrips.{length_front, length_back, entry_kept, sent-kept, phase-byte}
use Rattle.memory.proofs.FromBytes.{entry-fits, sent-fits, header-fits, read_all, front-again, back-again}
use Rattle.memory.proofs.StillBytes.{encode-bytes}
use Rattle.memory.proofs.Holding.{Holds, holds-header, holds-decode, encode-length, encode-holds, encode-elsewhere, encode_same}
use Rattle.memory.proofs.Holding.{encode-room, decode-encode}

-- a test passed by every element
module _ {A : Type 0} (f : A → Bool) {p : A → Type 0} (xs : List A) where
  every-all : ((x : A) → f x ≡ true → p x) → every f xs ≡ true → All p xs
  every-all h e = all_of xs (λ x m. h x (every-each f xs e x m))

  all-every : ((x : A) → p x → f x ≡ true) → All p xs → every f xs ≡ true
  all-every h ps = each-every f xs (λ x m. h x (all-each ps x m))

-- sound memory, as facts
pub record Sound (m : List ℕ) : Type 0 where
  pub header : header_size ≤ length m
  pub settings : settings_valid (header_at m).settings ≡ true
  pub long : size_for (header_at m).settings.q (header_at m).settings.u ≤ length m
  pub phase : get_or m 3 0 ≤ 2
  pub queued : (header_at m).queued ≤ (header_at m).settings.q
  pub sent : (header_at m).outstanding ≤ (header_at m).settings.u
  pub queue : All (Exact entry_bytes entry_of queue_size) (places_at (λ b. b) queue_size m header_size (header_at m).queued)
  pub outstanding : All (Exact sent_bytes sent_of outstanding_size) (places_at (λ b. b) outstanding_size m (outstanding_at (header_at
      m).settings.q 0) (header_at m).outstanding)
  pub held : valid (decode m) ≡ true

module _ (m : List ℕ) where
  pub sound-facts : sound m ≡ true → Sound m
  unfolding sound decode
  sound-facts e =
      let held : valid (decode m) ≡ true = search (and_left, and_right) depth 9 in
      let v = valid-facts (decode m) held in
      record {
        header = leb-true header_size (length m) (search (and_left, and_right) depth 9);
        settings = facts-settings (header_at m).settings v.settings;
        long = leb-true (size_for (header_at m).settings.q (header_at m).settings.u) (length m) (search (and_left, and_right) depth 9);
        phase = leb-true (get_or m 3 0) 2 (search (and_left, and_right) depth 9);
        queued = rw (length-read entry_of queue_size m header_size (header_at m).queued) at v.queued;
        sent = rw (length-read sent_of outstanding_size m (outstanding_at (header_at m).settings.q 0) (header_at m).outstanding) at v.sent;
        queue = every-all entry_exact (places_at (λ b. b) queue_size m header_size (header_at m).queued) (λ b h. same_bytes_lem (entry_bytes (entry_of b)) b
            h) (search (and_left, and_right) depth 9);
        outstanding = every-all sent_exact (places_at (λ b. b) outstanding_size m (outstanding_at (header_at m).settings.q 0) (header_at m).outstanding) (λ
            b h. same_bytes_lem (sent_bytes (sent_of b)) b h) (search (and_left, and_right) depth 9);
        held = held;
      }

  pub facts-sound : Sound m → sound m ≡ true
  unfolding sound
  facts-sound s =
      let queue : every entry_exact (places_at (λ b. b) queue_size m header_size (header_at m).queued) ≡ true = all-every entry_exact (places_at (λ b. b)
      queue_size m header_size (header_at m).queued) (λ b h. rw h (bytes_same b)) s.queue in
      let sent : every sent_exact (places_at (λ b. b) outstanding_size m (outstanding_at (header_at m).settings.q 0) (header_at m).outstanding) ≡ true =
      all-every sent_exact (places_at (λ b. b) outstanding_size m (outstanding_at (header_at m).settings.q 0) (header_at m).outstanding) (λ b h. rw h
      (bytes_same b)) s.outstanding in
      rw (
        le-leb header_size (length m) s.header,
        le-leb (size_for (header_at m).settings.q (header_at m).settings.u) (length m)
            s.long,
        le-leb (get_or m 3 0) 2 s.phase,
        queue,
        sent,
      ) s.held

-- memory holds the gateway that it is read as
module _ (m : List ℕ) (bytes : Bytes m) (s : Sound m) where
  pub header-held : header_of (decode m) ≡ header_at m
  unfolding decode
  header-held = λ i. record {
    settings = (header_at m).settings;
    state = (header_at m).state;
    agreed = (header_at m).agreed;
    round = (header_at m).round;
    queued = length-read entry_of queue_size m header_size (header_at m).queued i;
    outstanding = length-read sent_of outstanding_size m (outstanding_at (header_at m).settings.q 0) (header_at m).outstanding i;
  }

  queue-inside : queue_at (header_at m).queued ≤ length m
  queue-inside = omega (arith, s.long, s.queued)

  sent-inside : outstanding_at (header_at m).settings.q 0 + outstanding_size * (header_at m).outstanding ≤ length m
  sent-inside = omega (arith, s.long, s.sent)

  pub sound-holds : Holds (decode m) m
  unfolding decode
  sound-holds = record {
    front = rw (header-held, length_front (header_at m)) (sym (front-again m bytes (omega (arith, s.header)) s.phase));
    back = rw (header-held, length_back (header_at m)) (sym (back-again m bytes (omega (arith, s.header))));
    queue = stands-part header_size (queue_size * (header_at m).queued) m queue-inside (exact-stands entry_bytes entry_of queue_size m header_size
        (header_at m).queued s.queue);
    outstanding = stands-part (outstanding_at (header_at m).settings.q 0) (outstanding_size * (header_at m).outstanding) m sent-inside
        (exact-stands sent_bytes sent_of outstanding_size m (outstanding_at (header_at m).settings.q 0) (header_at m).outstanding s.outstanding);
  }

  pub sound-room : Room (decode m) m
  unfolding decode
  sound-room = record {
    long = s.long;
    queued = rw (length-read entry_of queue_size m header_size (header_at m).queued) s.queued;
    sent = rw (length-read sent_of outstanding_size m (outstanding_at (header_at m).settings.q 0) (header_at m).outstanding) s.sent;
  }

  pub sound-fits : GatewayFits (decode m)
  unfolding decode
  sound-fits = record {
    header = rw header-held (header-fits m bytes (omega (arith, s.header)));
    queue = read_all entry_of queue_size m header_size (header_at m).queued bytes queue-inside entry-fits;
    outstanding = read_all sent_of outstanding_size m (outstanding_at (header_at m).settings.q 0) (header_at m).outstanding bytes sent-inside sent-fits;
  }

  pub reading-laws : ReadingLaws m
  reading-laws = record {
    valid-held = s.held;
    ranged = fits-ranged (decode m) sound-fits;
    long = sound-room.long;
    again = encode_same (decode m) m sound-fits sound-room sound-holds;
  }

-- memory that holds a valid gateway is sound
phase-small : (a : Phase) → phase_number a ≤ 2
phase-small Idle = omega arith
phase-small Counting = omega arith
phase-small Stopped = omega arith

module _ (g : Gateway) (m : List ℕ) (v : Valid g) (r : GatewayFits g) (room : Room g m) (h : Holds g m) where
  held-header : header_at m ≡ header_of g
  held-header = holds-header g m r room h

  pub holds-sound : valid g ≡ true → sound m ≡ true
  holds-sound ok =
      facts-sound m
      (record {
        header = omega (arith, room.long);
        settings = rw held-header (facts-settings g.settings v.settings);
        long = rw held-header room.long;
        phase = rw (phase-byte (header_of g) r.header m (rw (length_front (header_of g)) at h.front) (rw (length_back (header_of g)) at
            h.back)) (phase-small g.round.phase);
        queued = rw held-header room.queued;
        sent = rw held-header room.sent;
        queue = rw held-header (stored_exact entry_bytes entry_of queue_size m header_size (all_map entry_kept r.queue) h.queue);
        outstanding = rw held-header (stored_exact sent_bytes sent_of outstanding_size m (outstanding_at g.settings.q 0) (all_map sent-kept
            r.outstanding) h.outstanding);
        held = rw (holds-decode g m r room h) ok;
      })

pub writing-laws : (g : Gateway) (m : List ℕ) → valid g ≡ true → Ranged g → size_for g.settings.q g.settings.u ≤ length m → WritingLaws g m
writing-laws g m ok ranged long =
    let v = valid-facts g ok in
    let r = valid-fits g v ranged in
    let room : Room g m = record { long = long; queued = v.queued; sent = v.sent } in
    record {
      again = decode-encode g m r room;
      sound-after = holds-sound g (encode g m) v r (encode-room g m r room) (encode-holds g m r room) ok;
      as_long = encode-length g m r room;
      bytes_after = encode-bytes g m v;
      elsewhere = encode-elsewhere g m r room;
      rest = λ n. encode-elsewhere g m r room (size_for g.settings.q g.settings.u) n
          (record {
            front = after (omega arith);
            back = after (omega arith);
            queue = after (omega (arith, v.queued));
            outstanding = after (omega (arith, v.sent));
          });
    }

-- the laws of the codec
pub codec-laws : CodecLaws
codec-laws = record { writing = writing-laws; reading = λ m bytes e. reading-laws m bytes (sound-facts m e) }
