-- What is known of sound memory, and what a change of a place comes to in the memory.
use mathlib.Core.Path.{◌≡◌, refl, sym, ◌∙◌, subst}
use mathlib.Core.List.{List, [], ◌∷◌, ◌++◌}
use Prim.Native.Nat.{ℕ, suc, ◌+◌, ◌-◌, ◌*◌, ◌≤◌, ◌<◌}
use native.Mathlib.Omega.{arith}
use lib.ListN.{length, take, drop, get_or, length-append, length-take, length-drop, take-append-drop}
use lib.Seq.{split_at, length-take-le}
use Rattle.lists.specs.Inside.Positions.{without}
use Rattle.lists.specs.Lists.{joined, All}
use Rattle.lists.proofs.ListLaws.{all_append, all_left, all_right}
use Rattle.buffer.specs.Slice.{Bytes, part, write}
use Rattle.buffer.specs.Number.{bytes_of}
use Rattle.buffer.proofs.Writes.{length_part, length-write}
use Rattle.memory.specs.Records.{Gateway, header_of}
use Rattle.memory.specs.Layout.{outstanding_at, header_size, outstanding_size, queue_at, queue_size}
use Rattle.memory.specs.Codec.{header_front, header_back, entry_bytes, entry_of, sent_bytes, sent_of, decode, encode}
use Rattle.memory.specs.declared.Header.{Header}
use Rattle.memory.specs.declared.Entry.{Entry}
use Rattle.memory.specs.declared.Sent.{Sent}
use Rattle.memory.specs.Inside.Fits.{GatewayFits, Room}
use Rattle.memory.proofs.RoundTrips.{length_front, length_back}
use Rattle.buffer.proofs.Standing.{Stands, stands-before}
use Rattle.memory.proofs.Places.{Sized, remove-place}
use Rattle.memory.proofs.Holding.{Holds, queue-sized, outstanding-sized}
use Rattle.memory.proofs.SoundMemory.{sound-facts, sound-holds, sound-room, sound-fits, header-held}
use Rattle.memory.proofs.Changes.{queue-changed, outstanding-changed}
use Rattle.gateway.specs.Effects.{with_queue, with_outstanding}
use Rattle.gateway.specs.Inside.Premises.{Known}
use Rattle.places.proofs.Counts.{queued-alone, outstanding-alone}
use Rattle.gateway.proofs.Knowing.{outstanding-count, queue-count, sizes}

-- a list without its element at k
module _ {A : Type 0} {p : A → Type 0} (xs : List A) (k : ℕ) where
  pub all_without : All p xs → All p (without k xs)
  all_without ps = all_append (all_left (take k xs) (drop k xs) (rw take-append-drop ps)) (all_right (take (suc k) xs) (drop (suc k) xs) (rw
      take-append-drop ps))

pub length_without : {A : Type 0} (xs : List A) (k : ℕ) → k < length xs → length (without k xs) ≡ length xs - 1
length_without xs k h = simp (length-append, length-take, length-drop) (omega arith)

-- places with one taken out: those behind it are moved down
module _ {A : Type 0} (f : A → List ℕ) (size at : ℕ) (m : List ℕ) (xs : List A) (k : ℕ) (d : A) (h : k < length xs)
    (sized : All (Sized f size) xs) (fits : at + size * length xs ≤ length m) (stand : Stands at (joined f xs) m) where
  pub remove-at : write at (joined f (without k xs)) m ≡ write (at + size * k) (part m (at + size * (k + 1)) (size * (length xs - k - 1))) m
  remove-at =
      let e : xs ≡ take k xs ++ get_or xs k d ∷ drop (suc k) xs = split_at xs k d h in
      let a : length (take k xs) ≡ k = length-take-le k xs (omega arith) in
      let b : length (drop (suc k) xs) ≡ length xs - k - 1 = length-drop (suc k) xs ∙ omega arith in
      let n : length (take k xs) + 1 + length (drop (suc k) xs) ≡ length xs = rw (a, b) (omega arith) in
      rw (a, b) at
      (remove-place f size at m (take k xs) (get_or xs k d) (drop (suc k) xs) (rw n fits)
      (subst (λ (l : List A). All (Sized f size) l) e sized)
      (subst (λ (l : List A). Stands at (joined f l) m) e stand))

-- the memory after a place is taken out and the header written
module _ (m : List ℕ) (h : Header) (bytes : Bytes m) (k : Known m h) where
  held : Holds (decode m) m
  held = sound-holds m bytes (sound-facts m k.soundness)

  room : Room (decode m) m
  room = sound-room m bytes (sound-facts m k.soundness)

  fits : GatewayFits (decode m)
  fits = sound-fits m bytes (sound-facts m k.soundness)

  header_is : header_of (decode m) ≡ h
  header_is = header-held m bytes (sound-facts m k.soundness) ∙ sym k.header

  -- a write behind the header leaves the header's bytes
  module _ (at : ℕ) (xs : List ℕ) (behind : header_size ≤ at) (inside : at + length xs ≤ length m) where
    front_kept : Stands 0 (header_front h) (write at xs m)
    front_kept = stands-before at xs m inside 0 (header_front h) (omega (arith, length_front h)) (subst (λ (x : Header). Stands 0
        (header_front x) m) header_is held.front)

    back-kept : Stands 6 (header_back h) (write at xs m)
    back-kept = stands-before at xs m inside 6 (header_back h) (omega (arith, length_back h)) (subst (λ (x : Header). Stands 6 (header_back x)
        m) header_is held.back)

  module _ (i : ℕ) (below : i < h.queued) where
    queue : List Entry
    queue = (decode m).queue

    fewer : List Entry
    fewer = take i queue ++ drop (suc i) queue

    inside : i < length queue
    unfolding queue
    inside = rw (queue-count m h k) below

    entry_gone : Gateway
    entry_gone = with_queue fewer (decode m)

    pub without-entry : {a b : List ℕ} → a ≡ write (queue_at i) (part m (queue_at i + queue_size) (queue_size * (h.queued - i - 1))) m
        → b ≡ write 10 (bytes_of 2 (h.queued - 1)) a
        → b ≡ encode (with_queue (take i (decode m).queue ++ drop (suc i) (decode m).queue) (decode m)) m
    unfolding queue fewer entry_gone
    without-entry p q =
        let z = sizes m h k in
        let e = header_is in
        let n : length queue ≡ h.queued = queue-count m h k in
        let one : length fewer ≡ length queue - 1 = length_without queue i inside in
        let count : length fewer ≡ h.queued - 1 = one ∙ rw n in
        let new-fits : GatewayFits entry_gone = record {
          header = record {
            settings = fits.header.settings;
            state = fits.header.state;
            agreed = fits.header.agreed;
            round = fits.header.round;
            queued = omega (arith, fits.header.queued);
            outstanding = fits.header.outstanding;
          };
          queue = all_without queue i fits.queue;
          outstanding = fits.outstanding;
        } in
        let new-room : Room entry_gone m = record { long = room.long; queued = omega (arith, room.queued); sent = room.sent } in
        let header : header_of entry_gone ≡ record {
          settings = h.settings;
          state = h.state;
          agreed = h.agreed;
          round = h.round;
          queued =
              h.queued - 1;
          outstanding = h.outstanding;
        } =
        λ j. record {
          settings = (e j).settings;
          state = (e j).state;
          agreed = (e j).agreed;
          round = (e j).round;
          queued = count j;
          outstanding
              = (e j).outstanding;
        } in
        let at : queue_at (i + 1) ≡ queue_at i + queue_size = omega arith in
        let moved = rw (n, at) at (remove-at entry_bytes queue_size header_size m queue i (entry_of []) inside (queue-sized (decode m) fits) (omega (
          arith,
          room.long,
          room.queued,
        )) held.queue) in
        let moving : List ℕ = part m (queue_at i + queue_size) (queue_size * (h.queued - i - 1)) in
        let inside-memory : queue_at i + length moving ≤ length m = rw (length_part m (queue_at i + queue_size) (queue_size * (h.queued - i - 1))
        (omega (arith, z))) (omega (arith, z)) in
        let alone = queued-alone h (write (queue_at i) moving m) (rw (length-write (queue_at i) moving m inside-memory) (omega (
          arith,
          z,
        ))) (front_kept (queue_at i) moving (omega arith) inside-memory) (back-kept (queue_at i) moving (omega arith)
        inside-memory) (h.queued - 1) in
        q ∙ rw p (sym alone ∙ sym (rw header at (queue-changed (decode m) entry_gone m new-fits new-room held refl refl moved)))

  module _ (i : ℕ) (below : i < h.outstanding) where
    sents : List Sent
    sents = (decode m).outstanding

    fewer-sents : List Sent
    fewer-sents = take i sents ++ drop (suc i) sents

    inside-sents : i < length sents
    unfolding sents
    inside-sents = rw (outstanding-count m h k) below

    sent-gone : Gateway
    sent-gone = with_outstanding fewer-sents (decode m)

    pub without-sent : {a b : List ℕ} → a ≡ write (outstanding_at h.settings.q i) (part m (outstanding_at h.settings.q i +
        outstanding_size) (outstanding_size
        * (h.outstanding - i - 1))) m
        → b ≡ write 12 (bytes_of 2 (h.outstanding - 1)) a
        → b ≡ encode (with_outstanding (take i (decode m).outstanding ++ drop (suc i) (decode m).outstanding) (decode m)) m
    unfolding sents fewer-sents sent-gone
    without-sent p q =
        let z = sizes m h k in
        let e = header_is in
        let n : length sents ≡ h.outstanding = outstanding-count m h k in
        let one : length fewer-sents ≡ length sents - 1 = length_without sents i inside-sents in
        let count : length fewer-sents ≡ h.outstanding - 1 = one ∙ rw n in
        let new-fits : GatewayFits sent-gone = record {
          header = record {
            settings = fits.header.settings;
            state = fits.header.state;
            agreed = fits.header.agreed;
            round = fits.header.round;
            queued = fits.header.queued;
            outstanding = omega (arith, fits.header.outstanding);
          };
          queue = fits.queue;
          outstanding = all_without sents i fits.outstanding;
        } in
        let new-room : Room sent-gone m = record { long = room.long; queued = room.queued; sent = omega (arith, room.sent) } in
        let header : header_of sent-gone ≡ record {
          settings = h.settings;
          state = h.state;
          agreed = h.agreed;
          round = h.round;
          queued =
              h.queued;
          outstanding = h.outstanding - 1;
        } =
        λ j. record { settings = (e j).settings; state = (e j).state; agreed = (e j).agreed; round = (e j).round; queued = (e j).queued; outstanding = count j } in
        let q-is : (decode m).settings.q ≡ h.settings.q = λ j. (e j).settings.q in
        let at : outstanding_at (decode m).settings.q 0 + outstanding_size * i ≡ outstanding_at h.settings.q i = rw q-is (omega arith) in
        let next : outstanding_at (decode m).settings.q 0 + outstanding_size * (i + 1) ≡ outstanding_at h.settings.q i + outstanding_size
        = rw q-is (omega arith) in
        let moved = rw (n, at, next) at (remove-at sent_bytes outstanding_size (outstanding_at (decode m).settings.q 0) m sents i (sent_of []) inside-sents
        (outstanding-sized (decode m) fits) (omega (arith, room.long, room.sent)) held.outstanding) in
        let moving : List ℕ = part m (outstanding_at h.settings.q i + outstanding_size) (outstanding_size * (h.outstanding - i - 1)) in
        let inside-memory : outstanding_at h.settings.q i + length moving ≤ length m = rw (length_part m (queue_at h.settings.q +
        outstanding_size * i + outstanding_size) (outstanding_size * (h.outstanding - i - 1)) (omega (arith, z))) (omega (arith, z)) in
        let alone = outstanding-alone h (write (outstanding_at h.settings.q i) moving m) (rw (length-write (queue_at h.settings.q +
        outstanding_size * i) moving m inside-memory) (omega (arith, z))) (front_kept (outstanding_at h.settings.q i) moving (omega arith)
        inside-memory) (back-kept (outstanding_at h.settings.q i) moving (omega arith) inside-memory) (h.outstanding - 1) in
        q ∙ rw p (sym alone ∙ sym (rw header at (outstanding-changed (decode m) sent-gone m new-fits new-room held refl refl moved)))
