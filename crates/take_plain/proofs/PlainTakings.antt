-- A law for each branch of taking a plain message.
use mathlib.Core.Path.{◌≡◌, refl, sym, ◌∙◌}
use mathlib.Core.Bool.{Bool, true, false, not, ◌&&◌}
use mathlib.Core.List.{List, [], ◌∷◌, ◌++◌, map, append-nil}
use Rattle.std.specs.Prelude.{Err}
use Rattle.refusal.specs.declared.Refusal.TheVariants.{NoRoom}
use Prim.Native.Nat.{ℕ, ◌+◌, ◌-◌, ◌*◌, ◌≤◌, ◌<◌}
use native.Mathlib.Omega.{arith}
use lib.Dec.{leb, lit<}
use lib.ListN.{length, take, drop, length-append, length-take, length-drop, length-map, take-append-drop}
use lib.Seq.{take_at, drop_at}
use borrow.Author.Tests.{le-leb, lt-leb, leb-true, not-true, not-false}
use Rattle.lists.specs.Lists.{joined}
use Rattle.lists.specs.Inside.Positions.{first_where, without}
use Rattle.lists.proofs.PositionLaws.{first-bound, any_found, any_none, without-first, before-first, from_first_lem}
use Rattle.lists.proofs.ListLaws.{all_right}
use Rattle.buffer.specs.Slice.{Bytes, Puts}
use Rattle.model.specs.Messages.{kind_number}
use Rattle.model.specs.declared.Message.{Message}
use Rattle.frame.specs.Writing.{written}
use Rattle.frame.specs.declared.Frame.{Frame}
use Rattle.memory.specs.Layout.{queue_at, queue_size, outstanding_at, outstanding_size}
use Rattle.memory.specs.Records.{Gateway, site_of}
use Rattle.memory.specs.Codec.{places_at, entry_of, decode, encode}
use Rattle.memory.specs.Inside.Fits.{MessageFits}
use Rattle.memory.specs.declared.Entry.{Entry}
use Rattle.memory.specs.declared.Header.{Header}
use Rattle.gateway.specs.Effects.{Effect, bytes_of_frames, fits, settled, with_queue, frames_for}
use Rattle.gateway.specs.Undoing.{processed_of, pending_entry, undone, sent_back, rolled_back}
use Rattle.gateway.specs.Taking.{acknowledgment, is_cancel_of, take_plain, entered, is_later}
use Rattle.gateway.specs.Calls.{CallResult, left, leaving}
use Rattle.gateway.specs.Inside.Premises.{Known}
use Rattle.places.specs.Inside.Searching.{entries_in}
use Rattle.gateway.specs.Answers.{Answer, answer_of}
use Rattle.lists.proofs.BoolLaws.{and_left, and_right}
use Rattle.places.proofs.Changing.{length_without}
use Rattle.effects.specs.Inside.Placed.{Placed}
use Rattle.effects.proofs.PlacedLaws.{placed_first, placed-rest}
use Rattle.effects.specs.Inside.Sending.{stored_frames}
use Rattle.rollback.specs.Inside.Undone.{sent_by_entries, MaySendBack, undone_from}
use Rattle.rollback.specs.Inside.Entering.{MayEnter, enough}
use Rattle.rollback.proofs.SentMessages.{back-cancelled, cancels-size}
use Rattle.frame.proofs.Sizes.{sense-size}
use Rattle.rollback.proofs.RollbackLaws.{rolled-settings, rolled-outstanding}
use Rattle.effects.proofs.StoredSent.{Stored}
use Rattle.rollback.proofs.StoredCancels.{cancels-stored, may-put, all-put}
use Rattle.rollback.proofs.Settling.{fits_by, no_room, with-room}
use Rattle.gateway.proofs.Knowing.{outstanding-count, queue-count, queue-places, settings-are, sizes}

-- whether an equal cancel waits
module _ (m output : List ℕ) (h : Header) (known : Known m h) (x : Message) (k : ℕ) (found : k ≡ first_where (is_cancel_of x) (entries_in m h.queued)) where
  position : k ≡ first_where (is_cancel_of x) (decode m).queue
  position = rw (queue-places m h known) found

  pub meets : k < h.queued → {l : CallResult Answer}
      → l ≡ leaving (settled (length output) (decode m) (record {
        gateway = with_queue (without k (decode m).queue) (decode m);
        frames =
            acknowledgment false x ∷ [];
      })) m output
      → l ≡ leaving (settled (length output) (decode m) (take_plain x (decode m))) m output
  unfolding take_plain
  meets b p =
      p ∙ rw (
        any_found (is_cancel_of x) (decode m).queue (omega (arith, position, queue-count m h known)),
        without-first (is_cancel_of x)
            (decode m).queue,
        ← position,
      )

  pub enters : h.queued ≤ k → {l : CallResult Answer} → l ≡ leaving (settled (length output) (decode m) (entered x (decode m))) m output →
      l ≡ leaving (settled (length output) (decode m) (take_plain x (decode m))) m output
  unfolding take_plain
  enters b p = p ∙ rw (any_none (is_cancel_of x) (decode m).queue (omega (arith, position, queue-count m h known)))

-- an acknowledgment has a sense
pub reply-size : (cancel : Bool) (x : Message) → length x.lamp ≡ 18 → kind_number x.kind ≤ 2 → length (written (acknowledgment cancel x)) ≡ 28
reply-size true x lamp few = sense-size (acknowledgment true x) lamp few (omega arith)
reply-size false x lamp few = sense-size (acknowledgment false x) lamp few (omega arith)

pub reply-room : (cancel : Bool) (x : Message) → length x.lamp ≡ 18 → kind_number x.kind ≤ 2 → {reply : Frame} → reply ≡ acknowledgment cancel x
    → {n : ℕ} → 28 ≤ n → 0 + length (written reply) ≤ n
reply-room cancel x lamp few r l = rw (r, reply-size cancel x lamp few) (omega arith)

-- where a message enters
pub later-bound : (m : List ℕ) (h : Header) (known : Known m h) (x : Message) (k : ℕ) → k ≡ first_where (is_later x) (entries_in m
    h.queued) → k ≤ h.queued
later-bound m h known x k found =
    let place : k ≡ first_where (is_later x) (decode m).queue = rw (queue-places m h known) found in
    omega (arith, place, first-bound (is_later x) (decode m).queue, queue-count m h known)

-- the message and its cancel vanish
module _ (m output : List ℕ) (h : Header) (known : Known m h) (k : ℕ) (below : k < h.queued) (x : Message) (lamp : length x.lamp ≡ 18)
    (few : kind_number x.kind ≤ 2) where
  abbrev met : Effect
  met = record { gateway = with_queue (without k (decode m).queue) (decode m); frames = acknowledgment false x ∷ [] }

  bytes-met : length (bytes_of_frames met.frames) ≡ 28
  unfolding joined
  bytes-met = rw append-nil (reply-size false x lamp few)

  needs-met : fits (length output) met ≡ leb 28 (length output)
  needs-met =
      let z = sizes m h known in
      fits_by (length output) met (length_without (decode m).queue k (omega (arith, queue-count m h known))) (outstanding-count m h known) bytes-met
      ∙ rw (
        ← settings-are m h known,
        queue-count m h known,
        le-leb (h.queued - 1) h.settings.q (omega (arith, z.queued)),
        le-leb
            h.outstanding h.settings.u z.outstanding,
      )

  pub met-without-room : length output < 28 → left (answer_of (Err NoRoom)) m output ≡ leaving (settled (length output) (decode m) met) m output
  met-without-room l = no_room m output (decode m) met (needs-met ∙ lt-leb 28 (length output) l)

  pub met-done : 28 ≤ length output → {reply : Frame} → reply ≡ acknowledgment false x → {out after : List ℕ} {next : ℕ}
      → Puts 0 (written reply) output out next → after ≡ encode met.gateway m
      → record { answer = record { number = 0; written = next }; memory = after; output = out } ≡ leaving (settled (length output) (decode m) met) m output
  unfolding joined
  met-done l r p q =
      with-room m output (decode m) met (needs-met ∙ le-leb 28 (length output) l) q
      (p.output ∙ rw (r, append-nil))
      (p.position ∙ rw (r, append-nil) (omega arith))

-- a plain message enters the queue before place k: what the code counts is what it comes to
module _ (m output : List ℕ) (h : Header) (known : Known m h) (bytes : Bytes m) (x : Message) (fits-x : MessageFits x) (few : kind_number x.kind ≤ 2)
    (k : ℕ) (found : k ≡ first_where (is_later x) (entries_in m h.queued))
    (sent : ℕ) (counted : sent ≡ length (sent_back (site_of h.settings) (processed_of (places_at entry_of queue_size m (queue_at k) (h.queued - k))))) where
  abbrev g : Gateway
  g = decode m

  abbrev ms : List Message
  ms = sent_by_entries g (drop k g.queue)

  first : Placed m m h g
  first = placed_first m h bytes known

  place : k ≡ first_where (is_later x) g.queue
  place = rw (queue-places m h known) found

  pub place-bound : k ≤ length g.queue
  place-bound = omega (arith, place, first-bound (is_later x) g.queue)

  sent_is : sent ≡ length ms
  sent_is = counted ∙ rw (placed-rest first k (omega (arith, place-bound, queue-count m h known)), settings-are m h known)

  entered-is : entered x g ≡ record {
    gateway = with_queue (take k g.queue ++ (pending_entry x ∷ map undone (drop k g.queue)))
        (rolled_back (processed_of (drop k g.queue)) g);
    frames = acknowledgment false x ∷ frames_for true ms;
  }
  entered-is = rw (before-first (is_later x) g.queue, from_first_lem (is_later x) g.queue, ← place)

  -- what the code compares
  abbrev queue-enough : Bool
  queue-enough = leb (h.queued + 1) h.settings.q

  abbrev places-enough : Bool
  places-enough = leb (h.outstanding + sent) h.settings.u

  abbrev bytes-enough : Bool
  bytes-enough = leb (28 * (sent + 1)) (length output)

  cancels : length (bytes_of_frames (frames_for true ms)) ≡ 28 * sent
  cancels = cancels-size (back-cancelled g.settings first.fits.header.settings (all_right (take k g.queue) (drop k g.queue)
      (rw (take-append-drop k g.queue) first.fits.queue))) ∙ rw (← sent_is)

  pub needs : fits (length output) (entered x g) ≡ enough h (h.queued + 1) sent (length output)
  unfolding joined
  needs =
      rw entered-is
      (fits_by (length output) (record {
        gateway = with_queue (take k g.queue ++ (pending_entry x ∷ map undone (drop k g.queue)))
            (rolled_back (processed_of (drop k g.queue)) g);
        frames = acknowledgment false x ∷ frames_for true ms;
      })
      {a = h.queued + 1}
      {b = h.outstanding + sent}
      {d = 28 * (sent + 1)}
      (rw (length-append, length-take, length-map, length-drop) (omega (arith, place-bound, queue-count m h known)))
      (rolled-outstanding (processed_of (drop k g.queue)) g ∙ rw (outstanding-count m h known, ← sent_is))
      (rw length-append (omega (arith, reply-size false x fits-x.lamp few, cancels)))
      ∙ rw (rolled-settings (processed_of (drop k g.queue)) g, ← settings-are m h known))

  pub entered-without-room : {ok : Bool} → ok ≡ enough h (h.queued + 1) sent (length output) → not ok ≡ true → left (answer_of (Err NoRoom)) m output ≡ leaving (settled (length output) g (entered x g)) m output
  entered-without-room {ok} p n = no_room m output g (entered x g) (needs ∙ sym p ∙ not-true ok n)

  module _ {ok : Bool} (p : ok ≡ enough h (h.queued + 1) sent (length output)) (n : not ok ≡ false) where
    room : enough h (h.queued + 1) sent (length output) ≡ true
    room = sym p ∙ not-false ok n

    bytes-room : 28 * (sent + 1) ≤ length output
    bytes-room = leb-true (28 * (sent + 1)) (length output) (and_right (queue-enough && places-enough) bytes-enough room)

    places-room : h.outstanding + sent ≤ h.settings.u
    places-room = leb-true (h.outstanding + sent) h.settings.u (and_right queue-enough places-enough (and_left (queue-enough &&
        places-enough) bytes-enough room))

    queue-room : h.queued + 1 ≤ h.settings.q
    queue-room = leb-true (h.queued + 1) h.settings.q (and_left queue-enough places-enough (and_left (queue-enough && places-enough) bytes-enough room))

    pub may-send : MaySendBack m g m h ms
    may-send = record { placed = first; places = rw (outstanding-count m h known, ← sent_is, ← settings-are m h known) places-room }

    -- the events are undone
    module _ {memory : List ℕ} {next : Header} (undoing : Placed m memory next (undone_from k g)) where
      pub may-enter : {entry : Entry} → entry ≡ pending_entry x → MayEnter m (undone_from k g) memory next k entry
      unfolding undone_from
      may-enter is = rw is (record {
        placed = undoing;
        entry = record { message = fits-x; before = record { stock = lit< tt; failed = lit< tt; fitted = lit< tt; short = lit< tt } };
        place = rw (length-append, length-take, length-map, length-drop) (omega (arith, place-bound));
        room =
            rw (rolled-settings (processed_of (drop k g.queue)) g, ← settings-are m h known, length-append, length-take, length-map, length-drop)
            (omega (arith, place-bound, queue-count m h known, queue-room));
      })

      module _ {reply : Frame} (r : reply ≡ acknowledgment false x) {free : ℕ} (at : free ≡ outstanding_at h.settings.q h.outstanding) where
        stored : Stored memory free sent (frames_for true ms)
        unfolding undone_from
        stored = cancels-stored first (processed_of (drop k g.queue)) undoing refl refl at sent_is

        pub may-put-all : (free + outstanding_size * sent ≤ length memory) × (length (bytes_of_frames (reply ∷ stored_frames memory free sent)) ≤ length output)
        may-put-all = may-put stored reply (rw r (omega (arith, reply-size false x fits-x.lamp few, cancels, bytes-room)))

        pub entered-done : {out : List ℕ} {n : ℕ} → Puts 0 (bytes_of_frames (reply ∷ stored_frames memory free sent)) output out n → {entry : Entry}
            {after : List ℕ} → entry ≡ pending_entry x → after ≡ encode (with_queue (take k (undone_from k g).queue ++ (entry ∷ drop k (undone_from k
            g).queue)) (undone_from k g)) m
            → record { answer = record { number = 0; written = n }; memory = after; output = out } ≡ leaving (settled (length output) g (entered x
            g)) m output
        unfolding undone_from
        entered-done put is q =
            with-room m output g (entered x g) (needs ∙ room)
            (q ∙ rw (
              is,
              before-first (is_later x) g.queue,
              from_first_lem (is_later x) g.queue,
              ← place,
              take_at (take k g.queue) (map
                  undone (drop k g.queue)) k front,
              drop_at (take k g.queue) (map undone (drop k g.queue)) k front,
            ))
            (rw (from_first_lem (is_later x) g.queue, ← place) ((all-put stored reply put).output ∙ rw r))
            (rw (from_first_lem (is_later x) g.queue, ← place) ((all-put stored reply put).position ∙ rw r (omega arith)))
          where
            front : length (take k g.queue) ≡ k
            front = rw length-take (omega (arith, place-bound))
