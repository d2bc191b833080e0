-- A law for each branch of taking a cancel.
use mathlib.Core.Path.{◌≡◌, refl, sym, ◌∙◌}
use mathlib.Core.Bool.{Bool, true, false, not, ◌&&◌}
use mathlib.Core.List.{List, [], ◌∷◌, ◌++◌, append-nil}
use Rattle.std.specs.Prelude.{Err}
use Rattle.refusal.specs.declared.Refusal.TheVariants.{NoRoom}
use Prim.Native.Nat.{ℕ, ◌+◌, ◌-◌, ◌*◌, ◌≤◌, ◌<◌}
use native.Mathlib.Nat.{add-zero}
use native.Mathlib.Omega.{arith}
use lib.Dec.{leb, lit<}
use lib.ListN.{length, take, drop, length-append, length-take, length-drop, length-map, take-append-drop}
use borrow.Author.Tests.{le-leb, leb-true, not-true, not-false}
use Rattle.lists.specs.Inside.Positions.{first_where, past_last}
use Rattle.lists.specs.Lists.{any, joined}
use Rattle.lists.proofs.PositionLaws.{first-bound, before-first, from_first_lem}
use Rattle.lists.proofs.ListLaws.{all_right}
use Rattle.buffer.specs.Slice.{Bytes, write, Puts}
use Rattle.model.specs.Messages.{kind_number}
use Rattle.model.specs.declared.Message.{Message}
use Rattle.frame.specs.Writing.{written}
use Rattle.frame.specs.declared.Frame.{Frame}
use Rattle.memory.specs.Layout.{queue_at, queue_size, outstanding_at, outstanding_size}
use Rattle.memory.specs.Records.{Gateway, site_of}
use Rattle.memory.specs.Codec.{places_at, entry_of, header_front, header_back, decode, encode}
use Rattle.memory.specs.Inside.Fits.{MessageFits}
use Rattle.memory.specs.declared.Header.{Header}
use Rattle.memory.specs.declared.Entry.{Entry}
use Rattle.lists.proofs.BoolLaws.{and_left, and_right}
use Rattle.gateway.specs.Effects.{Effect, bytes_of_frames, fits, settled, with_queue, frames_for}
use Rattle.gateway.specs.Undoing.{processed_of, sent_back}
use Rattle.gateway.specs.Taking.{acknowledgment, is_plain, waiting_entry, take_cancel, waits, is_later}
use Rattle.gateway.specs.Calls.{CallResult, left, leaving}
use Rattle.gateway.specs.Inside.Premises.{Known}
use Rattle.places.specs.Inside.Searching.{entries_in}
use Rattle.gateway.specs.Answers.{Answer, answer_of}
use Rattle.effects.specs.Inside.Placed.{Placed}
use Rattle.effects.specs.Inside.Sending.{stored_frames}
use Rattle.effects.proofs.PlacedLaws.{placed_first, placed-rest, placed-last}
use Rattle.rollback.specs.Inside.Undone.{sent_by_entries, MaySendBack, taken_out}
use Rattle.rollback.specs.Inside.Entering.{MayEnter, struck_out, enough}
use Rattle.rollback.proofs.SentMessages.{back-cancelled, cancels-size}
use Rattle.rollback.proofs.RollbackLaws.{rolled-settings, rolled-outstanding}
use Rattle.effects.proofs.StoredSent.{Stored}
use Rattle.rollback.proofs.StoredCancels.{cancels-stored, may-put, all-put}
use Rattle.take_cancel.proofs.LastPositions.{tail-drop, past_bound, any-past, none-past, before_last_lem, from_last_lem}
use Rattle.rollback.proofs.Settling.{fits_by, no_room, with-room}
use Rattle.take_plain.proofs.PlainTakings.{reply-size, reply-room}
use Rattle.gateway.proofs.Knowing.{outstanding-count, queue-count, queue-places, settings-are, sizes}

-- whether an equal plain message is in the queue
module _ (m output : List ℕ) (h : Header) (known : Known m h) (x : Message) (past : ℕ) (found : past ≡ past_last (is_plain x) (entries_in m h.queued)) where
  position : past ≡ past_last (is_plain x) (decode m).queue
  position = rw (queue-places m h known) found

  pub cancel-waits : past ≡ 0 → {l : CallResult Answer} → l ≡ leaving (settled (length output) (decode m) (waits x (decode m))) m output
      → l ≡ leaving (settled (length output) (decode m) (take_cancel x (decode m))) m output
  unfolding take_cancel
  cancel-waits e p = p ∙ rw (none-past (is_plain x) (decode m).queue (sym position ∙ e))

-- the last one's place
module _ (m output : List ℕ) (h : Header) (known : Known m h) (x : Message) (k : ℕ) (found : k + 1 ≡ past_last (is_plain x) (entries_in m h.queued)) where
  behind : past_last (is_plain x) (decode m).queue ≡ k + 1
  behind = sym (rw (queue-places m h known) found)

  pub last-below : k < h.queued
  last-below = omega (arith, behind, past_bound (is_plain x) (decode m).queue, queue-count m h known)

  pub last-struck : {l : CallResult Answer} → l ≡ leaving (settled (length output) (decode m) (struck_out k x (decode m))) m output
      → l ≡ leaving (settled (length output) (decode m) (take_cancel x (decode m))) m output
  unfolding take_cancel struck_out taken_out
  last-struck p =
      let some : any (is_plain x) (decode m).queue ≡ true = any-past (is_plain x) (decode m).queue (omega (arith, behind)) in
      let at : past_last (is_plain x) (decode m).queue - 1 ≡ k = omega (arith, behind) in
      p ∙ rw (
        some,
        before_last_lem (is_plain x) (decode m).queue some,
        from_last_lem (is_plain x) (decode m).queue some,
        at,
        tail-drop k (decode m).queue,
      )

-- a cancel waits in queue place k: what the code looks at is what it comes to
module _ (m output : List ℕ) (h : Header) (known : Known m h) (bytes : Bytes m) (x : Message) (fits-x : MessageFits x) (few : kind_number x.kind ≤ 2)
    (k : ℕ) (found : k ≡ first_where (is_later x) (entries_in m h.queued)) where
  abbrev g : Gateway
  g = decode m

  first : Placed m m h g
  first = placed_first m h bytes known

  place : k ≡ first_where (is_later x) g.queue
  place = rw (queue-places m h known) found

  place-bound : k ≤ length g.queue
  place-bound = omega (arith, place, first-bound (is_later x) g.queue)

  abbrev waiting : Effect
  waiting = record { gateway = with_queue (take k g.queue ++ (waiting_entry x ∷ drop k g.queue)) g; frames = acknowledgment true x ∷ [] }

  waits-is : waits x g ≡ waiting
  waits-is = rw (before-first (is_later x) g.queue, from_first_lem (is_later x) g.queue, ← place)

  -- what the code compares
  abbrev queue-enough : Bool
  queue-enough = leb (h.queued + 1) h.settings.q

  abbrev places-enough : Bool
  places-enough = leb (h.outstanding + 0) h.settings.u

  abbrev bytes-enough : Bool
  bytes-enough = leb 28 (length output)

  needs : fits (length output) (waits x g) ≡ enough h (h.queued + 1) 0 (length output)
  unfolding joined
  needs =
      rw waits-is
      (fits_by (length output) waiting
      {a = h.queued + 1}
      {b = h.outstanding + 0}
      {d = 28}
      (rw (length-append, length-take, length-drop) (omega (arith, place-bound, queue-count m h known)))
      (outstanding-count m h known ∙ sym (add-zero h.outstanding))
      (rw append-nil (reply-size true x fits-x.lamp few))
      ∙ rw (← settings-are m h known))

  pub waits-without-room : {ok : Bool} → ok ≡ enough h (h.queued + 1) 0 (length output) → not ok ≡ true
      → left (answer_of (Err NoRoom)) m output ≡ leaving (settled (length output) g (waits x g)) m output
  waits-without-room {ok} p n = no_room m output g (waits x g) (needs ∙ sym p ∙ not-true ok n)

  module _ {ok : Bool} (p : ok ≡ enough h (h.queued + 1) 0 (length output)) (n : not ok ≡ false) where
    room : enough h (h.queued + 1) 0 (length output) ≡ true
    room = sym p ∙ not-false ok n

    pub waits-bytes : {reply : Frame} → reply ≡ acknowledgment true x → 0 + length (written reply) ≤ length output
    waits-bytes r = reply-room true x fits-x.lamp few r (leb-true 28 (length output) (and_right (queue-enough && places-enough) bytes-enough room))

    queue-room : h.queued + 1 ≤ h.settings.q
    queue-room = leb-true (h.queued + 1) h.settings.q (and_left queue-enough places-enough (and_left (queue-enough && places-enough) bytes-enough room))

    pub may-wait : {w : Entry} → w ≡ waiting_entry x → MayEnter m g m h k w
    may-wait is =
        rw is
        (record {
          placed = first;
          entry = record { message = fits-x; before = record { stock = lit< tt; failed = lit< tt; fitted = lit< tt; short = lit< tt } };
          place = place-bound;
          room = rw (← settings-are m h known) (omega (arith, queue-room, queue-count m h known));
        })

    pub waits-done : {reply : Frame} → reply ≡ acknowledgment true x → {out after : List ℕ} {next : ℕ} {w : Entry} → w ≡ waiting_entry x → Puts 0 (written reply) output out next
        → after ≡ encode (with_queue (take k g.queue ++ (w ∷ drop k g.queue)) g) m
        → record { answer = record { number = 0; written = next }; memory = after; output = out } ≡ leaving (settled (length output) g (waits x g)) m output
    unfolding joined
    waits-done r is put q =
        with-room m output g (waits x g) (needs ∙ room)
        (q ∙ rw (is, before-first (is_later x) g.queue, from_first_lem (is_later x) g.queue, ← place))
        (put.output ∙ rw (r, append-nil))
        (put.position ∙ rw (r, append-nil) (omega arith))

-- the plain message in queue place k is struck out: what the code counts is what it comes to
module _ (m output : List ℕ) (h : Header) (known : Known m h) (bytes : Bytes m) (x : Message) (fits-x : MessageFits x) (few : kind_number x.kind ≤ 2)
    (k : ℕ) (below : k < h.queued)
    (sent : ℕ) (counted : sent ≡ length (sent_back (site_of h.settings) (processed_of (places_at entry_of queue_size m (queue_at k) (h.queued - k))))) where
  abbrev held : Gateway
  held = decode m

  abbrev ms : List Message
  ms = sent_by_entries held (drop k held.queue)

  as-found : Placed m m h held
  as-found = placed_first m h bytes known

  pub struck-below : k < length held.queue
  struck-below = omega (arith, queue-count m h known)

  sent_is : sent ≡ length ms
  sent_is = counted ∙ rw (placed-rest as-found k (omega arith), settings-are m h known)

  cancels : length (bytes_of_frames (frames_for true ms)) ≡ 28 * sent
  cancels =
      cancels-size
      (back-cancelled held.settings as-found.fits.header.settings
      (all_right (take k held.queue) (drop k held.queue) (rw (take-append-drop k held.queue) as-found.fits.queue)))
      ∙ rw (← sent_is)

  -- what the code compares; the queue has a place less to hold
  abbrev used-enough : Bool
  used-enough = leb 0 h.settings.q

  abbrev sent-enough : Bool
  sent-enough = leb (h.outstanding + sent) h.settings.u

  abbrev output-enough : Bool
  output-enough = leb (28 * (sent + 1)) (length output)

  needs-struck : fits (length output) (struck_out k x held) ≡ enough h 0 sent (length output)
  unfolding struck_out taken_out joined
  needs-struck =
      let z = sizes m h known in
      fits_by (length output) (struck_out k x held)
      {a = h.queued - 1}
      {b = h.outstanding + sent}
      {d = 28 * (sent + 1)}
      (rw (length-append, length-take, length-map, length-drop) (omega (arith, queue-count m h known)))
      (rolled-outstanding (processed_of (drop k held.queue)) held ∙ rw (outstanding-count m h known, ← sent_is))
      (rw length-append (omega (arith, reply-size true x fits-x.lamp few, cancels)))
      ∙ rw (
        rolled-settings (processed_of (drop k held.queue)) held,
        ← settings-are m h known,
        le-leb (h.queued - 1) h.settings.q (omega
            (arith, z.queued)),
        le-leb 0 h.settings.q (omega arith),
      )

  pub struck-without-room : {ok : Bool} → ok ≡ enough h 0 sent (length output) → not ok ≡ true
      → left (answer_of (Err NoRoom)) m output ≡ leaving (settled (length output) held (struck_out k x held)) m output
  struck-without-room {ok} p n = no_room m output held (struck_out k x held) (needs-struck ∙ sym p ∙ not-true ok n)

  module _ {ok : Bool} (p : ok ≡ enough h 0 sent (length output)) (n : not ok ≡ false) where
    all_room : enough h 0 sent (length output) ≡ true
    all_room = sym p ∙ not-false ok n

    output-room : 28 * (sent + 1) ≤ length output
    output-room = leb-true (28 * (sent + 1)) (length output) (and_right (used-enough && sent-enough) output-enough all_room)

    sent-room : h.outstanding + sent ≤ h.settings.u
    sent-room = leb-true (h.outstanding + sent) h.settings.u (and_right used-enough sent-enough (and_left (used-enough && sent-enough)
        output-enough all_room))

    pub may-strike : MaySendBack m held m h ms
    may-strike = record { placed = as-found; places = rw (outstanding-count m h known, ← sent_is, ← settings-are m h known) sent-room }

    -- it is taken out
    module _ {memory : List ℕ} {next : Header} (taking : Placed m memory next (taken_out k held)) {reply : Frame} (r : reply ≡ acknowledgment true x)
        {free : ℕ} (at : free ≡ outstanding_at h.settings.q h.outstanding) where
      stored : Stored memory free sent (frames_for true ms)
      unfolding taken_out
      stored = cancels-stored as-found (processed_of (drop k held.queue)) taking refl refl at sent_is

      pub may-put-all : (free + outstanding_size * sent ≤ length memory) × (length (bytes_of_frames (reply ∷ stored_frames memory free sent)) ≤ length output)
      may-put-all = may-put stored reply (rw r (omega (arith, reply-size true x fits-x.lamp few, cancels, output-room)))

      pub struck-done : {out after : List ℕ} {n : ℕ} → Puts 0 (bytes_of_frames (reply ∷ stored_frames memory free sent)) output out n
          → after ≡ write 6 (header_back next) (write 0 (header_front next) memory)
          → record { answer = record { number = 0; written = n }; memory = after; output = out } ≡ leaving (settled (length output) held (struck_out k
          x held)) m output
      unfolding struck_out
      struck-done put q =
          with-room m output held (struck_out k x held) (needs-struck ∙ all_room)
          (placed-last taking q)
          ((all-put stored reply put).output ∙ rw r)
          ((all-put stored reply put).position ∙ rw r (omega arith))
