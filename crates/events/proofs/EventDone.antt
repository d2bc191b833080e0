-- Laws of one event of work: that none is left, that there is no room for it, or that it is done.
use mathlib.Core.Path.{◌≡◌, refl, sym, ◌∙◌, ap, subst}
use mathlib.Core.Bool.{Bool, true, false, not, ◌&&◌}
use mathlib.Core.List.{List, ◌∷◌, ◌++◌}
use Rattle.refusal.specs.Numbers.{refusal_number}
use Rattle.refusal.specs.declared.Refusal.{Refusal}
use Rattle.refusal.specs.declared.Refusal.TheVariants.{NoRoom, NothingToDo}
use Prim.Native.Nat.{ℕ, suc, ◌+◌, ◌-◌, ◌*◌, ◌≤◌, ◌<◌}
use native.Mathlib.Nat.{add-zero}
use native.Mathlib.Omega.{arith}
use lib.Dec.{leb}
use lib.ListN.{length, take, drop, get_or, length-append}
use lib.Seq.{length-take-le}
use borrow.Author.Tests.{le-leb, leb-true, not-true, not-false}
use Rattle.lists.specs.Lists.{tally}
use Rattle.lists.specs.Inside.Positions.{first_where}
use Rattle.buffer.specs.Slice.{part, write}
use Rattle.model.specs.Messages.{quantity_of}
use Rattle.model.specs.Doing.{most_stock, after, reply_to, sent_by}
use Rattle.model.proofs.Sending.{reply-sends}
use Rattle.model.specs.declared.Message.{Message}
use Rattle.model.specs.declared.State.{State}
use Rattle.model.specs.declared.Site.{Site}
use Rattle.std.specs.Prelude.{Option, None, Some}
use Rattle.memory.specs.Layout.{header_size, queue_at, queue_size}
use Rattle.memory.specs.Records.{Gateway, header_of, site_of}
use Rattle.memory.specs.Codec.{entry_of, entry_bytes, places_at}
use Rattle.memory.specs.Ranges.{RangedState}
use Rattle.memory.specs.Inside.Fits.{EntryFits, GatewayFits}
use Rattle.memory.specs.Validity.{is_pending, still_brings}
use Rattle.memory.specs.declared.Header.{Header}
use Rattle.memory.specs.declared.Entry.{Entry}
use Rattle.memory.specs.declared.Mark.TheVariants.{Pending, Processed}
use Rattle.memory.proofs.Validated.{valid-facts}
use Rattle.lists.proofs.BoolLaws.{and_left, and_right}
use Rattle.memory.proofs.Places.{length-read, place_at}
use Rattle.memory.proofs.Fitting.{valid-fits}
use Rattle.gateway.specs.Effects.{bytes_of_frames, fits, with_queue, with_state, sent_one, sent_all, frames_for}
use Rattle.gateway.specs.Working.{pending_of, processed_next, done, Progress, none_done, worked}
use Rattle.places.specs.Inside.Searching.{has_mark}
use Rattle.gateway.proofs.Maintaining.{Proper}
use Rattle.gateway.proofs.Keeps.{work-keeps}
use Rattle.gateway.proofs.Replies.{after-ranged}
use Rattle.gateway.proofs.Stocks.{stock-enough}
use Rattle.effects.specs.Inside.Placed.{Placed}
use Rattle.effects.proofs.StoredSent.{sent-queue}
use Rattle.effects.proofs.PlacedLaws.{placed-rest, placed-count, placed-entry, placed-split, placed-fits, placed-replaced, placed-state}
use Rattle.replies.specs.Inside.Turns.{Ready, Reached, Turned, stopped_with, reply_bytes, room_for, MaySendReply, SendsReply}
use Rattle.replies.specs.declared.Turn.{Turn}
use Rattle.events.proofs.NextPending.{none-pending, next-message, next-brings, processed-at, processed-length, next-behind}
use Rattle.events.proofs.WorkedLaws.{worked-none, worked-full, done_by, worked-one}

-- work that stops before an event
pub turn_stopped : {before memory : List ℕ} {t : Turn} {g : Gateway} → Reached before memory t g → (why : Refusal) → {w : Progress} → w ≡ none_done (refusal_number why) g
    → {r : Turn} → r ≡ stopped_with why t → Turned w before memory t r
turn_stopped {t = t} reached why e i =
    rw (i, e)
    (record {
      reached = record { placed = reached.placed; validity = reached.validity; ranged = reached.ranged; behind = reached.behind; next = reached.next };
      why = refl;
      written = omega arith;
    })

module _ {before memory : List ℕ} {t : Turn} {g : Gateway} (reached : Reached before memory t g) where
  -- what the search finds is the next unprocessed plain message
  pub found-next : {k : ℕ} → k ≡ t.place + first_where (has_mark Pending) (places_at entry_of queue_size memory (header_size + queue_size * t.place)
      (t.header.queued - t.place)) → k ≡ first_where is_pending g.queue
  found-next f =
      f ∙ rw (placed-rest reached.placed t.place (rw (placed-count reached.placed) at reached.behind)) (sym reached.next)

  pub none_left : (room : ℕ) {k : ℕ} → k ≡ t.place + first_where (has_mark Pending) (places_at entry_of queue_size memory (header_size + queue_size * t.place)
      (t.header.queued - t.place))
      → t.header.queued ≤ k → {r : Turn} → r ≡ stopped_with NothingToDo t → Turned (worked 1 (room - t.written) g) before memory t r
  none_left room f e i =
      turn_stopped reached NothingToDo
      (worked-none (room - t.written) g 0 (none-pending g.queue (omega (arith, found-next f, placed-count reached.placed))))
      i

-- the message there leaves a stock that is no more than it can come to
pub stock-there : (memory : List ℕ) (stock : ℕ) {place queued k : ℕ} → place ≤ queued
    → k ≡ place + first_where (has_mark Pending) (places_at entry_of queue_size memory (queue_at place) (queued - place)) → k < queued
    → stock + tally still_brings (places_at entry_of queue_size memory (queue_at place) (queued - place)) ≤ most_stock
    → stock + quantity_of (entry_of (part memory (queue_at k) queue_size)).message.kind ≤ most_stock
stock-there memory stock {place} {queued} {k} h f n room =
    let es = places_at entry_of queue_size memory (queue_at place) (queued - place) in
    let d = entry_of (part memory (queue_at k) queue_size) in
    let few = length-read entry_of queue_size memory (queue_at place) (queued - place) in
    let below : first_where is_pending es < queued - place = omega (arith, f) in
    let at : queue_at place + queue_size * first_where is_pending es ≡ queue_at k = omega (arith, f) in
    let there : get_or es (first_where is_pending es) d ≡ d = place_at entry_of queue_size memory (queue_at place) (queued - place) (first_where is_pending es) d below ∙ rw at in
    omega (arith, room, rw there at (next-brings es d (omega (arith, few))))

-- what is sent beside the rest of a gateway
module _ (reply : Option Message) (g : Gateway) where
  sent-fits : (room : ℕ) → length g.queue ≤ g.settings.q
      → fits room (record { gateway = sent_all false (sent_by reply) g; frames = frames_for false (sent_by reply) })
      ≡ (leb (length g.outstanding + length (sent_by reply)) g.settings.u && leb (length (bytes_of_frames (frames_for false (sent_by reply)))) room)
  unfolding fits sent_all sent_one
  sent-fits room h = by-case reply
    where
      by-case : (r : Option Message) → fits room (record { gateway = sent_all false (sent_by r) g; frames = frames_for false (sent_by r) })
          ≡ (leb (length g.outstanding + length (sent_by r)) g.settings.u && leb (length (bytes_of_frames (frames_for false (sent_by r)))) room)
      by-case (Some m) = rw (le-leb (length g.queue) g.settings.q h, length-append)
      by-case None = rw (le-leb (length g.queue) g.settings.q h, add-zero)

-- a header with the state after a message
abbrev pub header_after : State → Header → Header
header_after state h = record {
  settings = h.settings;
  state = state;
  agreed = h.agreed;
  round = h.round;
  queued = h.queued;
  outstanding = h.outstanding;
}

-- the message is done, and nothing is sent yet
abbrev pub processed_in : State → Gateway → Gateway
processed_in state g = with_state state (with_queue (processed_next g.state g.queue) g)

-- doing the message in queue place k
module _ {before memory : List ℕ} {t : Turn} {g : Gateway} (reached : Reached before memory t g) {k : ℕ} (below : k < t.header.queued)
    (first : k ≡ first_where is_pending g.queue) {e : Entry} (read : e ≡ entry_of (part memory (queue_at k) queue_size))
    {site : Site} (site-is : site ≡ site_of t.header.settings) (reply : Option Message) (gives : reply ≡ reply_to site t.header.state e.message)
    {next : State} (next-is : next ≡ after t.header.state e.message.kind) where
  header_is : t.header ≡ header_of g
  header_is = reached.placed.header

  entry-is : get_or g.queue (first_where is_pending g.queue) e ≡ e
  entry-is = rw (← first) (sym (placed-entry reached.placed k below e) ∙ sym read)

  inside : first_where is_pending g.queue < length g.queue
  inside = omega (arith, first, below, placed-count reached.placed)

  pending : (rest : List Message) × (pending_of g.queue ≡ e.message ∷ rest)
  pending = let n = next-message g.queue e inside in (n.0, rw entry-is at n.1)

  done-is : done e.message g ≡ record { gateway = sent_all false (sent_by reply) (processed_in next g); frames = frames_for false (sent_by reply) }
  unfolding done
  done-is = rw (next-is, reply-sends site t.header.state e.message gives, site-is, header_is)

  fits-is : (room : ℕ) → fits room (done e.message g) ≡ room_for t.header room reply
  fits-is room =
      rw (done-is, header_is)
      (sent-fits reply (processed_in next g) room (rw (processed-length g.state g.queue) reached.placed.room.queued))

  module _ (room : ℕ) {has : Bool} (has-is : has ≡ room_for t.header (room - t.written) reply) where
    -- there is no room
    pub no_room : not has ≡ true → {r : Turn} → r ≡ stopped_with NoRoom t → Turned (worked 1 (room - t.written) g) before memory t r
    no_room n i =
        turn_stopped reached NoRoom
        (worked-full (room - t.written) g e.message pending.0 pending.1 0 (fits-is (room - t.written) ∙ sym
        has-is ∙ not-true has n))
        i

    -- there is
    module _ (n : not has ≡ false) where
      fitting : fits (room - t.written) (done e.message g) ≡ true
      fitting = fits-is (room - t.written) ∙ sym has-is ∙ not-false has n

      work-is : worked 1 (room - t.written) g ≡ done_by (record {
        gateway = sent_all false (sent_by reply) (processed_in next g);
        frames = frames_for false (sent_by reply);
      })
      work-is = worked-one (room - t.written) g e.message pending.0 pending.1 _ done-is fitting

      proper : Proper (sent_all false (sent_by reply) (processed_in next g))
      proper =
          let k = work-keeps 1 (room - t.written) (record { valid = reached.validity; ranged = reached.ranged }) in
          subst (λ (w : Progress). Proper w.gateway) work-is k.gateway.proper

      new-fits : GatewayFits (sent_all false (sent_by reply) (processed_in next g))
      new-fits = valid-fits _ (valid-facts _ proper.valid) proper.ranged

      state-is : t.header.state ≡ g.state
      state-is = ap (λ (h : Header). h.state) header_is

      state-fits : RangedState next
      state-fits =
          rw (next-is, state-is)
          (after-ranged reached.ranged.state e.message.kind
          (stock-enough g.state g.queue (valid-facts g reached.validity).stocks e.message pending.1))

      -- the entry as it is processed
      now-processed : Entry
      now-processed = record { message = e.message; mark = Processed; before = t.header.state }

      now-fits : EntryFits now-processed
      unfolding now-processed
      now-fits = record { message = (placed-fits reached.placed k below read).message; before = rw state-is reached.ranged.state }

      queue-is : take k g.queue ++ (now-processed ∷ drop (suc k) g.queue) ≡ processed_next g.state g.queue
      unfolding now-processed
      queue-is = rw (state-is, first) (sym (rw entry-is at (processed-at g.state g.queue e inside)))

      module _ {memory₁ : List ℕ} (stored : memory₁ ≡ write (queue_at k) (entry_bytes (record {
        message = e.message;
        mark = Processed;
        before = t.header.state;
      })) memory)
        where
          placed-processed : Placed before memory₁ (header_after next t.header) (processed_in next g)
          unfolding now-processed
          placed-processed =
              let p = reached.placed in
              let at : k ≡ length (take k g.queue) = sym (length-take-le k g.queue (omega (arith, first, inside))) in
              let one : Placed before memory₁ t.header (with_queue (take k g.queue ++ (now-processed ∷ drop (suc k) g.queue)) g) =
              placed-replaced p (take k g.queue) e (drop (suc k) g.queue) (placed-split p k below read) now-processed now-fits at stored
              in
              let two : Placed before memory₁ t.header (with_queue (processed_next g.state g.queue) g) =
              subst (λ (es : List Entry). Placed before memory₁ t.header (with_queue es g)) queue-is one
              in
              placed-state two state-fits refl

          pub event-done : {memory₂ : List ℕ} {r : Header} → SendsReply memory₁ memory₂ (header_after next t.header) reply r → {bytes : ℕ}
              → bytes ≡ reply_bytes reply
              → Turned (worked 1 (room - t.written) g) before memory₂ t (record { header = r; written = t.written + bytes; place = k + 1; why = None })
          event-done sends b =
              let place : k + 1 ≡ suc (first_where is_pending g.queue) = omega (arith, first) in
              rw work-is
              (record {
                reached = record {
                  placed = sends before (processed_in next g) placed-processed new-fits;
                  validity = proper.valid;
                  ranged = proper.ranged;
                  behind = rw (sent-queue false (sent_by reply) (processed_in next g), processed-length g.state g.queue) (omega (arith, first, inside));
                  next = rw (sent-queue false (sent_by reply) (processed_in next g), place) (next-behind g.state g.queue inside);
                };
                why = refl;
                written = rw b;
              })

-- what sending it asks for
module _ {memory : List ℕ} {room : ℕ} {t : Turn} (ready : Ready memory room t) (reply : Option Message) {has : Bool} (has-is : has ≡ room_for t.header
    (room - t.written) reply) (n : not has ≡ false) where
  there-is : room_for t.header (room - t.written) reply ≡ true
  there-is = sym has-is ∙ not-false has n

  places : Bool
  places = leb (t.header.outstanding + length (sent_by reply)) t.header.settings.u

  bytes_of : Bool
  bytes_of = leb (reply_bytes reply) (room - t.written)

  pub bytes_inside : {bytes : ℕ} → bytes ≡ reply_bytes reply → t.written + bytes ≤ room
  unfolding places bytes_of
  bytes_inside e = let l = leb-true (reply_bytes reply) (room - t.written) (and_right places bytes_of there-is) in omega (arith, ready.written)

  pub may-send : {memory₁ : List ℕ} {next : State} → length memory₁ ≡ length memory → MaySendReply memory₁ (header_after next t.header) reply
  unfolding places bytes_of
  may-send long = record {
    long = rw long ready.long;
    outstanding-places = ready.outstanding-places;
    outstanding = leb-true (t.header.outstanding + length (sent_by reply)) t.header.settings.u (and_left places bytes_of there-is);
  }
