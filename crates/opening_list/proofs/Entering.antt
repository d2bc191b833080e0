-- Messages entered one after the other: the entries so far stand in the queue places so far, and the rest is as good as the whole.
use mathlib.Core.Path.{◌≡◌, refl, sym, ◌∙◌, ap}
use mathlib.Core.List.{List, [], ◌∷◌, ◌++◌}
use Prim.Native.Nat.{ℕ, suc, ◌+◌, ◌-◌, ◌*◌, ◌≤◌, ◌<◌}
use native.Mathlib.Omega.{arith}
use lib.Dec.{lit<}
use lib.ListN.{length, take, drop, length-drop, take-append-drop}
use lib.Seq.{length-take-le}
use Rattle.lists.specs.Inside.Positions.{first_where}
use Rattle.lists.specs.Lists.{joined, All, nil, cons}
use Rattle.lists.proofs.PositionLaws.{first-bound, before-first, from_first_lem}
use Rattle.lists.proofs.ListLaws.{all_map, all_append, all_left, all_right}
use Rattle.buffer.specs.Slice.{Bytes, part, write}
use Rattle.buffer.proofs.Writes.{length-write, write-nil}
use Rattle.model.specs.declared.Message.{Message}
use Rattle.frame.specs.Reasons.{frame_read}
use Rattle.frame.specs.declared.Frame.{Frame}
use Rattle.memory.specs.Layout.{header_size, queue_at, queue_size}
use Rattle.memory.specs.Codec.{entry_bytes, entry_of}
use Rattle.memory.specs.Inside.Fits.{MessageFits, EntryFits}
use Rattle.memory.specs.declared.Entry.{Entry}
use Rattle.buffer.proofs.Standing.{Stands, stands-written}
use Rattle.memory.proofs.Places.{length-places, read-stored}
use Rattle.memory.proofs.RoundTrips.{entry_length, entry_kept}
use Rattle.buffer.proofs.Lent.{bytes-part}
use Rattle.memory.proofs.Changes.{queue_written, queue-over, entry_inserted}
use Rattle.gateway.specs.Undoing.{pending_entry}
use Rattle.lists.specs.Lists.{before_first, from_first}
use Rattle.gateway.specs.Taking.{is_later}
use Rattle.gateway.specs.SettingUp.{queued}
use Rattle.places.specs.Inside.Searching.{entries_in}
use Rattle.gateway.proofs.Openings.{length-entered}
use Rattle.gateway.proofs.ReadMessages.{reading-fits}
use Rattle.lists.specs.Inside.Pieces.{piece_end}
use Rattle.lists.proofs.PieceLaws.{end-between, pieces_none, pieces-next}
use Rattle.frame.specs.Layout.{whole_length}
use Rattle.frame.proofs.Sizes.{whole-some}
use Rattle.opening_list.specs.Inside.Frames.{frames_from, memory_entered}

pub entered_at : (count : ℕ) (m : Message) (memory : List ℕ) {k : ℕ} {e : Entry} {after : List ℕ} → k ≡ first_where (is_later m)
    (entries_in memory count) → e ≡ pending_entry m
    → after ≡ write (queue_at k) (entry_bytes e) (write (queue_at k + queue_size) (part memory (queue_at k) (queue_size * (count - k))) memory)
    → after ≡ memory_entered count m memory
unfolding memory_entered
entered_at count m memory found is p = p ∙ rw (is, found)

-- one more message in the places
module _ (before : List ℕ) (es : List Entry) (m : Message) (fits : All EntryFits es) (f : MessageFits m) (room : queue_at (length es) +
    queue_size ≤ length before) where
  abbrev news : List Entry
  news = before_first (is_later m) es ++ (pending_entry m ∷ from_first (is_later m) es)

  cut : ℕ
  cut = first_where (is_later m) es

  -- cut at that place
  news-cut : news ≡ take cut es ++ (pending_entry m ∷ drop cut es)
  unfolding cut
  news-cut = rw (before-first (is_later m) es, from_first_lem (is_later m) es)

  entry-fits : EntryFits (pending_entry m)
  entry-fits = record { message = f; before = record { stock = lit< tt; failed = lit< tt; fitted = lit< tt; short = lit< tt } }

  pub news-fit : All EntryFits news
  news-fit =
      rw news-cut
      (all_append (all_left (take cut es) (drop cut es) (rw take-append-drop fits)) (cons entry-fits (all_right (take cut es) (drop cut es)
      (rw take-append-drop fits))))

  inside : header_size + length (joined entry_bytes es) ≤ length before
  inside = rw (length-places entry_bytes queue_size (all_map entry_length fits)) (omega arith)

  memory : List ℕ
  memory = queue_written es before

  as_long : length memory ≡ length before
  unfolding memory
  as_long = length-write header_size (joined entry_bytes es) before inside

  stand : Stands header_size (joined entry_bytes es) memory
  unfolding memory
  stand = stands-written header_size (joined entry_bytes es) before inside

  read_again : entries_in memory (length es) ≡ es
  read_again = read-stored entry_bytes entry_of queue_size memory header_size (all_map entry_kept fits) stand

  within : cut ≤ length es
  unfolding cut
  within = first-bound (is_later m) es

  front : length (take cut es) ≡ cut
  front = length-take-le cut es within

  back : length (drop cut es) ≡ length es - cut
  back = length-drop cut es

  pub news-length : length news ≡ suc (length es)
  news-length = length-entered m (pending_entry m) es

  pub entered-news : memory_entered (length es) m (queue_written es before) ≡ queue_written news before
  unfolding memory_entered memory cut
  entered-news =
      let next : queue_at (cut + 1) ≡ queue_at cut + queue_size = omega arith in
      let inserted = entry_inserted memory (take cut es) (pending_entry m) (drop cut es) (rw news-cut at news-fit)
      (rw (front, back, as_long) (omega (arith, within))) (rw take-append-drop stand) in
      rw read_again
      (sym (rw (front, back, next) at inserted)
      ∙ rw (sym news-cut) (queue-over before fits news-fit (omega (arith, news-length)) (rw news-length (omega arith))))

-- the messages up to a position of the list have entered
pub record Entering (before list memory : List ℕ) (count at : ℕ) : Type 0 where
  pub inside : at ≤ length list
  pub counted : count + length (frames_from list at) ≡ length (frames_from list 0)
  pub entries : List Entry
  pub few : length entries ≡ count
  pub fits : All EntryFits entries
  pub stored : memory ≡ queue_written entries before
  pub rest : queued [] (frames_from list 0) ≡ queued entries (frames_from list at)

pub enter-start : (before list : List ℕ) → Entering before list before 0 0
unfolding joined
enter-start before list = record {
  inside = omega arith;
  counted = omega arith;
  entries = [];
  few = refl;
  fits = nil;
  stored = sym (write-nil header_size before);
  rest = refl;
}

module _ (before list memory : List ℕ) (count at : ℕ) (p : Entering before list memory count at) where
  pub enter-end : length list ≤ at → memory ≡ write header_size (joined entry_bytes (queued [] (frames_from list 0))) before
  unfolding queued
  enter-end h = p.stored ∙ ap (λ (es : List Entry). queue_written es before) (sym (p.rest ∙ rw (pieces_none whole_length whole-some list at h)))

  module _ (h : at < length list) (room : queue_at (length (frames_from list 0)) ≤ length before) {end : ℕ} (e : end ≡ piece_end whole_length list at) where
    here : frames_from list at ≡ take (end - at) (drop at list) ∷ frames_from list end
    here = rw e (pieces-next whole_length whole-some list at h)

    here-length : length (frames_from list at) ≡ suc (length (frames_from list end))
    here-length = ap length here

    pub enter-room : queue_at count + queue_size ≤ length before
    enter-room = omega (arith, here-length, p.counted)

    pub enter-turn : Bytes list → {f : Frame} → f ≡ frame_read (take (end - at) (drop at list)) → {after : List ℕ} → after ≡ memory_entered
        count f.message memory
        → Entering before list after (count + 1) end
    unfolding queued part
    enter-turn bytes {f = x} q {after} a =
        let b = end-between whole_length whole-some list at h e in
        let m = x.message in
        let f : MessageFits m = rw q (reading-fits (part list at (end - at)) (bytes-part list at (end - at) bytes)) in
        let space : queue_at (length p.entries) + queue_size ≤ length before = omega (arith, enter-room, p.few) in
        record {
          inside = b.inside;
          counted = omega (arith, here-length, p.counted);
          entries = before_first (is_later m) p.entries ++ (pending_entry m ∷ from_first (is_later m) p.entries);
          few = omega (arith, news-length before p.entries m p.fits f space, p.few);
          fits = news-fit before p.entries m p.fits f space;
          stored = a ∙ rw (p.stored, ← p.few) (entered-news before p.entries m p.fits f space);
          rest = p.rest ∙ rw (here, q);
        }
