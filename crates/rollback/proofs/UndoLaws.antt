-- Laws of undoing on memory: an event, the event in a queue place, and the events from a queue place on.
use mathlib.Core.Path.{◌≡◌, refl, sym, ◌∙◌, ap, subst}
use mathlib.Core.Bool.{Bool, true, false, not}
use mathlib.Core.List.{List, [], ◌∷◌, ◌++◌, map, append_assoc, append-nil}
use Prim.Native.Nat.{ℕ, suc, ◌+◌, ◌-◌, ◌≤◌, ◌<◌}
use native.Mathlib.Nat.{add-zero}
use native.Mathlib.Omega.{arith}
use lib.ListN.{length, take, drop, get_or, length-append, take-append-drop, drop_of_length-le}
use lib.Seq.{take-suc, drop-cons, get_or-append-add, length-take-le, take_all, drop-drop}
use borrow.Author.Tests.{not-true, not-false}
use Rattle.lists.specs.Lists.{All, cons}
use Rattle.lists.proofs.ListLaws.{all_right}
use Rattle.buffer.specs.Slice.{part, write}
use Rattle.model.specs.Doing.{sent, reply_to, sent_by}
use Rattle.model.proofs.Sending.{reply-sends}
use Rattle.model.specs.declared.Message.{Message}
use Rattle.model.specs.declared.Site.{Site}
use Rattle.std.specs.Prelude.{Option, None, Some}
use Rattle.memory.specs.Layout.{queue_at, queue_size, outstanding_at, outstanding_size}
use Rattle.memory.specs.Records.{Gateway, site_of}
use Rattle.memory.specs.Codec.{entry_of, entry_bytes, sent_bytes}
use Rattle.memory.specs.Validity.{is_processed, processed_mark}
use Rattle.memory.specs.Inside.Fits.{MessageFits, EntryFits}
use Rattle.memory.specs.declared.Entry.{Entry}
use Rattle.memory.specs.declared.Header.{Header}
use Rattle.gateway.specs.Effects.{with_queue, with_state, sent_all}
use Rattle.gateway.specs.Undoing.{processed_of, pending_entry, undone, rolled_back}
use Rattle.effects.specs.Inside.Placed.{Placed}
use Rattle.effects.specs.Inside.Sending.{header_sent}
use Rattle.effects.proofs.PlacedLaws.{placed-inside, placed-count, placed-entry, placed-state, placed-sent, placed-replaced}
use Rattle.rollback.specs.Inside.Undone.{sent_by_entries, MaySendBack, Between, undone_from}
use Rattle.rollback.proofs.RollbackLaws.{processed-one, processed-no, back_one, back_more, back-append, rolled-none, rolled-one}
use Rattle.rollback.proofs.RollbackLaws.{rolled-more, rolled-settings, rolled-outstanding, rolled-with-queue}
use Rattle.rollback.proofs.SentMessages.{Cancelled, sent-cancelled}

all_first : {p : Entry → Type 0} {x : Entry} {xs : List Entry} → All p (x ∷ xs) → p x
all_first (cons h hs) = h

-- an event, if it is processed
module _ {before memory : List ℕ} {g : Gateway} {header : Header} {e : Entry} (fits : EntryFits e)
    (may : MaySendBack before g memory header (sent_by_entries g (e ∷ []))) {processed : Bool} (test : processed ≡ processed_mark e.mark) where
  pub left_alone : not processed ≡ true → Placed before memory header (rolled_back (processed_of (e ∷ [])) g)
  left_alone h = rw (processed-no e (sym test ∙ not-true processed h), rolled-none g) may.placed

  module _ (h : not processed ≡ false) {site : Site} (site-is : site ≡ site_of header.settings) {reply : Option Message}
      (gives : reply ≡ reply_to site e.before e.message) where
    -- the state before it
    abbrev restored : Header
    restored = record {
      settings = header.settings;
      state = e.before;
      agreed = header.agreed;
      round = header.round;
      queued = header.queued;
      outstanding = header.outstanding;
    }

    settings-are : header.settings ≡ g.settings
    settings-are = ap (λ (x : Header). x.settings) may.placed.header

    is-processed : processed_of (e ∷ []) ≡ e ∷ []
    is-processed = processed-one e (sym test ∙ not-false processed h)

    had-sent : sent (site_of g.settings) e.before e.message ≡ sent_by reply
    had-sent = rw (← settings-are, ← site-is) (sym (reply-sends site e.before e.message gives))

    messages : sent_by_entries g (e ∷ []) ≡ sent_by reply
    messages = rw is-processed (back_one e (site_of g.settings) ∙ had-sent)

    rolled : rolled_back (processed_of (e ∷ [])) g ≡ sent_all true (sent_by reply) (with_state e.before g)
    rolled = rw is-processed (rolled-one e g ∙ rw had-sent)

    placed-restored : Placed before memory restored (with_state e.before g)
    placed-restored = placed-state may.placed fits.before refl

    pub only-restored : reply ≡ None → Placed before memory restored (rolled_back (processed_of (e ∷ [])) g)
    unfolding sent_all
    only-restored k = rw (rolled, k) placed-restored

    module _ {m : Message} (k : reply ≡ Some m) {place : ℕ} (at : place ≡ outstanding_at header.settings.q header.outstanding) where
      one-message : sent_by_entries g (e ∷ []) ≡ m ∷ []
      one-message = messages ∙ rw k

      all-cancelled : All Cancelled (m ∷ [])
      all-cancelled =
          subst (λ (l : List Message). All Cancelled l) (had-sent ∙ rw k)
          (sent-cancelled g.settings may.placed.fits.header.settings e.message fits.message e.before)

      the-fits : {ms : List Message} {x : Message} → All Cancelled (x ∷ ms) → MessageFits x
      the-fits (cons p ps) = p.fits

      places-left : length g.outstanding + 1 ≤ g.settings.u
      places-left = rw one-message at may.places

      outstanding-is : header.outstanding ≡ length g.outstanding
      outstanding-is = ap (λ (x : Header). x.outstanding) may.placed.header

      place-left : header.outstanding < header.settings.u
      place-left = rw settings-are (omega (arith, places-left, outstanding-is))

      -- there is an outstanding place for it
      pub place-free : place + outstanding_size ≤ length memory
      place-free = let i = placed-inside may.placed in omega (arith, i.long, at, place-left)

      pub counted : header.outstanding < 65535
      counted = let i = placed-inside may.placed in omega (arith, i.u, place-left)

      pub sent-one : {memory' : List ℕ} {r : Header} → memory' ≡ write place (sent_bytes (record { message = m; cancel = true })) memory
          → r ≡ header_sent m.hour restored → Placed before memory' r (rolled_back (processed_of (e ∷ [])) g)
      unfolding sent_all
      sent-one stored is =
          rw (rolled, k)
          (placed-sent placed-restored true m (the-fits all-cancelled) place-left (rw at at stored) is)

-- the entry in a queue place
module _ {before memory : List ℕ} {g : Gateway} {header : Header} {k : ℕ} {xs : List Entry} {e : Entry} {zs : List Entry} (b : Between k g.queue xs e zs)
    (may : MaySendBack before g memory header (sent_by_entries g (e ∷ []))) where
  counts : length g.queue ≡ k + suc (length zs)
  counts = rw (b.cut, length-append, b.place)

  -- it lies inside the memory
  pub record PlaceInside : Type 0 where
    pub below : k < header.queued
    pub long : queue_at k + queue_size ≤ length memory
    pub small : k < 65536

  pub place_inside : PlaceInside
  place_inside =
      let i = placed-inside may.placed in
      let n = placed-count may.placed in
      let c = counts in
      record { below = omega arith; long = omega (arith, i.long, i.queued); small = omega (arith, i.queued, i.q) }

  pub entry-there : {x : Entry} → x ≡ entry_of (part memory (queue_at k) queue_size) → x ≡ e
  entry-there p =
      p ∙ (placed-entry may.placed k place_inside.below e
      ∙ (rw (b.cut, ← b.place) (rw add-zero at (get_or-append-add xs (e ∷ zs) 0 e))))

  pub entry-fits : EntryFits e
  entry-fits =
      let all : All EntryFits (xs ++ (e ∷ zs)) = rw (← b.cut) may.placed.fits.queue in
      all_first (all_right xs (e ∷ zs) all)

  pub place-alone : {x : Entry} {processed : Bool} → x ≡ entry_of (part memory (queue_at k) queue_size) → processed ≡ processed_mark x.mark →
      not processed ≡ true → Placed before memory header (with_queue (xs ++ (undone e ∷ zs)) (rolled_back (processed_of (e ∷ [])) g))
  unfolding undone
  place-alone {x} {processed} p test h =
      let same = entry-there p in
      let no : is_processed e ≡ false = ap (λ (y : Entry). processed_mark y.mark) (sym same) ∙ (sym test ∙ not-true processed h) in
      rw (processed-no e no, rolled-none g, no, ← b.cut) may.placed

  module _ {x : Entry} {processed : Bool} (p : x ≡ entry_of (part memory (queue_at k) queue_size)) (test : processed ≡ processed_mark x.mark) (h
      : not processed ≡ false)
      {new : Entry} (is-pending : new ≡ pending_entry x.message) {memory' : List ℕ} (stored : memory' ≡ write (queue_at k) (entry_bytes new) memory) where
    abbrev pub place_undone : Gateway
    place_undone = with_queue (xs ++ (undone e ∷ zs)) g

    new_is : new ≡ undone e
    unfolding undone
    new_is =
        let same = entry-there p in
        let yes : is_processed e ≡ true = ap (λ (y : Entry). processed_mark y.mark) (sym same) ∙ (sym test ∙ not-false processed h) in
        is-pending ∙ (rw yes (ap (λ (y : Entry). pending_entry y.message) same))

    new-fits : EntryFits (undone e)
    new-fits =
        let f : EntryFits (pending_entry e.message) =
        record { message = entry-fits.message; before = record { stock = omega arith; failed = omega arith; fitted = omega arith; short = omega arith } }
        in
        subst EntryFits (ap (λ (y : Entry). pending_entry y.message) (sym (entry-there p)) ∙ (sym is-pending ∙ new_is)) f

    pub may-undo : EntryFits x × MaySendBack before place_undone memory' header (sent_by_entries place_undone (x ∷ []))
    may-undo =
        let same = entry-there p in (
          rw same entry-fits,
          rw same (record {
            placed = placed-replaced may.placed xs e zs b.cut (undone e) new-fits (sym b.place) (stored ∙ rw new_is);
            places = may.places;
          }),
        )

    pub place-undone : {memory'' : List ℕ} {r : Header} → Placed before memory'' r (rolled_back (processed_of (x ∷ [])) place_undone)
        → Placed before memory'' r (with_queue (xs ++ (undone e ∷ zs)) (rolled_back (processed_of (e ∷ [])) g))
    place-undone d = rw (entry-there p, rolled-with-queue (processed_of (e ∷ [])) g (xs ++ (undone e ∷ zs))) at d

-- the events from a queue place on: those from place left on are undone
pub record UndoneTo (before : List ℕ) (g : Gateway) (memory : List ℕ) (left : ℕ) (r : Header) : Type 0 where
  pub place : left ≤ length g.queue
  pub back : Placed before memory r (undone_from left g)

module _ {before memory : List ℕ} {g : Gateway} {header : Header} {k : ℕ} (low : k ≤ length g.queue)
    (may : MaySendBack before g memory header (sent_by_entries g (drop k g.queue))) where
  none-behind : {left : ℕ} → length g.queue ≤ left → drop left g.queue ≡ []
  none-behind {left} h = drop_of_length-le g.queue h

  pub undo-start : {left : ℕ} → left ≡ header.queued → UndoneTo before g memory left header
  unfolding undone_from processed_of
  undo-start {left} e =
      let n = placed-count may.placed in
      let none : drop left g.queue ≡ [] = none-behind {left = left} (omega arith) in
      let all : take left g.queue ≡ g.queue = take_all left g.queue (omega arith) in
      record { place = omega arith; back = rw (none, all, append-nil, rolled-none g) may.placed }

  -- the place before
  module _ {memory' : List ℕ} {r : Header} {left : ℕ} (above : k < left) (so_far : UndoneTo before g memory' left r) where
    one_down : suc (left - 1) ≡ left
    one_down = omega arith

    here-below : left - 1 < length g.queue
    here-below = omega (arith, so_far.place)

    -- the entry there: the queue is not empty
    abbrev pub entry_at : Entry → Entry
    entry_at d = get_or g.queue (left - 1) d

    module _ (d : Entry) where
      abbrev pub gateway_at : Gateway
      gateway_at = undone_from left g

      cut-here : drop (left - 1) g.queue ≡ entry_at d ∷ drop left g.queue
      cut-here = drop-cons g.queue (left - 1) d here-below ∙ rw one_down

      front-here : take left g.queue ≡ take (left - 1) g.queue ++ (entry_at d ∷ [])
      front-here = ap (λ (n : ℕ). take n g.queue) (sym one_down) ∙ take-suc g.queue (left - 1) d here-below

      pub between-here : Between (left - 1) gateway_at.queue (take (left - 1) g.queue) (entry_at d) (map undone (drop left g.queue))
      unfolding undone_from
      between-here = record {
        cut = rw front-here (append_assoc (take (left - 1) g.queue) (entry_at d ∷ []) (map undone (drop left g.queue)));
        place = length-take-le (left - 1) g.queue (omega (arith, so_far.place));
      }

      -- what the events from there on had sent, and from place k on
      abbrev behind : List Message
      behind = sent_by_entries g (drop left g.queue)

      abbrev one : List Message
      one = sent_by_entries g (entry_at d ∷ [])

      from-here : sent_by_entries g (drop (left - 1) g.queue) ≡ behind ++ one
      from-here = rw cut-here (back_more (entry_at d) (site_of g.settings) (drop left g.queue))

      abbrev skipped : List Entry
      skipped = take (left - 1 - k) (drop k g.queue)

      in_two : drop k g.queue ≡ skipped ++ drop (left - 1) g.queue
      in_two =
          let n : k + (left - 1 - k) ≡ left - 1 = omega arith in
          sym (take-append-drop (left - 1 - k) (drop k g.queue)) ∙ rw (drop-drop (left - 1 - k) k g.queue, n)

      whole : sent_by_entries g (drop k g.queue) ≡ (behind ++ one) ++ sent_by_entries g skipped
      whole =
          ap (sent_by_entries g) in_two
          ∙ (back-append (site_of g.settings) skipped (drop (left - 1) g.queue) ∙ ap (λ (ms : List Message). ms ++ sent_by_entries g skipped) from-here)

      settings-there : gateway_at.settings ≡ g.settings
      unfolding undone_from
      settings-there = rolled-settings (processed_of (drop left g.queue)) g

      places-here : length gateway_at.outstanding + length one ≤ gateway_at.settings.u
      unfolding undone_from
      places-here =
          let a = rolled-outstanding (processed_of (drop left g.queue)) g in
          let b : length g.outstanding + length ((behind ++ one) ++ sent_by_entries g skipped) ≤ g.settings.u = rw whole at may.places in
          let n = simp length-append at b in
          rw (rolled-settings (processed_of (drop left g.queue)) g) (omega arith)

      one-there : sent_by_entries gateway_at (entry_at d ∷ []) ≡ one
      one-there = rw settings-there

      pub may_here : MaySendBack before gateway_at memory' r (sent_by_entries gateway_at (entry_at d ∷ []))
      may_here = rw one-there (record { placed = so_far.back; places = places-here })

      gateway-next : with_queue (take (left - 1) g.queue ++ (undone (entry_at d) ∷ map undone (drop left g.queue))) (rolled_back
          (processed_of (entry_at d ∷ [])) gateway_at) ≡ undone_from (left - 1) g
      unfolding undone_from
      gateway-next =
          rw (cut-here, rolled-more (entry_at d) (drop left g.queue) g)
          (ap (with_queue (take (left - 1) g.queue ++ (undone (entry_at d) ∷ map undone (drop left g.queue))))
          (rolled-with-queue (processed_of (entry_at d ∷ [])) (rolled_back (processed_of (drop left g.queue)) g) (take left g.queue ++ map
          undone (drop left g.queue))))

      pub undo-turn : {memory'' : List ℕ} {r' : Header}
          → Placed before memory'' r' (with_queue (take (left - 1) g.queue ++ (undone (entry_at d) ∷ map undone (drop left g.queue)))
          (rolled_back (processed_of (entry_at d ∷ [])) gateway_at))
          → UndoneTo before g memory'' (left - 1) r'
      undo-turn x = record { place = omega (arith, so_far.place); back = rw gateway-next at x }

  pub undo-end : {memory' : List ℕ} {r : Header} {left : ℕ} → k ≤ left → left ≤ k → UndoneTo before g memory' left r → Placed before memory' r
      (undone_from k g)
  undo-end {left} a b x = let e : left ≡ k = omega arith in rw e at x.back
