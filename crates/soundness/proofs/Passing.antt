-- The two passes over the used places: one test after the other at each place is the same as each test at all places.
use mathlib.Core.Path.{◌≡◌, refl, sym, ◌∙◌, ap}
use Prim.Native.Nat.{ℕ, zero, suc, ◌+◌, ◌-◌, ◌<◌, ◌≤◌, max}
use native.Mathlib.Nat.{add-zero, zero-add, add_assoc}
use native.Mathlib.Omega.{arith}
use mathlib.Core.Bool.{Bool, true, false, not, cond, ◌&&◌, ◌||◌, and_assoc, and-false}
use mathlib.Core.List.{List, [], ◌∷◌, map}
use lib.Dec.{leb}
use lib.ListN.{length, take, drop}
use borrow.Author.Tests.{leb-true, leb-false, le-leb, lt-leb}
use Rattle.lists.specs.Lists.{All, every, tally}
use Rattle.model.specs.Doing.{most_stock}
use Rattle.buffer.specs.Slice.{Bytes, part, same_bytes}
use Rattle.memory.specs.Layout.{header_size, outstanding_size, queue_size, queue_at}
use Rattle.memory.specs.Codec.{entry_bytes, entry_of, sent_bytes, sent_of, places_at}
use Rattle.memory.specs.Validity.{is_pending, is_processed, is_waiting, equal, later, ordered, processed_first, meet, none_meet, entry_valid, sent_valid}
use Rattle.memory.specs.Validity.{processed_mark, brings, still_brings, saved_stocks_bounded}
use Rattle.memory.specs.Soundness.{entry_exact, sent_exact}
use Rattle.soundness.specs.Inside.Passes.{most_brought, higher_with, passed_on, stocks_fit, entry_accepted, queue_sound, outstanding_sound}
use Rattle.soundness.specs.declared.Passed.{Passed}
use Rattle.memory.specs.declared.Settings.{Settings}
use Rattle.memory.specs.declared.Entry.{Entry}
use Rattle.memory.specs.declared.Sent.{Sent}
use Rattle.buffer.proofs.Writes.{part-between}
use Rattle.memory.proofs.Validated.{still-less}
use Rattle.memory.proofs.Places.{length-read, places-map, next_place, no_place}
use Rattle.memory.proofs.FromBytes.{read_all, entry-fits}
use Rattle.lists.proofs.ListLaws.{all-each, tally-most}
use Rattle.memory.specs.Inside.Fits.{EntryFits}
use Rattle.memory.proofs.EventLaws.{not-later-self}
use Rattle.memory.proofs.Chains.{refuted, granted}

-- tests regrouped
swap : (a b c d : Bool) → ((a && b) && (c && d)) ≡ ((a && c) && (b && d))
swap true true c d = refl
swap true false true d = refl
swap true false false d = refl
swap false b c d = refl

-- one test of the first element and of the others, and then the next
in-turn : (a c b d rest : Bool) → (b && d) ≡ rest → ((a && b) && (c && d)) ≡ ((a && c) && rest)
in-turn a c b d rest e = swap a b c d ∙ ap (◌&&◌ (a && c)) e

gathered : (x v p o m xs vs ps os ms rest : Bool)
    → (x && ((v && (p && (o && m))) && (xs && (vs && (ps && (os && (ms && rest)))))))
    ≡ ((x && xs) && ((v && vs) && ((p && ps) && ((o && os) && ((m && ms) && rest)))))
gathered x v p o m xs vs ps os ms rest =
    sym (and_assoc x (v && (p && (o && m))) (xs && (vs && (ps && (os && (ms && rest))))))
    ∙ in-turn x xs (v && (p && (o && m))) (vs && (ps && (os && (ms && rest)))) _
    (in-turn v vs (p && (o && m)) (ps && (os && (ms && rest))) _
    (in-turn p ps (o && m) (os && (ms && rest)) _ (in-turn o os m (ms && rest) _ (sym (and_assoc m ms rest)))))

-- an entry is not later than itself and does not meet itself
no-meeting : (e : Entry) → meet e e ≡ false
no-meeting e = ap (◌&&◌ (equal e.message e.message)) (alike (is_waiting e)) ∙ and-false (equal e.message e.message)
  where
    alike : (w : Bool) → cond w (not w) w ≡ false
    alike true = refl
    alike false = refl

ordered-twice : (e : Entry) (es : List Entry) → ordered (e ∷ e ∷ es) ≡ ordered (e ∷ es)
unfolding ordered
ordered-twice e es = rw (not-later-self e.message)

none-meet-twice : (e : Entry) (es : List Entry) → none_meet (e ∷ e ∷ es) ≡ none_meet (e ∷ es)
unfolding none_meet
none-meet-twice e es = rw (no-meeting e)

-- tests of sums
leb-max : (a b c most : ℕ) → leb (max a b + c) most ≡ (leb (a + c) most && leb (b + c) most)
leb-max a b c most = by-case (leb (a + c) most) refl (leb (b + c) most) refl
  where
    by-case : (t : Bool) → leb (a + c) most ≡ t → (u : Bool) → leb (b + c) most ≡ u → leb (max a b + c) most ≡ (t && u)
    by-case true h true k = le-leb (max a b + c) most (omega (arith, leb-true (a + c) most h, leb-true (b + c) most k))
    by-case true h false k = lt-leb (max a b + c) most (omega (arith, leb-false (b + c) most k))
    by-case false h u k = lt-leb (max a b + c) most (omega (arith, leb-false (a + c) most h))

leb-both : (a b most more : ℕ) → a ≡ b + more → leb a (most + more) ≡ leb b most
leb-both a b most more e = by-case (leb b most) refl
  where
    by-case : (t : Bool) → leb b most ≡ t → leb a (most + more) ≡ t
    by-case true h = le-leb a (most + more) (omega (arith, leb-true b most h))
    by-case false h = lt-leb a (most + more) (omega (arith, leb-false b most h))

-- the stocks passed and those still to come
abbrev stocks_after : ℕ → Passed → List Entry → Bool
stocks_after stock p es =
    leb (p.highest + (p.brought + tally brings es)) (most_stock + most_brought)
    && (saved_stocks_bounded es && leb (stock + (p.still + tally still_brings es)) most_stock)

stocks-step : (stock : ℕ) (p : Passed) (e : Entry) (es : List Entry) → p.brought + (brings e + tally brings es) ≤ most_brought
    → stocks_after stock (passed_on p e) es ≡ stocks_after stock p (e ∷ es)
unfolding tally saved_stocks_bounded
stocks-step stock p e es few = by-case (is_processed e)
  where
    from-here : leb (e.before.stock + (most_brought - p.brought) + (p.brought + (brings e + tally brings es))) (most_stock + most_brought)
        ≡ leb (e.before.stock + (brings e + tally brings es)) most_stock
    from-here =
        leb-both (e.before.stock + (most_brought - p.brought) + (p.brought + (brings e + tally brings es))) (e.before.stock + (brings e + tally brings es)) most_stock
        most_brought (omega (arith, few))

    by-case : (b : Bool)
        → (leb (cond b (max p.highest (e.before.stock + (most_brought - p.brought))) p.highest + (p.brought + brings e + tally brings es)) (most_stock + most_brought)
        && (saved_stocks_bounded es && leb (stock + (p.still + still_brings e + tally still_brings es)) most_stock))
        ≡ (leb (p.highest + (p.brought + (brings e + tally brings es))) (most_stock + most_brought)
        && (((not b || leb (e.before.stock + (brings e + tally brings es)) most_stock) && saved_stocks_bounded es) && leb (stock + (p.still + (still_brings e + tally still_brings
        es))) most_stock))
    by-case true =
        let a = leb (p.highest + (p.brought + (brings e + tally brings es))) (most_stock + most_brought) in
        let c = leb (e.before.stock + (brings e + tally brings es)) most_stock in
        let saved = saved_stocks_bounded es in
        let held = leb (stock + (p.still + (still_brings e + tally still_brings es))) most_stock in
        rw (
          add_assoc p.brought (brings e) (tally brings es),
          add_assoc p.still (still_brings e) (tally still_brings es),
          leb-max p.highest (e.before.stock + (most_brought - p.brought)) (p.brought + (brings e + tally brings es)) (most_stock + most_brought),
          from-here,
        )
        (and_assoc a c (saved && held) ∙ ap (◌&&◌ a) (sym (and_assoc c saved held)))
    by-case false = rw (add_assoc p.brought (brings e) (tally brings es), add_assoc p.still (still_brings e) (tally still_brings es))

-- what the code adds up and compares, a place at a time and at the end
module _ (more : Bool) (sum quantity : ℕ) where
  pub one_more : more ≡ true → sum + quantity ≡ sum + cond more quantity 0
  one_more h = rw h

  pub none_more : more ≡ false → sum ≡ sum + cond more quantity 0
  none_more h = rw (h, add-zero sum)

module _ (p : Passed) (e : Entry) {processed : Bool} (q : processed ≡ processed_mark e.mark) where
  pub none-saved : not processed ≡ true → p.highest ≡ higher_with p e
  none-saved h = rw (refuted q h)

  module _ (h : not processed ≡ false) where
    pub now-highest : p.highest < e.before.stock + (most_brought - p.brought) → e.before.stock + (most_brought - p.brought) ≡ higher_with p e
    now-highest l = rw (granted q h) (omega arith)

    pub still-highest : e.before.stock + (most_brought - p.brought) ≤ p.highest → p.highest ≡ higher_with p e
    still-highest l = rw (granted q h) (omega arith)

module _ (p : Passed) (stock : ℕ) (few : p.brought ≤ most_brought) (fewer : p.still ≤ p.brought) where
  pub saved-too-high : 67173375 - p.brought < p.highest → false ≡ stocks_fit p stock
  saved-too-high l = rw (lt-leb (p.highest + p.brought) (most_stock + most_brought) (omega arith))

  pub held-decides : p.highest ≤ 67173375 - p.brought → leb stock (most_stock - p.still) ≡ stocks_fit p stock
  held-decides l =
      rw (le-leb (p.highest + p.brought) (most_stock + most_brought) (omega arith))
      (sym (ap (leb (stock + p.still)) whole ∙ leb-both (stock + p.still) stock (most_stock - p.still) p.still refl))
    where
      whole : most_stock ≡ most_stock - p.still + p.still
      whole = omega arith

-- the queue's pass, behind an entry
unfoldable pub passed : Settings → ℕ → Entry → Passed → List (List ℕ) → Bool
passed s stock before p [] = stocks_fit p stock
passed s stock before p (b ∷ bs) = entry_exact b && (entry_accepted s before p (entry_of b) && passed s stock (entry_of b) (passed_on p (entry_of b)) bs)

passed-each : (s : Settings) (stock : ℕ) (before : Entry) (p : Passed) (bs : List (List ℕ)) → p.brought + tally brings (map entry_of bs) ≤ most_brought
    → passed s stock before p bs
    ≡ (every entry_exact bs && (every (entry_valid s) (map entry_of bs) && (processed_first p.pending (map entry_of bs) && (ordered (before ∷ map
    entry_of bs) && (none_meet (before ∷ map entry_of bs) && stocks_after stock p (map entry_of bs))))))
unfolding passed every ordered processed_first none_meet entry_accepted tally saved_stocks_bounded
passed-each s stock before p [] few = rw (add-zero p.brought, add-zero p.still)
passed-each s stock before p (b ∷ bs) few =
    let e = entry_of b in
    let es = map entry_of bs in
    rw (passed-each s stock e (passed_on p e) bs (omega (arith, few)), stocks-step stock p e es few)
    (gathered (entry_exact b) (entry_valid s e) (not (p.pending && is_processed e)) (not (later before.message e.message)) (not (meet before e))
    (every entry_exact bs) (every (entry_valid s) es) (processed_first (p.pending || is_pending e) es) (ordered (e ∷ es)) (none_meet (e ∷ es))
    (stocks_after stock p (e ∷ es)))

-- nothing is passed yet
abbrev pub none_passed : Passed
none_passed = record { pending = false; brought = 0; still = 0; highest = 0 }

queue-none : (s : Settings) (stock : ℕ) (m : List ℕ) (before : Entry) → queue_sound s stock m 0 ≡ passed s stock before none_passed []
unfolding queue_sound places_at every ordered processed_first none_meet saved_stocks_bounded tally passed
queue-none s stock m before = refl

-- what the Restocks in the places bring
abbrev pub brought : List ℕ → ℕ → ℕ → ℕ
brought m at count = tally brings (places_at entry_of queue_size m at count)

pub brought-few : (m : List ℕ) (count : ℕ) → Bytes m → queue_at count ≤ length m → count ≤ 512 → brought m header_size count ≤ most_brought
brought-few m count bytes long few =
    let fits : All EntryFits (places_at entry_of queue_size m header_size count) = read_all entry_of queue_size m header_size count bytes long entry-fits in
    let most = tally-most brings 65535 (places_at entry_of queue_size m header_size count) (λ e n. omega (arith, (all-each fits e n).message.quantity)) in
    omega (arith, length-read entry_of queue_size m header_size count)

-- the pass begins with the first entry behind itself
queue-passed : (s : Settings) (stock : ℕ) (m : List ℕ) (count : ℕ) → brought m header_size count ≤ most_brought
    → queue_sound s stock m count ≡ passed s stock (entry_of (part m header_size queue_size)) none_passed (places_at (λ b. b) queue_size m header_size count)
unfolding queue_sound places_at
queue-passed s stock m zero h = queue-none s stock m (entry_of (part m header_size queue_size))
queue-passed s stock m (suc n) h =
    let e = entry_of (part m header_size queue_size) in
    let es = places_at entry_of queue_size m (header_size + queue_size) n in
    let bs = places_at (λ b. b) queue_size m header_size (suc n) in
    let same : places_at entry_of queue_size m header_size (suc n) ≡ map entry_of bs = places-map entry_of queue_size m header_size (suc n) in
    let total = brought m header_size (suc n) in
    let room : leb (0 + (0 + total)) (most_stock + most_brought) ≡ true = le-leb (0 + (0 + total)) (most_stock + most_brought) (omega arith) in
    rw (
      passed-each s stock e none_passed bs (rw (← same) (omega arith)),
      ← same,
      ordered-twice e es,
      none-meet-twice e es,
      room,
      zero-add (tally still_brings (e ∷ es)),
    )

pub queue-start : (s : Settings) (stock : ℕ) (m : List ℕ) (count : ℕ) {e : Entry} → brought m header_size count ≤ most_brought → e ≡ entry_of (take queue_size (drop header_size m))
    → queue_sound s stock m count ≡ passed s stock e none_passed (places_at (λ b. b) queue_size m header_size count)
unfolding part
queue-start s stock m count few d = rw d (queue-passed s stock m count few)

-- what was passed and is to come
pub record Bounded (m : List ℕ) (at left : ℕ) (p : Passed) : Type 0 where
  pub all : p.brought + brought m at left ≤ most_brought
  pub pending : p.still ≤ p.brought

pub bounded-start : (m : List ℕ) (count : ℕ) → brought m header_size count ≤ most_brought → Bounded m header_size count none_passed
bounded-start m count few = record { all = omega (arith, few); pending = omega arith }

pub bounded-end : (m : List ℕ) (at left : ℕ) (p : Passed) → Bounded m at left p → p.brought ≤ most_brought
bounded-end m at left p b = omega (arith, b.all)

module _ (m : List ℕ) (at left : ℕ) (p : Passed) (bounded : Bounded m at left p) (some : 0 < left) (e : Entry)
    (d : e ≡ entry_of (take (at + queue_size - at) (drop at m))) where
  bounded-here : p.brought + (brings e + brought m (at + queue_size) (left - 1)) ≤ most_brought
  unfolding tally
  bounded-here =
      let read : e ≡ entry_of (part m at queue_size) = rw part-between at d in
      let all = rw (next_place entry_of queue_size m at left some, ← read) at bounded.all in all

  pub bounded-enough : (p.brought + brings e ≤ most_brought) × (p.still ≤ p.brought)
  bounded-enough = (omega (arith, bounded-here), bounded.pending)

  pub bounded-turn : {next : Passed} → next ≡ passed_on p e → Bounded m (at + queue_size) (left - 1) next
  bounded-turn n = rw n (record { all = omega (arith, bounded-here); pending = omega (arith, bounded.pending, still-less e) })

module _ (s : Settings) (stock : ℕ) (m : List ℕ) (at left : ℕ) (p : Passed) (before : Entry) {whole : Bool}
    (so_far : whole ≡ passed s stock before p (places_at (λ b. b) queue_size m at left)) where
  pub queue-end : {r : Bool} → left ≤ 0 → r ≡ stocks_fit p stock → r ≡ whole
  unfolding passed
  queue-end h f = f ∙ sym (so_far ∙ rw (no_place (λ b. b) queue_size m at left h))

  module _ (some : 0 < left) {e : Entry} (d : e ≡ entry_of (take (at + queue_size - at) (drop at m))) {exact : Bool}
      (q : exact ≡ same_bytes (entry_bytes e) (take (at + queue_size - at) (drop at m))) where
    read_as : e ≡ entry_of (part m at queue_size)
    read_as = rw part-between at d

    exact-as : exact ≡ entry_exact (part m at queue_size)
    exact-as = q ∙ rw (part-between m at queue_size, read_as)

    by_place : whole ≡ (entry_exact (part m at queue_size) && (entry_accepted s before p e && passed s stock e (passed_on p e) (places_at (λ b. b)
        queue_size m (at + queue_size) (left - 1))))
    unfolding passed
    by_place = so_far ∙ rw (next_place (λ b. b) queue_size m at left some, read_as)

    pub queue-place : not exact ≡ true → false ≡ whole
    queue-place h = sym (by_place ∙ rw (refuted exact-as h))

    module _ (h : not exact ≡ false) {fits : Bool} (f : fits ≡ entry_accepted s before p e) where
      pub queue-entry : not fits ≡ true → false ≡ whole
      queue-entry k = sym (by_place ∙ rw (granted exact-as h, refuted f k))

      pub queue-turn : {next : Passed} → not fits ≡ false → next ≡ passed_on p e
          → whole ≡ passed s stock e next (places_at (λ b. b) queue_size m (at + queue_size) (left - 1))
      queue-turn k n = by_place ∙ rw (granted exact-as h, granted f k, n)

-- the outstanding places' pass
unfoldable pub all_sent : Settings → List (List ℕ) → Bool
all_sent s [] = true
all_sent s (b ∷ bs) = sent_exact b && (sent_valid s (sent_of b) && all_sent s bs)

sent-each : (s : Settings) (bs : List (List ℕ)) → all_sent s bs ≡ (every sent_exact bs && every (sent_valid s) (map sent_of bs))
unfolding all_sent every
sent-each s [] = refl
sent-each s (b ∷ bs) =
    rw (sent-each s bs)
    (sym
    (swap (sent_exact b) (every sent_exact bs) (sent_valid s (sent_of b)) (every (sent_valid s) (map sent_of bs))
    ∙ and_assoc (sent_exact b) (sent_valid s (sent_of b)) (every sent_exact bs && every (sent_valid s) (map sent_of bs))))

pub outstanding-passed : (s : Settings) (m : List ℕ) (at count : ℕ) → outstanding_sound s m at count ≡ all_sent s (places_at (λ b. b) outstanding_size m at count)
unfolding outstanding_sound
outstanding-passed s m at count = rw (places-map sent_of outstanding_size m at count) (sym (sent-each s (places_at (λ b. b) outstanding_size m at count)))

module _ (s : Settings) (m : List ℕ) (at left : ℕ) {whole : Bool}
    (so_far : whole ≡ all_sent s (places_at (λ b. b) outstanding_size m at left)) where
  pub sent-end : left ≤ 0 → true ≡ whole
  unfolding all_sent
  sent-end h = sym (so_far ∙ rw (no_place (λ b. b) outstanding_size m at left h))

  module _ (some : 0 < left) {x : Sent} (p : x ≡ sent_of (take (at + outstanding_size - at) (drop at m))) {exact : Bool}
      (q : exact ≡ same_bytes (sent_bytes x) (take (at + outstanding_size - at) (drop at m))) where
    sent-read : x ≡ sent_of (part m at outstanding_size)
    sent-read = rw part-between at p

    sent-same : exact ≡ sent_exact (part m at outstanding_size)
    sent-same = q ∙ rw (part-between m at outstanding_size, sent-read)

    by-sent : whole ≡ (sent_exact (part m at outstanding_size) && (sent_valid s x && all_sent s (places_at (λ b. b) outstanding_size m (at +
        outstanding_size) (left - 1))))
    unfolding all_sent
    by-sent = so_far ∙ rw (next_place (λ b. b) outstanding_size m at left some, sent-read)

    pub sent-place : not exact ≡ true → false ≡ whole
    sent-place h = sym (by-sent ∙ rw (refuted sent-same h))

    module _ (h : not exact ≡ false) {ok : Bool} (f : ok ≡ sent_valid s x) where
      pub sent-refused : not ok ≡ true → false ≡ whole
      sent-refused k = sym (by-sent ∙ rw (granted sent-same h, refuted f k))

      pub sent-turn : not ok ≡ false → whole ≡ all_sent s (places_at (λ b. b) outstanding_size m (at + outstanding_size) (left - 1))
      sent-turn k = by-sent ∙ rw (granted sent-same h, granted f k)
