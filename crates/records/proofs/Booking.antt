-- The book of a record: a law for each branch of the code that fills it, and its figures.
use mathlib.Core.Path.{◌≡◌, refl, sym, ◌∙◌, ap}
use mathlib.Core.List.{List, [], ◌∷◌, map}
use Prim.Native.Nat.{ℕ, suc, ◌+◌, ◌*◌, ◌≤◌, ◌<◌}
use native.Mathlib.Nat.{add-zero, zero-add}
use native.Mathlib.Omega.{arith}
use native.Mathlib.Decide.{ℕ_discrete}
use lib.ListN.{length, get_or}
use borrow.Author.Tests.{ne_eqb, lt-ltb, le-ltb, lt-leb, le-leb}
use Rattle.lists.specs.Lists.{All, first_number}
use Rattle.lists.proofs.ListLaws.{all_head, all_tail, all_of}
use Rattle.lists.proofs.PieceLaws.{first-cons}
use Rattle.buffer.specs.Slice.{Bytes, part}
use Rattle.buffer.specs.Number.{number_of}
use Rattle.buffer.proofs.Numbers.{number-of-bytes}
use Rattle.buffer.proofs.Writes.{part-part}
use Rattle.model.specs.Doing.{opening_state, after}
use Rattle.model.specs.Messages.{kind_number, quantity_of}
use Rattle.model.specs.declared.Kind.{Kind}
use Rattle.model.specs.declared.Kind.TheVariants.{Failure, Request, Delivery, Restock, Start, Lvt, Update}
use Rattle.frame.proofs.PieceBytes.{cut-bytes}
use Rattle.memory.specs.Codec.{state_with}
use Rattle.records.specs.Events.{Event, event_length, cut_events, event_refusal, record_refusal, event_of, events_of}
use Rattle.records.specs.Balancing.{received, served, last_stock, BalanceAnswer, refused_balance, balance_for, balanced}
use Rattle.records.specs.Inside.Booking.{entered, entered_event, entered_all, opened_book, RoomInBook}
use Rattle.records.specs.Inside.Finding.{Passed, passed_as}
use Rattle.records.specs.declared.Weights.{Weights}
use Rattle.records.specs.declared.StockField.TheVariants.{Present}
use Rattle.records.specs.declared.balance.Book.{Book}
use Rattle.records.proofs.EventParts.{LampParts, RestockParts, taken-restock, taken-lamp}
use Rattle.records.proofs.TakenRest.{cut_few}
use Rattle.records.proofs.HistoryLaws.{stock-step, found-one, served-same}

-- nothing received and nothing served
nothing-entered : (b : Book) (stock : ℕ) → ◌≡◌ {A = Book} (record { received = b.received; served = b.served; followed = b.followed; stock = stock })
    (record { received = b.received + 0; served = b.served + 0; followed = b.followed; stock = stock })
nothing-entered b stock = λ i. record {
  received = sym (add-zero b.received) i;
  served = sym (add-zero b.served) i;
  followed = b.followed;
  stock = stock;
}

-- a kind by its number
restock-kind : (k : Kind) → kind_number k ≡ 3 → k ≡ Restock (quantity_of k)
restock-kind (Failure origin) e = absurd (omega (arith, e))
restock-kind (Request origin) e = absurd (omega (arith, e))
restock-kind (Delivery origin) e = absurd (omega (arith, e))
restock-kind (Restock quantity) e = refl
restock-kind Start e = absurd (omega (arith, e))
restock-kind Lvt e = absurd (omega (arith, e))
restock-kind Update e = absurd (omega (arith, e))

request-entered : (b : Book) (stock : ℕ) (k : Kind) → kind_number k ≡ 1 → entered b (Request 0) stock ≡ entered b k stock
request-entered b stock (Failure origin) e = absurd (omega (arith, e))
request-entered b stock (Request origin) e = refl
request-entered b stock (Delivery origin) e = absurd (omega (arith, e))
request-entered b stock (Restock quantity) e = absurd (omega (arith, e))
request-entered b stock Start e = absurd (omega (arith, e))
request-entered b stock Lvt e = absurd (omega (arith, e))
request-entered b stock Update e = absurd (omega (arith, e))

other-entered : (b : Book) (stock : ℕ) (k : Kind) → kind_number k ≤ 2 → (kind_number k ≡ 1 → ⊥)
    → record { received = b.received; served = b.served; followed = b.followed; stock = stock } ≡ entered b k stock
other-entered b stock (Failure origin) h d = nothing-entered b stock
other-entered b stock (Request origin) h d = absurd (d refl)
other-entered b stock (Delivery origin) h d = nothing-entered b stock
other-entered b stock (Restock quantity) h d = absurd (omega arith)
other-entered b stock Start h d = absurd (omega arith)
other-entered b stock Lvt h d = absurd (omega arith)
other-entered b stock Update h d = absurd (omega arith)

-- an event that is taken, by the kind in its second byte
module _ (b : Book) (s : List ℕ) (bytes : Bytes s) (z : event_refusal Present s ≡ 0) where
  abbrev e : Event
  e = event_of Present s

  -- the stock in a state that stands from a position on
  stock-there : (from : ℕ) → e.state ≡ state_with 4 (part s from 16) → number_of (part s from 4) ≡ e.state.stock
  unfolding state_with
  stock-there from is =
      let at : from + 0 ≡ from = omega arith in
      sym (ap (λ x. x.stock) is ∙ ap number_of (part-part s from 16 0 4 (omega arith) ∙ ap (λ (n : ℕ). part s n 4) at))

  module _ (k : get_or s 1 0 ≡ 3) where
    is-restock : RestockParts Present s
    is-restock = taken-restock Present s bytes z k

    pub restock-long : 26 ≤ length s
    restock-long = omega (arith, is-restock.long)

    pub restock-booked : {quantity stock : ℕ} {r : Book} → quantity ≡ number_of (part s 8 2) → stock ≡ number_of (part s 10 4)
        → r ≡ entered b (Restock quantity) stock → r ≡ entered_event b e
    restock-booked {quantity} {stock} q t r =
        let p = is-restock in
        let same : quantity ≡ quantity_of e.message.kind =
        q ∙ ap number_of (sym p.quantity) ∙ number-of-bytes 2 (quantity_of e.message.kind) p.fits in
        r
        ∙ ap (λ (n : ℕ). entered b (Restock n) stock) same
        ∙ ap (λ (kind : Kind). entered b kind stock) (sym (restock-kind e.message.kind (p.number ∙ k)))
        ∙ ap (entered b e.message.kind) (t ∙ stock-there 10 p.state)

  module _ (k : get_or s 1 0 ≡ 3 → ⊥) where
    has-lamp : LampParts Present s
    has-lamp = taken-lamp Present s bytes z k

    pub lamp-long : 43 ≤ length s
    lamp-long = omega (arith, has-lamp.long)

    module _ {stock : ℕ} (t : stock ≡ number_of (part s 27 4)) where
      stock-is : stock ≡ e.state.stock
      stock-is = t ∙ stock-there 27 has-lamp.state

      pub request-booked : {r : Book} → get_or s 1 0 ≡ 1 → r ≡ entered b (Request 0) stock → r ≡ entered_event b e
      request-booked one r =
          r ∙ request-entered b stock e.message.kind (has-lamp.number ∙ one) ∙ ap (entered b e.message.kind) stock-is

      pub other-booked : {last : ℕ} → (get_or s 1 0 ≡ 1 → ⊥) → last ≡ stock
          → record { received = b.received; served = b.served; followed = b.followed; stock = last } ≡ entered_event b e
      other-booked d l =
          let few : kind_number e.message.kind ≤ 2 = omega (arith, has-lamp.number, has-lamp.kind) in
          rw (l, stock-is) (other-entered b e.state.stock e.message.kind few (λ n. d (sym has-lamp.number ∙ n)))

-- the figures of a book that all events were entered in
module _ where
  pub all-received : (b : Book) (es : List Event) → (entered_all b es).received ≡ b.received + received es
  unfolding entered_all received
  all-received b [] = omega arith
  all-received b (e ∷ es) = omega (arith, all-received (entered_event b e) es)

  pub all-served : (b : Book) (es : List Event) → (entered_all b es).served ≡ b.served + served (opening_state b.followed) es
  unfolding entered_all served
  all-served b [] = omega arith
  all-served b (e ∷ es) =
      let s = opening_state b.followed in
      omega (
        arith,
        all-served (entered_event b e) es,
        served-same (after s e.message.kind) (opening_state (after s e.message.kind).stock) refl es,
      )

  pub all-stock : (b : Book) (es : List Event) → (entered_all b es).stock ≡ last_stock b.stock es
  unfolding entered_all last_stock
  all-stock b [] = refl
  all-stock b (e ∷ es) = all-stock (entered_event b e) es

-- the quantity of an event that is taken fits two bytes
quantity-fits : (s : List ℕ) → Bytes s → event_refusal Present s ≡ 0 → quantity_of (event_of Present s).message.kind ≤ 65535
quantity-fits s bytes z = by (ℕ_discrete (get_or s 1 0) 3)
  where
    none : (k : Kind) → kind_number k ≤ 2 → quantity_of k ≡ 0
    none (Failure origin) h = refl
    none (Request origin) h = refl
    none (Delivery origin) h = refl
    none (Restock quantity) h = absurd (omega arith)
    none Start h = refl
    none Lvt h = refl
    none Update h = refl

    by : Dec (get_or s 1 0 ≡ 3) → quantity_of (event_of Present s).message.kind ≤ 65535
    by (yes k) = omega (arith, (taken-restock Present s bytes z k).fits)
    by (no k) =
        let p = taken-lamp Present s bytes z k in
        let few : kind_number (event_of Present s).message.kind ≤ 2 = omega (arith, p.number, p.kind) in
        omega (arith, none (event_of Present s).message.kind few)

-- so many events are in the book, whose figures are small, and these are left, none of which is refused
pub record Booking (opening : ℕ) (bytes : List ℕ) (b : Book) (left : List (List ℕ)) : Type 0 where
  pub count : ℕ
  pub few : count + length left ≤ length bytes
  pub received : b.received ≤ 65535 * count
  pub served : b.served ≤ count
  pub followed : b.followed ≤ 65535 + 65535 * count
  pub none : first_number (event_refusal Present) left ≡ 0
  pub held : All Bytes left
  pub rest : entered_all (opened_book opening) (events_of Present bytes) ≡ entered_all b (map (event_of Present) left)

module _ (opening : ℕ) (bytes : List ℕ) where
  pub booking-start : opening ≤ 65535 → record_refusal Present bytes ≡ 0 → Bytes bytes → {first : ℕ} → first ≡ opening
      → {left : List (List ℕ)} → left ≡ cut_events Present bytes → Booking opening bytes (record { received = 0; served = 0; followed = first; stock = first }) left
  unfolding record_refusal events_of
  booking-start h z b f e =
      rw (f, e)
      (record {
        count = 0;
        few = omega (arith, cut_few (event_length Present) (length bytes) bytes);
        received = omega arith;
        served = omega arith;
        followed = omega arith;
        none = z;
        held = all_of (cut_events Present bytes) (cut-bytes (event_length Present) (length bytes) bytes b);
        rest = refl;
      })

  module _ (few : length bytes < 281474976710656) (b : Book) {left : List (List ℕ)} (p : Booking opening bytes b left) where
    pub booking-end : left ≡ [] → b ≡ entered_all (opened_book opening) (events_of Present bytes)
    unfolding entered_all
    booking-end e = sym (p.rest ∙ rw e)

    module _ {s : List ℕ} {later : List (List ℕ)} (e : left ≡ s ∷ later) where
      both : (event_refusal Present s ≡ 0) × (first_number (event_refusal Present) later ≡ 0)
      both = first-cons (event_refusal Present) s later (rw e at p.none)

      pub booking-taken : event_refusal Present s ≡ 0
      booking-taken = both.0

      pub booking-room : RoomInBook b
      booking-room =
          let n : p.count + suc (length later) ≤ length bytes = rw e at p.few in
          let s = p.served in
          record { received = omega (arith, p.received); served = omega arith; followed = omega (arith, p.followed) }

      pub booking-turn : {c : Book} → c ≡ entered_event b (event_of Present s) → Booking opening bytes c later
      unfolding entered_all
      booking-turn {c} is =
          let kind = (event_of Present s).message.kind in
          let n : p.count + suc (length later) ≤ length bytes = rw e at p.few in
          let held : All Bytes (s ∷ later) = rw e at p.held in
          let more = quantity-fits s (all_head held) both.0 in
          let one = found-one (opening_state b.followed) kind in
          record {
            count = p.count + 1;
            few = omega arith;
            received = omega (arith, ap (λ (x : Book). x.received) is, p.received, more);
            served = omega (arith, ap (λ (x : Book). x.served) is, p.served, one);
            followed = omega (arith, ap (λ (x : Book). x.followed) is, p.followed, more, stock-step (opening_state b.followed) kind);
            none = both.1;
            held = all_tail held;
            rest = p.rest ∙ rw (e, is);
          }

-- the refusals of the record, or its figures
module _ (opening : ℕ) (bytes : List ℕ) (weights : Weights) {p : Passed} (q : p ≡ passed_as Present weights bytes) where
  number_is : p.number ≡ record_refusal Present bytes
  number_is = ap (λ (x : Passed). x.number) q

  pub record-refused : (p.number ≡ 0 → ⊥) → refused_balance p.number ≡ balance_for opening bytes
  unfolding balance_for
  record-refused d = rw (← number_is, ne_eqb p.number 0 d)

  module _ (z : p.number ≡ 0) where
    pub record-passed : record_refusal Present bytes ≡ 0
    record-passed = sym number_is ∙ z

    pub record-booked : {b : Book} → b ≡ entered_all (opened_book opening) (events_of Present bytes)
        → record { number = 0; received = b.received; served = b.served; stock = b.stock } ≡ balance_for opening bytes
    unfolding balance_for
    record-booked {b} e =
        let events = events_of Present bytes in
        rw record-passed
        (λ i. record {
          number = 0;
          received = (ap (λ (x : Book). x.received) e ∙ all-received (opened_book opening) events ∙ zero-add (received events)) i;
          served = (ap (λ (x : Book). x.served) e ∙ all-served (opened_book opening) events ∙ zero-add (served (opening_state opening) events)) i;
          stock = (ap (λ (x : Book). x.stock) e ∙ all-stock (opened_book opening) events) i;
        })

-- the call's tests
module _ (opening : ℕ) (bytes : List ℕ) {r : BalanceAnswer} where
  pub too_much : 65535 < opening → r ≡ refused_balance 8 → r ≡ balanced opening bytes
  unfolding balanced
  too_much h e = e ∙ rw (lt-leb opening 65535 h)

  pub too_long : opening ≤ 65535 → 281474976710656 ≤ length bytes → r ≡ refused_balance 8 → r ≡ balanced opening bytes
  unfolding balanced
  too_long h k e = e ∙ rw (le-leb opening 65535 h, le-ltb (length bytes) 281474976710656 k)

  pub in-range : opening ≤ 65535 → length bytes < 281474976710656 → r ≡ balance_for opening bytes → r ≡ balanced opening bytes
  unfolding balanced
  in-range h k e = e ∙ rw (le-leb opening 65535 h, lt-ltb (length bytes) 281474976710656 k)
