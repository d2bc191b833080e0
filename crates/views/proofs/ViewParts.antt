-- What a reader gets of an event, as parts of the event's bytes.
use mathlib.Core.Path.{◌≡◌, refl, sym, ◌∙◌, ap}
use mathlib.Core.Bool.{cond}
use mathlib.Core.List.{List, [], ◌∷◌, ◌++◌, append_assoc, append-nil}
use Prim.Native.Nat.{ℕ, zero, suc, ◌+◌, ◌-◌, ◌≤◌, ◌<◌}
use native.Mathlib.Omega.{arith}
use native.Mathlib.Decide.{ℕ_discrete}
use lib.Dec.{eqb, lit<}
use lib.ListN.{length, take, drop, set, get_or, length-append, length-set}
use borrow.Author.Tests.{eq-eqb, ne_eqb}
use Rattle.lists.specs.Lists.{joined}
use Rattle.buffer.specs.Slice.{Bytes, part, write, Puts}
use Rattle.buffer.specs.Number.{bytes_of, number_from, number_of}
use Rattle.buffer.proofs.Copies.{copy-length}
use Rattle.buffer.proofs.Lent.{bytes-part}
use Rattle.buffer.proofs.Putting.{puts-more, puts-length}
use Rattle.frame.proofs.Output.{puts-as}
use Rattle.buffer.proofs.Numbers.{one_byte}
use Rattle.buffer.proofs.Writes.{part-between, length_part, length-write, part-cons, part-nil, write-join, set-write, write-snoc}
use Rattle.model.specs.Messages.{kind_number, origin_of, quantity_of}
use Rattle.frame.proofs.Presence.{lamp-fields, restock-fields}
use Rattle.memory.specs.Layout.{state_size}
use Rattle.memory.specs.Codec.{state_bytes, state_with, state_of}
use Rattle.memory.proofs.FromBytes.{state-again}
use Rattle.records.specs.Events.{Event, stock_width_of, state_size_of, event_refusal, event_of}
use Rattle.records.specs.Inside.Finding.{frame_of_kind}
use Rattle.records.specs.declared.StockField.{StockField}
use Rattle.records.specs.declared.StockField.TheVariants.{Present, Old}
use Rattle.records.proofs.EventParts.{LampParts, RestockParts, Parts, with_lamp, restock, event-taken, parts, taken-restock, taken-lamp}
use Rattle.views.specs.Fields.{seen}
use Rattle.views.specs.Bytes.{field_bytes, place_bytes, view_map, places_bytes, event_view}
use Rattle.views.specs.Inside.Parts.{length_for, view_length, head_of, front_of, state_from, widened}
use Rattle.views.specs.declared.Reader.{Reader}
use Rattle.views.specs.declared.Reader.TheVariants.{Purchasing, Maintenance}

-- with the stock as wide as it is now the bytes of a state hold the same state, are as many as a state has, and are bytes
pub wide-state : (field : StockField) (b : List ℕ) → state_with (stock_width_of field) b ≡ state_of (widened field b)
unfolding state_with part number_of number_from
wide-state Present b = refl
wide-state Old b = refl

pub wide-length : (field : StockField) (b : List ℕ) → length (widened field b) + state_size_of field ≡ length b + state_size
wide-length Present b = refl
wide-length Old b = omega arith

pub wide-bytes : (field : StockField) (b : List ℕ) → Bytes b → Bytes (widened field b)
wide-bytes Present b h i = h i
wide-bytes Old b h zero = lit< tt
wide-bytes Old b h (suc zero) = lit< tt
wide-bytes Old b h (suc (suc i)) = h i

-- so that they are the bytes in which a view has that state
state-wide : (field : StockField) (b : List ℕ) → length b ≡ state_size_of field → Bytes b → state_bytes (state_with (stock_width_of field) b) ≡ widened field b
state-wide field b h bytes = ap state_bytes (wide-state field b) ∙ state-again (widened field b) (omega (arith, wide-length field b)) (wide-bytes field b bytes)

-- a stock has two bytes at least
two_bytes : (field : StockField) → 2 ≤ stock_width_of field
two_bytes Present = omega arith
two_bytes Old = omega arith

-- by values: each view's bytes
module _ (e : Event) where
  abbrev number : ℕ
  number = kind_number e.message.kind

  purchasing-of-lamp : number ≤ 2 → event_view Purchasing e ≡ 123 ∷ (bytes_of 4 e.message.hour ++ (bytes_of 1 number ++ state_bytes e.state))
  unfolding seen field_bytes place_bytes view_map places_bytes joined state_bytes
  purchasing-of-lamp h = rw ((lamp-fields number h).quantity, append-nil)

  purchasing-of-restock : number ≡ 3 → event_view Purchasing e ≡ 127 ∷ (bytes_of 4 e.message.hour ++ (bytes_of 1 number ++ (bytes_of 2 (quantity_of
      e.message.kind) ++ state_bytes e.state)))
  unfolding seen field_bytes place_bytes view_map places_bytes joined state_bytes
  purchasing-of-restock h = rw ((restock-fields number h).quantity, append-nil)

  maintenance-of-lamp : number ≤ 2 → event_view Maintenance e ≡ 15 ∷ (bytes_of 4 e.message.hour ++ (bytes_of 1 number ++ (e.message.lamp
      ++ bytes_of 1 (origin_of e.message.kind))))
  unfolding seen field_bytes place_bytes view_map places_bytes joined
  maintenance-of-lamp h = rw ((lamp-fields number h).lamp, (lamp-fields number h).origin, append-nil)

  maintenance-of-restock : number ≡ 3 → event_view Maintenance e ≡ 3 ∷ (bytes_of 4 e.message.hour ++ bytes_of 1 number)
  unfolding seen field_bytes place_bytes view_map places_bytes joined
  maintenance-of-restock h = rw ((restock-fields number h).lamp, (restock-fields number h).origin, append-nil)

-- the front of a view, with what follows
head-with : (map : ℕ) (s body : List ℕ) → head_of map s ++ body ≡ map ∷ (part s 4 4 ++ (get_or s 1 0 ∷ body))
head-with map s body = ap (◌∷◌ map) (append_assoc (part s 4 4) (get_or s 1 0 ∷ []) body)

pub length-head : (map : ℕ) (s : List ℕ) → 8 ≤ length s → length (head_of map s) ≡ 6
length-head map s h = rw (length-append, length_part s 4 4 h)

-- an event that is taken
module _ (field : StockField) (s : List ℕ) (b : Bytes s) (z : event_refusal field s ≡ 0) where
  its-parts : Parts field s
  its-parts = parts field s b (event-taken field s z)

  kind-few : get_or s 1 0 < 256
  kind-few = b 1

  -- its kind's byte
  kind-byte : kind_number (event_of field s).message.kind ≡ get_or s 1 0 → bytes_of 1 (kind_number (event_of field s).message.kind) ≡ get_or s 1 0 ∷ []
  kind-byte e = rw e (one_byte (get_or s 1 0) kind-few)

  -- the state that stands from a position on
  abbrev state_seen : ℕ → List ℕ
  state_seen from = widened field (part s from (state_size_of field))

  module _ (from : ℕ) (h : from + state_size_of field ≤ length s) where
    state-size : length (state_seen from) ≡ state_size
    state-size = omega (arith, wide-length field (part s from (state_size_of field)), length_part s from (state_size_of field) h)

    state-is : (event_of field s).state ≡ state_with (stock_width_of field) (part s from (state_size_of field)) → state_bytes (event_of field s).state ≡ state_seen from
    state-is e =
        ap state_bytes e
        ∙ state-wide field (part s from (state_size_of field)) (length_part s from (state_size_of field) h) (bytes-part s from (state_size_of field) b)

  -- a Restock
  module _ (k : get_or s 1 0 ≡ 3) where
    is-restock : RestockParts field s
    is-restock = taken-restock field s b z k

    pub restock-long : 10 ≤ length s
    restock-long = omega (arith, is-restock.long)

    pub purchasing-restock : event_view Purchasing (event_of field s) ≡ head_of 127 s ++ (part s 8 2 ++ state_seen 10)
    purchasing-restock =
        let p = is-restock in
        purchasing-of-restock (event_of field s) (p.number ∙ k)
        ∙ rw (p.hour, p.quantity, state-is 10 p.long p.state, kind-byte p.number) (sym (head-with 127 s (part s 8 2 ++ state_seen 10)))

    pub maintenance-restock : event_view Maintenance (event_of field s) ≡ head_of 3 s
    maintenance-restock = let p = is-restock in maintenance-of-restock (event_of field s) (p.number ∙ k) ∙ rw (p.hour, kind-byte p.number)

  -- a Failure, Request or Delivery
  module _ (k : get_or s 1 0 ≡ 3 → ⊥) where
    has-lamp : LampParts field s
    has-lamp = taken-lamp field s b z k

    pub lamp-long : 27 ≤ length s
    lamp-long = omega (arith, has-lamp.long)

    few : kind_number (event_of field s).message.kind ≤ 2
    few = omega (arith, has-lamp.number, has-lamp.kind)

    pub purchasing-lamp : event_view Purchasing (event_of field s) ≡ head_of 123 s ++ state_seen 27
    purchasing-lamp =
        let p = has-lamp in
        purchasing-of-lamp (event_of field s) few ∙ rw (p.hour, state-is 27 p.long p.state, kind-byte p.number) (sym (head-with 123 s (state_seen 27)))

    pub maintenance-lamp : event_view Maintenance (event_of field s) ≡ head_of 15 s ++ (part s 9 18 ++ (get_or s 8 0 ∷ []))
    maintenance-lamp =
        let p = has-lamp in
        let origin : bytes_of 1 (origin_of (event_of field s).message.kind) ≡ get_or s 8 0 ∷ [] =
        p.origin ∙ part-cons s 8 0 (omega (arith, p.long)) ∙ rw (part-nil s 9) in
        maintenance-of-lamp (event_of field s) few
        ∙ rw (p.hour, p.lamp, kind-byte p.number, origin) (sym (head-with 15 s (part s 9 18 ++ (get_or s 8 0 ∷ []))))

  -- how long the view is
  pub view-length : (reader : Reader) → length_for reader (kind_number (event_of field s).message.kind) ≡ view_length reader field s
  view-length reader = by its-parts reader
    where
      by : Parts field s → (reader : Reader) → length_for reader (kind_number (event_of field s).message.kind) ≡ view_length reader field s
      by (with_lamp p) Purchasing =
          let k : get_or s 1 0 ≡ 3 → ⊥ = λ e. omega (arith, p.kind) in
          rw (
            p.number,
            ne_eqb (get_or s 1 0) 3 k,
            purchasing-lamp k,
            length-append (head_of 123 s) (state_seen 27),
            length-head 123 s (omega (arith, p.long)),
            state-size 27 p.long,
          )
      by (with_lamp p) Maintenance =
          let k : get_or s 1 0 ≡ 3 → ⊥ = λ e. omega (arith, p.kind) in
          rw (
            p.number,
            ne_eqb (get_or s 1 0) 3 k,
            maintenance-lamp k,
            length-append,
            length-head 15 s (omega (arith, p.long)),
            length-append,
            length_part s 9 18 (omega (arith, p.long)),
          )
      by (restock p) Purchasing =
          rw (
            p.number,
            p.kind,
            purchasing-restock p.kind,
            length-append (head_of 127 s) (part s 8 2 ++ state_seen 10),
            length-append (part s 8 2) (state_seen 10),
            length-head 127 s (omega (arith, p.long)),
            length_part s 8 2 (omega (arith, p.long)),
            state-size 10 p.long,
          )
      by (restock p) Maintenance = rw (p.number, p.kind, maintenance-restock p.kind, length-head 3 s (omega (arith, p.long)))

  -- no longer than the event
  pub view-shorter : (reader : Reader) → view_length reader field s ≤ length s
  view-shorter reader = by its-parts reader (view-length reader)
    where
      by : Parts field s → (reader : Reader) → length_for reader (kind_number (event_of field s).message.kind) ≡ view_length reader field s → view_length reader field s ≤ length s
      by (with_lamp p) Purchasing e = omega (arith, rw (p.number, ne_eqb (get_or s 1 0) 3 (λ e. omega (arith, p.kind))) at e, p.long, two_bytes field)
      by (with_lamp p) Maintenance e = omega (arith, rw (p.number, ne_eqb (get_or s 1 0) 3 (λ e. omega (arith, p.kind))) at e, p.long)
      by (restock p) Purchasing e = omega (arith, rw (p.number, p.kind) at e, p.long, two_bytes field)
      by (restock p) Maintenance e = omega (arith, rw (p.number, p.kind) at e, p.long)

-- a view's front and its rest, put one behind the other
module _ (at map : ℕ) (m s v body : List ℕ) {n : ℕ} (is : v ≡ head_of map s ++ body) (size : length body ≡ n) (long : 8 ≤ length s)
    (room : at + length v ≤ length m)
  where
    length-view : length v ≡ 6 + n
    length-view = ap length is ∙ rw (length-append, length-head map s long, size)

    pub view-room : at + (6 + n) ≤ length m
    view-room = omega (arith, length-view)

    pub view-put : {one two : List ℕ} → one ≡ write at (head_of map s) m → two ≡ write (at + 6) body one → Puts at v m two (at + (6 + n))
    view-put {one} {two} p q =
        let six = length-head map s long in
        let fits : at + length (head_of map s) ≤ length m = omega (arith, six, view-room) in
        record {
          position = omega (arith, length-view);
          output =
              q
              ∙ rw (p, ← six) (write-join at (head_of map s) body m fits)
              ∙ ap (λ (l : List ℕ). write at l m) (sym is);
        }

-- the front of a view put field by field
module _ (at map : ℕ) (m s : List ℕ) (long : 8 ≤ length s) (room : at + 6 ≤ length m) where
  hour-size : length (part s 4 4) ≡ 4
  hour-size = length_part s 4 4 long

  pub hour-room : at + 1 + 4 ≤ length (set m at map)
  hour-room = rw (length-set m at map) (omega arith)

  module _ {two : List ℕ} (p : two ≡ write (at + 1) (part s 4 4) (set m at map)) where
    with-hour : two ≡ write at (map ∷ part s 4 4) m
    with-hour = p ∙ rw (set-write m at map (omega arith)) (write-join at (map ∷ []) (part s 4 4) m (omega arith))

    pub head-length : length two ≡ length m
    head-length = ap length with-hour ∙ length-write at (map ∷ part s 4 4) m (rw hour-size (omega arith))

    pub head-put : set two (at + 5) (get_or s 1 0) ≡ write at (head_of map s) m
    head-put =
        rw with-hour
        (write-snoc at (map ∷ part s 4 4) m (get_or s 1 0) (at + 5) (rw hour-size (omega arith)) (rw hour-size (omega arith)))

-- a view that is its front alone
module _ (at map : ℕ) (m s v : List ℕ) (is : v ≡ head_of map s) (long : 8 ≤ length s) where
  pub front-room : at + length v ≤ length m → at + 6 ≤ length m
  front-room room = omega (arith, ap length is ∙ length-head map s long)

  pub front-put : {one : List ℕ} → one ≡ write at (head_of map s) m → Puts at v m one (at + 6)
  front-put p =
      record { position = omega (arith, ap length is ∙ length-head map s long); output = p ∙ ap (λ (l : List ℕ). write at l m) (sym is) }

-- purchasing's view: its front, and the state behind it
module _ (field : StockField) (s : List ℕ) (b : Bytes s) (z : event_refusal field s ≡ 0) where
  pub state-inside : state_from s + state_size_of field ≤ length s
  unfolding state_from
  state-inside = by (ℕ_discrete (get_or s 1 0) 3)
    where
      by : Dec (get_or s 1 0 ≡ 3) → frame_of_kind (get_or s 1 0) + state_size_of field ≤ length s
      by (yes k) = rw (eq-eqb (get_or s 1 0) 3 k) (is-restock field s b z k).long
      by (no k) = rw (ne_eqb (get_or s 1 0) 3 k) (has-lamp field s b z k).long

  pub front-and-state : event_view Purchasing (event_of field s) ≡ front_of s ++ widened field (part s (state_from s) (state_size_of field))
  unfolding front_of state_from
  front-and-state = by (ℕ_discrete (get_or s 1 0) 3)
    where
      by : Dec (get_or s 1 0 ≡ 3) → event_view Purchasing (event_of field s) ≡ cond (eqb (get_or s 1 0) 3) (head_of 127 s ++ part s 8 2) (head_of 123 s) ++ widened field
          (part s (frame_of_kind (get_or s 1 0)) (state_size_of field))
      by (yes k) =
          purchasing-restock field s b z k
          ∙ rw (eq-eqb (get_or s 1 0) 3 k) (sym (append_assoc (head_of 127 s) (part s 8 2) (widened field (part s 10 (state_size_of field)))))
      by (no k) = purchasing-lamp field s b z k ∙ rw (ne_eqb (get_or s 1 0) 3 k)

module _ (field : StockField) (at : ℕ) (m s v : List ℕ) (is : v ≡ front_of s ++ widened field (part s (state_from s) (state_size_of field)))
    (long : state_from s + state_size_of field ≤ length s) (room : at + length v ≤ length m)
  where
    state-long : length (widened field (part s (state_from s) (state_size_of field))) ≡ state_size
    state-long = omega (arith, wide-length field (part s (state_from s) (state_size_of field)), length_part s (state_from s) (state_size_of field) long)

    length-all : length v ≡ length (front_of s) + state_size
    length-all = omega (arith, ap length is, length-append (front_of s) (widened field (part s (state_from s) (state_size_of field))), state-long)

    pub front_fits : at + length (front_of s) ≤ length m
    front_fits = omega (arith, length-all)

    module _ {one : List ℕ} {position state : ℕ} (p : Puts at (front_of s) m one position × (state ≡ state_from s)) where
      pub state-fits : (position + state_size ≤ length one) × (state + state_size_of field ≤ length s)
      state-fits = (omega (arith, length-all, p.0.position, puts-length front_fits p.0), rw p.1 long)

      pub purchasing-put : {two : List ℕ} → two ≡ write position (widened field (part s state (state_size_of field))) one → Puts at v m two (position + state_size)
      purchasing-put q =
          puts-as (puts-more front_fits p.0 (record {
            position = omega (arith, state-long);
            output = q ∙ rw p.1;
          })) (sym is)

-- an old state, copied behind two zero bytes
module _ (at from : ℕ) (m s : List ℕ) (room : at + 16 ≤ length m) (long : from + 14 ≤ length s) where
  pub old-copied : {one two : List ℕ} → one ≡ write at (0 ∷ 0 ∷ []) m → two ≡ write (at + 2) (take (from + 14 - from) (drop from s)) one
      → two ≡ write at (0 ∷ 0 ∷ part s from 14) m
  old-copied p q = q ∙ rw (p, part-between) (write-join at (0 ∷ 0 ∷ []) (part s from 14) m (omega arith))

-- its front, of a Restock and of any other
module _ (at : ℕ) (m s : List ℕ) (room : at + length (front_of s) ≤ length m) where
  module _ (k : get_or s 1 0 ≡ 3) (long : 10 ≤ length s) where
    front-is : front_of s ≡ head_of 127 s ++ part s 8 2
    unfolding front_of
    front-is = rw (eq-eqb (get_or s 1 0) 3 k)

    pub restock-room : at + 8 ≤ length m
    restock-room = view-room at 127 m s (front_of s) (part s 8 2) front-is (length_part s 8 2 (omega arith)) (omega arith) room

    module _ {one : List ℕ} (p : one ≡ write at (head_of 127 s) m) where
      pub quantity-fits : at + 6 + 2 ≤ length one
      quantity-fits =
          let same = length-write at (head_of 127 s) m (omega (arith, length-head 127 s (omega arith), restock-room)) in
          omega (arith, ap length p, same, restock-room)

      pub restock-front : {two : List ℕ} → two ≡ write (at + 6) (part s 8 2) one → Puts at (front_of s) m two (at + 8) × (10 ≡ state_from s)
      unfolding state_from
      restock-front q = (
        view-put at 127 m s (front_of s) (part s 8 2) front-is (length_part s 8 2 (omega arith)) (omega arith) room p q,
        rw (eq-eqb (get_or s 1 0) 3 k),
      )

  module _ (k : get_or s 1 0 ≡ 3 → ⊥) (long : 27 ≤ length s) where
    front-alone : front_of s ≡ head_of 123 s
    unfolding front_of
    front-alone = rw (ne_eqb (get_or s 1 0) 3 k)

    pub head-room : at + 6 ≤ length m
    head-room = front-room at 123 m s (front_of s) front-alone (omega arith) room

    pub lamp-front : {one : List ℕ} → one ≡ write at (head_of 123 s) m → Puts at (front_of s) m one (at + 6) × (27 ≡ state_from s)
    unfolding state_from
    lamp-front p = (front-put at 123 m s (front_of s) front-alone (omega arith) p, rw (ne_eqb (get_or s 1 0) 3 k))

-- its front, the lamp and the origin
module _ (at : ℕ) (m s v : List ℕ) (is : v ≡ head_of 15 s ++ (part s 9 18 ++ (get_or s 8 0 ∷ []))) (long : 27 ≤ length s) (room : at + length v ≤ length m) where
  lamp-size : length (part s 9 18) ≡ 18
  lamp-size = length_part s 9 18 (omega arith)

  body-size : length (part s 9 18 ++ (get_or s 8 0 ∷ [])) ≡ 19
  body-size = rw (length-append, lamp-size)

  pub lamp-room : at + 25 ≤ length m
  lamp-room = view-room at 15 m s v (part s 9 18 ++ (get_or s 8 0 ∷ [])) is body-size (omega arith) room

  module _ {one : List ℕ} (p : one ≡ write at (head_of 15 s) m) where
    one-length : length one ≡ length m
    one-length = ap length p ∙ length-write at (head_of 15 s) m (omega (arith, length-head 15 s (omega arith), lamp-room))

    pub lamp-fits : at + 6 + 18 ≤ length one
    lamp-fits = omega (arith, one-length, lamp-room)

    module _ {two : List ℕ} (q : two ≡ write (at + 6) (part s 9 18) one) where
      pub lamp-length : length two ≡ length m
      lamp-length = copy-length s one (at + 6) 9 18 lamp-fits (omega arith) q ∙ one-length

      pub lamp-put : Puts at v m (set two (at + 24) (get_or s 8 0)) (at + 25)
      lamp-put =
          view-put at 15 m s v (part s 9 18 ++ (get_or s 8 0 ∷ [])) is body-size (omega arith) room p
          (rw q (write-snoc (at + 6) (part s 9 18) one (get_or s 8 0) (at + 24) (rw (lamp-size, one-length) (omega (arith, lamp-room))) (rw lamp-size (omega arith))))
