-- Where in the bytes of an event that is taken its fields stand.
use mathlib.Core.Path.{◌≡◌, sym, ◌∙◌, ap}
use mathlib.Core.Bool.{true, cond}
use mathlib.Core.List.{List, [], ◌∷◌, ◌++◌}
use Prim.Native.Nat.{ℕ, ◌+◌, ◌≤◌, ◌<◌, ◌^◌}
use native.Mathlib.Omega.{arith}
use native.Mathlib.Decide.{dec_lt}
use lib.Dec.{leb, eqb}
use lib.ListN.{length, drop, get_or, length-take, length-drop}
use lib.Seq.{take_at}
use borrow.Author.Tests.{eq-eqb, eqb-true, leb-true, lt-leb}
use Rattle.lists.specs.Lists.{joined}
use Rattle.lists.proofs.BoolLaws.{and_left, and_right}
use Rattle.lists.proofs.PieceLaws.{both_zero}
use Rattle.buffer.specs.Slice.{Bytes, part}
use Rattle.buffer.specs.Number.{bytes_of}
use Rattle.buffer.proofs.Lent.{bytes_take}
use Rattle.buffer.proofs.Readings.{get_d_part}
use Rattle.buffer.proofs.Writes.{part-part}
use Rattle.model.specs.Messages.{kind_number, origin_of, quantity_of}
use Rattle.frame.specs.Layout.{standing, whole_length}
use Rattle.frame.specs.Kinds.{map_of_kind, map_of, sense_number}
use Rattle.frame.specs.Writing.{contents, written}
use Rattle.frame.specs.Limits.{refusal_where}
use Rattle.std.specs.Prelude.{Ok}
use Rattle.frame.specs.Reasons.{reading, frame_read}
use Rattle.frame.specs.declared.Frame.{Frame}
use Rattle.frame.proofs.FormNumbers.{refusal-passed}
use Rattle.frame.proofs.Laws.{one-to-one}
use Rattle.frame.proofs.Presence.{lamp-fields, restock-fields}
use Rattle.frame.proofs.Sizes.{whole-some}
use Rattle.memory.specs.Codec.{state_with}
use Rattle.memory.proofs.RoundTrips.{byte-back}
use Rattle.records.specs.declared.StockField.{StockField}
use Rattle.records.specs.Events.{most_gateways, latest_hour, stock_width_of, state_size_of, frame_in, state_in, is_event, frame_refusal, event_refusal, event_of}

-- what an event keeps to that is not refused
pub record TakenEvent (field : StockField) (s : List ℕ) : Type 0 where
  pub form : reading (frame_in s) ≡ Ok (frame_read (frame_in s))
  pub sense : sense_number (frame_read (frame_in s)).sense ≡ 0
  pub kind : kind_number (frame_read (frame_in s)).message.kind ≤ 3
  pub limits : refusal_where true (frame_read (frame_in s)) most_gateways latest_hour ≡ 0
  pub state : state_size_of field ≤ length (state_in field s)

pub event-taken : (field : StockField) (s : List ℕ) → event_refusal field s ≡ 0 → TakenEvent field s
unfolding event_refusal frame_refusal
event-taken field s z =
    let r = reading (frame_in s) in
    let outer = both_zero (frame_refusal r) (cond (leb (state_size_of field) (length (state_in field s))) 0 11) z in
    let f = frame_read (frame_in s) in
    let passed = refusal-passed is_event (λ (x : Frame). refusal_where true x most_gateways latest_hour) r outer.0 in
    let both = passed.1 in
    record {
      form = passed.0;
      sense = eqb-true _ 0 (and_left _ (leb (kind_number f.message.kind) 3) both);
      kind = leb-true (kind_number f.message.kind) 3 (and_right (eqb (sense_number f.sense) 0) _ both);
      limits = passed.2;
      state = enough (length (state_in field s)) outer.1;
    }
  where
    enough : (n : ℕ) → ◌≡◌ {A = ℕ} (cond (leb (state_size_of field) n) 0 11) 0 → state_size_of field ≤ n
    enough n = go (dec_lt n (state_size_of field))
      where
        go : Dec (n < state_size_of field) → ◌≡◌ {A = ℕ} (cond (leb (state_size_of field) n) 0 11) 0 → state_size_of field ≤ n
        go (yes h) e = absurd (omega (arith, rw (lt-leb (state_size_of field) n h) at e))
        go (no h) e = omega arith

-- a Failure, Request or Delivery
pub record LampParts (field : StockField) (s : List ℕ) : Type 0 where
  pub kind : get_or s 1 0 ≤ 2
  pub number : kind_number (event_of field s).message.kind ≡ get_or s 1 0
  pub whole : whole_length (get_or s 0 0) ≡ 27
  pub long : 27 + state_size_of field ≤ length s
  pub hour : bytes_of 4 (event_of field s).message.hour ≡ part s 4 4
  pub origin : bytes_of 1 (origin_of (event_of field s).message.kind) ≡ part s 8 1
  pub lamp : (event_of field s).message.lamp ≡ part s 9 18
  pub state : (event_of field s).state ≡ state_with (stock_width_of field) (part s 27 (state_size_of field))

-- a Restock
pub record RestockParts (field : StockField) (s : List ℕ) : Type 0 where
  pub kind : get_or s 1 0 ≡ 3
  pub number : kind_number (event_of field s).message.kind ≡ get_or s 1 0
  pub whole : whole_length (get_or s 0 0) ≡ 10
  pub long : 10 + state_size_of field ≤ length s
  pub hour : bytes_of 4 (event_of field s).message.hour ≡ part s 4 4
  pub quantity : bytes_of 2 (quantity_of (event_of field s).message.kind) ≡ part s 8 2
  pub fits : quantity_of (event_of field s).message.kind < 256 ^ 2
  pub state : (event_of field s).state ≡ state_with (stock_width_of field) (part s 10 (state_size_of field))

pub data Parts (field : StockField) (s : List ℕ) : Type 0 where
  with_lamp : LampParts field s → Parts field s
  restock : RestockParts field s → Parts field s

-- the map of a frame without a sense
pub plain_map : (f : Frame) → sense_number f.sense ≡ 0 → map_of f ≡ map_of_kind (kind_number f.message.kind)
unfolding map_of
plain_map f e = rw e

-- a frame's bytes by its map
module _ (f : Frame) where
  abbrev kind_byte : List ℕ
  kind_byte = bytes_of 1 (kind_number f.message.kind)

  abbrev gateways : List ℕ
  gateways = bytes_of 1 f.message.from ++ bytes_of 1 f.message.to

  pub lamp-written : map_of f ≡ 63 → written f ≡ 63 ∷ (kind_byte ++ (gateways ++ (bytes_of 4 f.message.hour ++ (bytes_of 1 (origin_of f.message.kind) ++ (f.message.lamp ++ [])))))
  unfolding written contents standing joined bytes_of
  lamp-written e = rw e

  pub restock-written : map_of f ≡ 79 → written f ≡ 79 ∷ (kind_byte ++ (gateways ++ (bytes_of 4 f.message.hour ++ bytes_of 2 (quantity_of f.message.kind))))
  unfolding written contents standing joined bytes_of
  restock-written e = rw e

module _ (field : StockField) (s : List ℕ) (bytes : Bytes s) (t : TakenEvent field s) where
  abbrev f : Frame
  f = (frame_read (frame_in s))

  same : written f ≡ frame_in s
  same = one-to-one.read_written (frame_in s) (bytes_take (whole_length (get_or s 0 0)) s bytes) f t.form

  first : get_or (written f) 0 0 ≡ get_or s 0 0
  unfolding part
  first = ap (λ (l : List ℕ). get_or l 0 0) same ∙ get_d_part s 0 (whole_length (get_or s 0 0)) 0 (whole-some (get_or s 0 0))

  -- a part of its frame
  module _ {w : ℕ} (e : whole_length (get_or s 0 0) ≡ w) where
    in_frame : (at n : ℕ) → at + n ≤ w → part (written f) at n ≡ part s at n
    unfolding part
    in_frame at n h =
        let from : 0 + at ≡ at = omega arith in
        ap (λ (l : List ℕ). part l at n) same ∙ part-part s 0 (whole_length (get_or s 0 0)) at n (rw e h) ∙ ap (λ (k : ℕ). part s k n) from

    kind-there : 2 ≤ w → get_or (written f) 1 0 ≡ get_or s 1 0
    unfolding part
    kind-there h = ap (λ (l : List ℕ). get_or l 1 0) same ∙ get_d_part s 0 (whole_length (get_or s 0 0)) 1 (rw e h)

    whole-event : w + state_size_of field ≤ length s
    unfolding part
    whole-event = omega (arith, e, t.state, length-take (state_size_of field) (drop (whole_length (get_or s 0 0)) s), length-drop (whole_length (get_or s 0 0)) s)

    state-there : (event_of field s).state ≡ state_with (stock_width_of field) (part s w (state_size_of field))
    unfolding event_of
    state-there = rw e

  lamp-whole : length f.message.lamp ≡ 18
  lamp-whole = (one-to-one.read_ranged (frame_in s) (bytes_take (whole_length (get_or s 0 0)) s bytes) f t.form).lamp

  kind-few : kind_number f.message.kind < 256
  kind-few = let k = t.kind in omega arith

  lamp-parts : kind_number f.message.kind ≤ 2 → LampParts field s
  unfolding event_of part bytes_of whole_length
  lamp-parts k =
      let is = lamp-written f (plain_map f t.sense ∙ (lamp-fields (kind_number f.message.kind) k).map) in
      let map : get_or s 0 0 ≡ 63 = sym first ∙ ap (λ (l : List ℕ). get_or l 0 0) is in
      let whole : whole_length (get_or s 0 0) ≡ 27 = ap whole_length map in
      let number : kind_number f.message.kind ≡ get_or s 1 0 =
      sym (byte-back (kind_number f.message.kind) kind-few) ∙ sym (ap (λ (l : List ℕ). get_or l 1 0) is) ∙ kind-there whole (omega arith) in
      record {
        kind = omega (arith, number);
        number = number;
        whole = whole;
        long = whole-event whole;
        hour = sym (ap (λ (l : List ℕ). part l 4 4) is) ∙ in_frame whole 4 4 (omega arith);
        origin = sym (ap (λ (l : List ℕ). part l 8 1) is) ∙ in_frame whole 8 1 (omega arith);
        lamp = sym (take_at f.message.lamp [] 18 lamp-whole) ∙ sym (ap (λ (l : List ℕ). part l 9 18) is) ∙ in_frame whole 9 18 (omega arith);
        state = state-there whole;
      }

  restock-parts : kind_number f.message.kind ≡ 3 → RestockParts field s
  unfolding event_of part bytes_of whole_length
  restock-parts k =
      let is = restock-written f (plain_map f t.sense ∙ (restock-fields (kind_number f.message.kind) k).map) in
      let map : get_or s 0 0 ≡ 79 = sym first ∙ ap (λ (l : List ℕ). get_or l 0 0) is in
      let whole : whole_length (get_or s 0 0) ≡ 10 = ap whole_length map in
      let number : kind_number f.message.kind ≡ get_or s 1 0 =
      sym (byte-back (kind_number f.message.kind) kind-few) ∙ sym (ap (λ (l : List ℕ). get_or l 1 0) is) ∙ kind-there whole (omega arith) in
      record {
        kind = sym number ∙ k;
        number = number;
        whole = whole;
        long = whole-event whole;
        hour = sym (ap (λ (l : List ℕ). part l 4 4) is) ∙ in_frame whole 4 4 (omega arith);
        quantity = sym (ap (λ (l : List ℕ). part l 8 2) is) ∙ in_frame whole 8 2 (omega arith);
        fits = (one-to-one.read_ranged (frame_in s) (bytes_take (whole_length (get_or s 0 0)) s bytes) f t.form).quantity;
        state = state-there whole;
      }

  pub parts : Parts field s
  parts = go (dec_lt (kind_number f.message.kind) 3)
    where
      go : Dec (kind_number (frame_read (frame_in s)).message.kind < 3) → Parts field s
      go (yes h) = with_lamp (lamp-parts (omega arith))
      go (no h) = restock (restock-parts (let k = t.kind in omega arith))

-- of an event that is taken: its parts, by the kind in its second byte
module _ (field : StockField) (s : List ℕ) (bytes : Bytes s) (z : event_refusal field s ≡ 0) where
  taken-parts : Parts field s
  taken-parts = parts field s bytes (event-taken field s z)

  pub kind-inside : 1 < length s
  kind-inside = by taken-parts
    where
      by : Parts field s → 1 < length s
      by (with_lamp p) = omega (arith, p.long)
      by (restock p) = omega (arith, p.long)

  pub taken-restock : get_or s 1 0 ≡ 3 → RestockParts field s
  taken-restock k = by taken-parts
    where
      by : Parts field s → RestockParts field s
      by (with_lamp p) = absurd (omega (arith, p.kind, k))
      by (restock p) = p

  pub taken-lamp : (get_or s 1 0 ≡ 3 → ⊥) → LampParts field s
  taken-lamp k = by taken-parts
    where
      by : Parts field s → LampParts field s
      by (with_lamp p) = p
      by (restock p) = absurd (k p.kind)
