-- An event that is good by its bytes at their places is one that is written, and so is taken.
use mathlib.Core.Path.{◌≡◌, refl, sym, ◌∙◌, ap, ap₂}
use mathlib.Core.Bool.{Bool, true, false, not}
use mathlib.Core.List.{List, ◌∷◌, ◌++◌, append-nil}
use Prim.Native.Nat.{ℕ, zero, suc, ◌+◌, ◌-◌, ◌≤◌, ◌<◌}
use native.Mathlib.Omega.{arith}
use lib.Dec.{leb, eqb, lit<}
use lib.ListN.{length, take, drop, get_or, replicate}
use borrow.Author.Tests.{eqb-true, eqb-false, leb-true, not-true}
use Rattle.lists.specs.Inside.Pieces.{piece_end}
use Rattle.lists.proofs.BoolLaws.{and_left, and_right}
use Rattle.buffer.specs.Slice.{Bytes, part}
use Rattle.buffer.specs.Number.{bytes_of, number_of}
use Rattle.buffer.proofs.Copies.{number-again}
use Rattle.buffer.proofs.Lent.{bytes-part}
use Rattle.buffer.proofs.Readings.{get_d_part}
use Rattle.buffer.proofs.Standing.{part-add, part-whole}
use Rattle.buffer.proofs.Writes.{length_part, part-cons}
use Rattle.model.specs.Messages.{kind_number, origin_of, quantity_of, kind_of}
use Rattle.model.specs.declared.Kind.{Kind}
use Rattle.model.specs.declared.Kind.TheVariants.{Restock}
use Rattle.model.specs.declared.Message.{Message}
use Rattle.frame.specs.Kinds.{has_hour, has_lamp}
use Rattle.frame.specs.Writing.{all_between, lamp_fits, gateways_agree, well_formed, written}
use Rattle.frame.proofs.Accepted.{kind-back}
use Rattle.frame.proofs.Presence.{EventFields, lamp-fields, restock-fields, own-fields}
use Rattle.memory.specs.Layout.{state_size}
use Rattle.memory.specs.Validity.{frame_if}
use Rattle.memory.proofs.FromBytes.{byte_next, number-next, number_fits}
use Rattle.records.specs.declared.StockField.{StockField}
use Rattle.records.specs.Events.{most_gateways, latest_hour, state_size_of, event_length, event_refusal, event_of}
use Rattle.records.specs.Inside.Finding.{event_at, Finds, good_gateways, good_with_lamp, good_restock}
use Rattle.records.proofs.EventParts.{lamp-written, restock-written, plain_map}
use Rattle.records.proofs.WrittenEvents.{Recordable, event-whole, event-taken, message-read}

-- what the gateways keep to that are good
record GoodGateways (from to : ℕ) (k : Kind) : Type 0 where
  from-below : from < 256 → from < most_gateways
  to_below : to < 256 → to < most_gateways
  origin-below : origin_of k < 256 → origin_of k < most_gateways
  agree : gateways_agree from to k ≡ true

not_255 : (n : ℕ) → not (eqb n 255) ≡ true → n < 256 → n < most_gateways
not_255 n e h = let d = eqb-false n 255 (not-true (eqb n 255) e) in omega arith

good-gateways : (from to : ℕ) (k : Kind) → good_gateways from to k ≡ true → GoodGateways from to k
unfolding good_gateways
good-gateways from to k e =
    let rest = and_right (not (eqb from 255)) _ e in
    let last = and_right (not (eqb to 255)) _ rest in
    record {
      from-below = not_255 from (and_left _ _ e);
      to_below = not_255 to (and_left _ _ rest);
      origin-below = not_255 (origin_of k) (and_left _ _ last);
      agree = and_right (not (eqb (origin_of k) 255)) _ last;
    }

-- a good event is found at a position
pub record FoundGood (field : StockField) (bytes : List ℕ) (at kind end : ℕ) : Type 0 where
  pub number : 0 ≡ event_refusal field (event_at field bytes at)
  pub event : Finds field bytes at (record { kind = kind; end = end })

-- an event is found at a position where its frame is written and enough bytes for its state follow
module _ (field : StockField) (bytes : List ℕ) (at w : ℕ) (inside : at + (w + state_size_of field) ≤ length bytes) where
  abbrev piece : List ℕ
  piece = part bytes at (w + state_size_of field)

  abbrev state : List ℕ
  state = part bytes (at + w) (state_size_of field)

  first : get_or piece 0 0 ≡ get_or bytes at 0
  first =
      let same : at + 0 ≡ at = omega arith in
      get_d_part bytes at (w + state_size_of field) 0 (omega arith) ∙ ap (λ (k : ℕ). get_or bytes k 0) same

  pub found-whole : (m : Message) → Recordable m → written (frame_if false m) ≡ part bytes at w → {kind end : ℕ} → kind ≡ kind_number m.kind
      → end ≡ at + (w + state_size_of field) → FoundGood field bytes at kind end
  unfolding piece_end part
  found-whole m k frame {kind} {end} ek ee =
      let size : length state ≡ state_size_of field = length_part bytes (at + w) (state_size_of field) (omega arith) in
      let is : written (frame_if false m) ++ state ≡ piece = ap (λ (l : List ℕ). l ++ state) frame ∙ sym (part-add bytes at w (state_size_of field)) in
      let long : event_length field (get_or bytes at 0) ≡ w + state_size_of field =
      ap (event_length field) (sym first)
      ∙ ap (λ (l : List ℕ). event_length field (get_or l 0 0)) (sym is)
      ∙ event-whole field m k state size
      ∙ ap length is
      ∙ length_part bytes at (w + state_size_of field) inside in
      let behind : piece_end (event_length field) bytes at ≡ at + (w + state_size_of field) = omega (arith, long) in
      let there : event_at field bytes at ≡ written (frame_if false m) ++ state =
      let k : piece_end (event_length field) bytes at - at ≡ w + state_size_of field = omega (arith, behind) in ap (λ (k : ℕ). take k (drop at bytes)) k ∙ sym is in
      let taken : event_refusal field (event_at field bytes at) ≡ 0 = ap (event_refusal field) there ∙ event-taken field m k state size in
      let same : kind ≡ kind_number (event_of field (event_at field bytes at)).message.kind =
      ek ∙ sym (ap (λ (m : Message). kind_number m.kind) (ap (λ (l : List ℕ). (event_of field l).message) there ∙ message-read field m k state size)) in
      let last : end ≡ piece_end (event_length field) bytes at = ee ∙ sym behind in
      record { number = sym taken; event = record { kind = same; end = last } }

-- a kind with a lamp, made of its number and its origin
record LampKind (n origin : ℕ) : Type 0 where
  number : kind_number (kind_of n origin 0) ≡ n
  its-origin : origin_of (kind_of n origin 0) ≡ origin
  no-quantity : quantity_of (kind_of n origin 0) ≡ 0

lamp-kind : (n origin : ℕ) → n ≤ 2 → LampKind n origin
lamp-kind n origin h =
    let fields = lamp-fields n h in
    record {
      number = kind-back n origin 0 (omega arith);
      its-origin = own-fields.origin n origin 0 ∙ rw fields.origin;
      no-quantity = own-fields.quantity n origin 0 ∙ rw fields.quantity;
    }

-- the frame of a Failure, Request or Delivery
module _ (s : List ℕ) (b : Bytes s) (long : length s ≡ 27) (g : good_with_lamp s ≡ true) where
  abbrev k : Kind
  k = kind_of (get_or s 1 0) (get_or s 8 0) 0

  abbrev lamp_message : Message
  lamp_message = record { hour = number_of (part s 4 4); from = get_or s 2 0; to = get_or s 3 0; kind = k; lamp = part s 9 18 }

  record Tests : Type 0 where
    map : get_or s 0 0 ≡ 63
    kind : get_or s 1 0 ≤ 2
    gateways : GoodGateways (get_or s 2 0) (get_or s 3 0) k
    hour : number_of (part s 4 4) ≤ latest_hour
    lamp : all_between 33 126 (part s 9 18) ≡ true

  tests : Tests
  unfolding good_with_lamp
  tests =
      let one = and_right (eqb (get_or s 0 0) 63) _ g in
      let two = and_right (leb (get_or s 1 0) 2) _ one in
      let three = and_right (good_gateways (get_or s 2 0) (get_or s 3 0) k) _ two in
      record {
        map = eqb-true (get_or s 0 0) 63 (and_left _ _ g);
        kind = leb-true (get_or s 1 0) 2 (and_left _ _ one);
        gateways = good-gateways (get_or s 2 0) (get_or s 3 0) k (and_left _ _ two);
        hour = leb-true (number_of (part s 4 4)) latest_hour (and_left _ _ three);
        lamp = and_right (leb (number_of (part s 4 4)) latest_hour) _ three;
      }

  is-kind : LampKind (get_or s 1 0) (get_or s 8 0)
  is-kind = lamp-kind (get_or s 1 0) (get_or s 8 0) tests.kind

  its-fields : EventFields (get_or s 1 0) 63 true
  its-fields = lamp-fields (get_or s 1 0) tests.kind

  -- its bytes, one behind the other
  abbrev fields : List ℕ
  fields =
      bytes_of 1 (get_or s 1 0)
      ++ (bytes_of 1 (get_or s 2 0)
      ++ (bytes_of 1 (get_or s 3 0)
      ++ (bytes_of 4 (number_of (part s 4 4)) ++ (bytes_of 1 (get_or s 8 0) ++ part s 9 18))))

  fields-are : fields ≡ part s 1 26
  fields-are =
      byte_next s b 1 25 (omega arith)
      (byte_next s b 2 24 (omega arith)
      (byte_next s b 3 23 (omega arith) (number-next s b 4 4 19 (omega arith) (byte_next s b 8 18 (omega arith) refl))))

  all_are : 63 ∷ fields ≡ s
  all_are = ap₂ ◌∷◌ (sym tests.map) fields-are ∙ sym (part-cons s 0 26 (omega arith)) ∙ part-whole s 27 (omega arith)

  lamp-bytes : written (frame_if false lamp_message) ≡ s
  unfolding bytes_of
  lamp-bytes =
      let map = plain_map (frame_if false lamp_message) refl ∙ (lamp-fields (kind_number k) (rw is-kind.number tests.kind)).map in
      lamp-written (frame_if false lamp_message) map ∙ rw (is-kind.number, is-kind.its-origin, append-nil (part s 9 18)) all_are

  lamp-recordable : Recordable lamp_message
  unfolding well_formed lamp_fits
  lamp-recordable =
      let t = tests in
      let number = is-kind.number in
      let few = t.kind in
      record {
        kind = rw number (omega arith);
        form = rw (number, its-fields.hour, its-fields.lamp, t.lamp, t.gateways.agree);
        ranged = record {
          hour = number_fits s 4 4 b (omega arith);
          from = b 2;
          to = b 3;
          origin = rw is-kind.its-origin (b 8);
          quantity = rw is-kind.no-quantity (omega arith);
          lamp = length_part s 9 18 (omega arith);
          bytes = bytes-part s 9 18 b;
        };
        from = t.gateways.from-below (b 2);
        to = t.gateways.to_below (b 3);
        origin = t.gateways.origin-below (rw is-kind.its-origin (b 8));
        hour = t.hour;
      }

-- the frame of a Restock
module _ (s : List ℕ) (b : Bytes s) (long : length s ≡ 10) (g : good_restock s ≡ true) where
  abbrev restock_message : Message
  restock_message = record {
    hour = number_of (part s 4 4);
    from = get_or s 2 0;
    to = get_or s 3 0;
    kind = Restock (number_of (part s 8 2));
    lamp = replicate 18 0;
  }

  record RestockTests : Type 0 where
    map : get_or s 0 0 ≡ 79
    kind : get_or s 1 0 ≡ 3
    gateways : GoodGateways (get_or s 2 0) (get_or s 3 0) (Restock 0)
    hour : number_of (part s 4 4) ≤ latest_hour

  restock-tests : RestockTests
  unfolding good_restock
  restock-tests =
      let one = and_right (eqb (get_or s 0 0) 79) _ g in
      let two = and_right (eqb (get_or s 1 0) 3) _ one in
      record {
        map = eqb-true (get_or s 0 0) 79 (and_left _ _ g);
        kind = eqb-true (get_or s 1 0) 3 (and_left _ _ one);
        gateways = good-gateways (get_or s 2 0) (get_or s 3 0) (Restock 0) (and_left _ _ two);
        hour = leb-true (number_of (part s 4 4)) latest_hour (and_right (good_gateways (get_or s 2 0) (get_or s 3 0) (Restock 0)) _ two);
      }

  abbrev restock_fields : List ℕ
  restock_fields =
      bytes_of 1 (get_or s 1 0)
      ++ (bytes_of 1 (get_or s 2 0)
      ++ (bytes_of 1 (get_or s 3 0) ++ (bytes_of 4 (number_of (part s 4 4)) ++ bytes_of 2 (number_of (part s 8 2)))))

  restock-are : 79 ∷ restock_fields ≡ s
  restock-are =
      ap₂ ◌∷◌ (sym restock-tests.map)
      (byte_next s b 1 8 (omega arith)
      (byte_next s b 2 7 (omega arith)
      (byte_next s b 3 6 (omega arith) (number-next s b 4 4 2 (omega arith) (number-again s b 8 2 (omega arith))))))
      ∙ sym (part-cons s 0 9 (omega arith))
      ∙ part-whole s 10 (omega arith)

  restock-bytes : written (frame_if false restock_message) ≡ s
  unfolding bytes_of
  restock-bytes =
      let map = plain_map (frame_if false restock_message) refl ∙ (restock-fields 3 refl).map in
      restock-written (frame_if false restock_message) map ∙ (rw restock-tests.kind at restock-are)

  restock-recordable : Recordable restock_message
  unfolding well_formed lamp_fits all_between has_hour has_lamp
  restock-recordable =
      let t = restock-tests in
      record {
        kind = omega arith;
        form = rw t.gateways.agree;
        ranged = record {
          hour = number_fits s 4 4 b (omega arith);
          from = b 2;
          to = b 3;
          origin = omega arith;
          quantity = number_fits s 8 2 b (omega arith);
          lamp = refl;
          bytes = zeros 18;
        };
        from = t.gateways.from-below (b 2);
        to = t.gateways.to_below (b 3);
        origin = omega arith;
        hour = t.hour;
      }
    where
      zeros : (n : ℕ) → Bytes (replicate n 0)
      zeros zero i = lit< tt
      zeros (suc n) zero = lit< tt
      zeros (suc n) (suc i) = zeros n i

-- the event that is found where the frame at a position is good
module _ (field : StockField) (bytes : List ℕ) (b : Bytes bytes) (at : ℕ) {state : ℕ} (w : (state ≡ state_size_of field) × (state ≤ state_size)) where
  pub lamp-found : {good : Bool} → 27 + state ≤ length bytes - at → good ≡ good_with_lamp (take (at + 27 - at) (drop at bytes)) → good ≡ true
      → FoundGood field bytes at (get_or bytes (at + 1) 0) (at + (27 + state))
  unfolding part
  lamp-found room e t =
      let h : at + (27 + state_size_of field) ≤ length bytes = omega (arith, w.0) in
      let whole : at + 27 - at ≡ 27 = omega arith in
      let s = part bytes at 27 in
      let bs = bytes-part bytes at 27 b in
      let long = length_part bytes at 27 (omega arith) in
      let g = sym (rw whole at e) ∙ t in
      found-whole field bytes at 27 h (lamp_message s bs long g) (lamp-recordable s bs long g) (lamp-bytes s bs long g)
      (sym (get_d_part bytes at 27 1 (omega arith)) ∙ sym (is-kind s bs long g).number) (omega (arith, w.0))

  pub restock-found : {good : Bool} → 10 + state ≤ length bytes - at → good ≡ good_restock (take (at + 10 - at) (drop at bytes)) → good ≡ true
      → FoundGood field bytes at 3 (at + (10 + state))
  unfolding part
  restock-found room e t =
      let h : at + (10 + state_size_of field) ≤ length bytes = omega (arith, w.0) in
      let whole : at + 10 - at ≡ 10 = omega arith in
      let s = part bytes at 10 in
      let bs = bytes-part bytes at 10 b in
      let long = length_part bytes at 10 (omega arith) in
      let g = sym (rw whole at e) ∙ t in
      found-whole field bytes at 10 h (restock_message s bs long g) (restock-recordable s bs long g) (restock-bytes s bs long g) {kind = 3} refl (omega (arith, w.0))
