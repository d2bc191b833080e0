-- Where an event that is taken ends: by the kind in its second byte.
use mathlib.Core.Path.{◌≡◌, sym, ◌∙◌}
use mathlib.Core.List.{List}
use Prim.Native.Nat.{ℕ, ◌+◌, ◌-◌, ◌≤◌, ◌<◌}
use native.Mathlib.Omega.{arith}
use lib.ListN.{length, drop, get_or, length-take, length-drop}
use borrow.Author.Tests.{ne_eqb}
use Rattle.lists.specs.Inside.Pieces.{piece_end}
use Rattle.buffer.specs.Slice.{Bytes, part}
use Rattle.buffer.proofs.Lent.{bytes-part}
use Rattle.buffer.proofs.Readings.{get_d_part}
use Rattle.frame.specs.Layout.{whole_length}
use Rattle.records.specs.Events.{state_size_of, event_length, event_refusal}
use Rattle.records.specs.Inside.Finding.{event_at, length_of_kind}
use Rattle.records.specs.declared.StockField.{StockField}
use Rattle.records.proofs.EventParts.{Parts, with_lamp, restock, event-taken, parts}
use Rattle.records.proofs.EventBranches.{first_byte}

-- its kind stands in the record, and it ends where its map says
pub record Ends (field : StockField) (bytes : List ℕ) (at : ℕ) : Type 0 where
  pub kind : at + 1 < length bytes
  pub end : at + length_of_kind field (get_or bytes (at + 1) 0) ≡ piece_end (event_length field) bytes at
  pub inside : at + length_of_kind field (get_or bytes (at + 1) 0) ≤ length bytes

module _ (field : StockField) (bytes : List ℕ) (b : Bytes bytes) (at : ℕ) (inside : at < length bytes) (z : event_refusal field (event_at field bytes at) ≡ 0) where
  abbrev s : List ℕ
  s = event_at field bytes at

  size : length s ≡ piece_end (event_length field) bytes at - at
  unfolding piece_end
  size = length-take (piece_end (event_length field) bytes at - at) (drop at bytes) ∙ rw (length-drop at bytes) (omega arith)

  second : 2 ≤ length s → get_or s 1 0 ≡ get_or bytes (at + 1) 0
  unfolding part
  second h = get_d_part bytes at (piece_end (event_length field) bytes at - at) 1 (rw (← size) h)

  by : Parts field s → Ends field bytes at
  unfolding piece_end
  by (with_lamp p) =
      let kind : get_or bytes (at + 1) 0 ≡ get_or s 1 0 = sym (second (omega (arith, p.long))) in
      let few = p.kind in
      let size_is : length_of_kind field (get_or bytes (at + 1) 0) ≡ 27 + state_size_of field = rw (kind, ne_eqb (get_or s 1 0) 3 (λ e. omega arith)) in
      let whole : whole_length (get_or bytes at 0) ≡ 27 = rw (← first_byte field bytes at inside) p.whole in
      record {
        kind = omega (arith, p.long, size);
        end = omega (arith, size_is, whole, p.long, size);
        inside = omega (arith, size_is, p.long, size);
      }
  by (restock p) =
      let kind : get_or bytes (at + 1) 0 ≡ get_or s 1 0 = sym (second (omega (arith, p.long))) in
      let size_is : length_of_kind field (get_or bytes (at + 1) 0) ≡ 10 + state_size_of field = rw (kind, p.kind) in
      let whole : whole_length (get_or bytes at 0) ≡ 10 = rw (← first_byte field bytes at inside) p.whole in
      record {
        kind = omega (arith, p.long, size);
        end = omega (arith, size_is, whole, p.long, size);
        inside = omega (arith, size_is, p.long, size);
      }

  pub event-bytes : Bytes s
  unfolding part
  event-bytes = bytes-part bytes at (piece_end (event_length field) bytes at - at) b

  pub event-ends : Ends field bytes at
  event-ends = by (parts field s event-bytes (event-taken field s z))
