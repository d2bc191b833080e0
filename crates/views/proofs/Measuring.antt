-- The pass that checks a record measures a view, and the view is no longer than the record.
use mathlib.Core.Path.{◌≡◌, sym, ◌∙◌, ap}
use mathlib.Core.List.{List, map}
use Prim.Native.Nat.{ℕ, ◌+◌, ◌≤◌}
use native.Mathlib.Omega.{arith}
use lib.ListN.{length}
use Rattle.lists.specs.Lists.{◌∈◌, first_number, joined, tally}
use Rattle.lists.proofs.PieceLaws.{pieces-join, first-none, none-refused}
use Rattle.lists.proofs.ListLaws.{length-joined, joined-map, tally-less, tally-same}
use Rattle.frame.proofs.PieceBytes.{cut-bytes}
use Rattle.buffer.specs.Slice.{Bytes}
use Rattle.records.specs.Events.{state_size_of, event_length, cut_events, event_refusal, record_refusal, event_of, events_of}
use Rattle.records.specs.Inside.Finding.{event_weight, Passed, passed_as}
use Rattle.records.specs.declared.Weights.{Weights}
use Rattle.records.specs.declared.StockField.{StockField}
use Rattle.records.specs.declared.StockField.TheVariants.{Present, Old}
use Rattle.records.proofs.EventBranches.{event-some}
use Rattle.views.specs.Bytes.{event_view, view}
use Rattle.views.specs.Inside.Parts.{lengths_for, view_length}
use Rattle.views.specs.declared.Reader.{Reader}
use Rattle.views.specs.declared.Reader.TheVariants.{Purchasing, Maintenance}
use Rattle.views.proofs.ViewParts.{view-length, view-shorter}

-- what a view has of an event is no more than the event has bytes
pub lengths-fit : (reader : Reader) (field : StockField) → {weights : Weights} → weights ≡ lengths_for reader
    → (weights.lamp ≤ 27 + state_size_of field) × (weights.restock ≤ 10 + state_size_of field)
lengths-fit reader field e = rw e (by reader field)
  where
    by : (reader : Reader) (field : StockField) → ((lengths_for reader).lamp ≤ 27 + state_size_of field) × ((lengths_for reader).restock ≤ 10 + state_size_of field)
    by Purchasing Present = (omega arith, omega arith)
    by Purchasing Old = (omega arith, omega arith)
    by Maintenance Present = (omega arith, omega arith)
    by Maintenance Old = (omega arith, omega arith)

-- of a record that is taken the pass over it measures all of the view
pub all-measured : (reader : Reader) (field : StockField) (bytes : List ℕ) → Bytes bytes → {weights : Weights} {p : Passed} → weights ≡ lengths_for reader
    → p ≡ passed_as field weights bytes → p.number ≡ 0 → p.weight ≡ length (view reader field bytes)
unfolding record_refusal view events_of
all-measured reader field bytes b {weights} {p} e q z =
    let events = cut_events field bytes in
    let is : p ≡ passed_as field (lengths_for reader) bytes = q ∙ ap (λ (w : Weights). passed_as field w bytes) e in
    let none : first_number (event_refusal field) events ≡ 0 = sym (ap (λ (x : Passed). x.number) is) ∙ z in
    let weighs = λ (s : List ℕ) (m : s ∈ events).
    view-length field s (cut-bytes (event_length field) (length bytes) bytes b s m) (first-none (event_refusal field) events none s m) reader in
    ap (λ (x : Passed). x.weight) is
    ∙ rw (none-refused (event_refusal field) events none)
    (tally-same (event_weight field (lengths_for reader)) (view_length reader field) events weighs
    ∙ sym (ap length (joined-map (event_view reader) (event_of field) events) ∙ length-joined (λ s. event_view reader (event_of field s)) events))

-- and it is no longer than the record
pub view-within : (reader : Reader) (field : StockField) (bytes : List ℕ) → Bytes bytes → record_refusal field bytes ≡ 0 → length (view reader field bytes) ≤ length bytes
unfolding record_refusal view events_of
view-within reader field bytes b z =
    let whole : tally length (cut_events field bytes) ≡ length bytes =
    sym (length-joined (λ p. p) (cut_events field bytes)) ∙ ap length (pieces-join (event_length field) (event-some field) (length bytes) bytes (omega arith)) in
    let all : length (joined (event_view reader) (map (event_of field) (cut_events field bytes))) ≡ tally (view_length reader field) (cut_events field bytes) =
    ap length (joined-map (event_view reader) (event_of field) (cut_events field bytes)) ∙ length-joined (λ s. event_view reader (event_of field s)) (cut_events field bytes) in
    let each = tally-less (view_length reader field) length (cut_events field bytes) (λ s m. view-shorter field s (cut-bytes (event_length field) (length bytes) bytes b s m)
    (first-none (event_refusal field) (cut_events field bytes) z s m) reader) in
    omega (arith, all, whole, each)
