-- The first event of a record that is taken: it ends by the kind in its second byte, and what is behind it is a record that is taken.
use mathlib.Core.Path.{◌≡◌, ◌∙◌, ap}
use mathlib.Core.List.{List, [], ◌∷◌}
use Prim.Native.Nat.{ℕ, zero, suc, ◌≤◌, ◌<◌}
use native.Mathlib.Nat.{sub-zero}
use native.Mathlib.Omega.{arith}
use lib.ListN.{length, take, drop, get_or}
use Rattle.lists.specs.Lists.{cut_by}
use Rattle.lists.specs.Inside.Pieces.{pieces_from, piece_end}
use Rattle.lists.proofs.PieceLaws.{first-cons, pieces-next}
use Rattle.buffer.specs.Slice.{Bytes}
use Rattle.records.specs.Events.{event_length, cut_events, event_refusal, record_refusal}
use Rattle.records.specs.Inside.Finding.{event_at, length_of_kind}
use Rattle.records.specs.declared.StockField.{StockField}
use Rattle.records.proofs.EventBranches.{event-some}
use Rattle.records.proofs.EventEnds.{Ends, event-ends}

-- there are no events in no bytes
pub no_events : (field : StockField) (s : List ℕ) → length s ≡ 0 → cut_events field s ≡ []
unfolding cut_by
no_events field s e = rw e

-- there are no more events than bytes
pub cut_few : (size : ℕ → ℕ) (turns : ℕ) (s : List ℕ) → length (cut_by size turns s) ≤ turns
unfolding cut_by
cut_few size zero s = omega arith
cut_few size (suc turns) [] = omega arith
cut_few size (suc turns) (x ∷ s) = omega (arith, cut_few size turns (drop (size x) (x ∷ s)))

module _ (field : StockField) (bytes : List ℕ) (b : Bytes bytes) (z : record_refusal field bytes ≡ 0) (h : 0 < length bytes) where
  next : cut_events field bytes ≡ event_at field bytes 0 ∷ cut_events field (drop (piece_end (event_length field) bytes 0) bytes)
  unfolding pieces_from
  next = pieces-next (event_length field) (event-some field) bytes 0 h

  both : (event_refusal field (event_at field bytes 0) ≡ 0) × (record_refusal field (drop (piece_end (event_length field) bytes 0) bytes) ≡ 0)
  unfolding record_refusal
  both =
      first-cons (event_refusal field) (event_at field bytes 0) (cut_events field (drop (piece_end (event_length field) bytes 0) bytes)) (rw next at z)

  pub first-ends : Ends field bytes 0
  first-ends = event-ends field bytes b 0 h both.0

  -- its end as code finds it
  module _ {size : ℕ} (l : size ≡ length_of_kind field (get_or bytes 1 0)) where
    end : size ≡ piece_end (event_length field) bytes 0
    end = omega (arith, l, first-ends.end)

    pub first-inside : size ≤ length bytes
    first-inside = omega (arith, l, first-ends.inside)

    pub first-left : cut_events field bytes ≡ take size bytes ∷ cut_events field (drop size bytes)
    first-left =
        rw end
        (next ∙ ap (λ (n : ℕ). take n bytes ∷ cut_events field (drop (piece_end (event_length field) bytes 0) bytes)) (sub-zero (piece_end (event_length field) bytes 0)))

    pub rest-taken : record_refusal field (drop size bytes) ≡ 0
    rest-taken = rw end both.1
