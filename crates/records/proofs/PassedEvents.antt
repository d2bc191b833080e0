-- The pass over a record up to its first refusal: a law for each branch of the code.
use mathlib.Core.Path.{◌≡◌, refl, ◌∙◌, ap}
use mathlib.Core.List.{List}
use Prim.Native.Nat.{ℕ, ◌+◌, ◌-◌, ◌≤◌, ◌<◌}
use native.Mathlib.Omega.{arith}
use native.Mathlib.Decide.{ℕ_discrete}
use lib.ListN.{length, take, drop, get_or}
use borrow.Author.Tests.{ne_eqb}
use Rattle.lists.specs.Inside.Pieces.{pieces_from, piece_end}
use Rattle.lists.proofs.PieceLaws.{Between, Passing, Passed, passing-end, passing-refused, weight-few, passing-turn, end-between}
use Rattle.buffer.specs.Slice.{Bytes, part}
use Rattle.buffer.proofs.Lent.{bytes-part}
use Rattle.records.specs.Events.{state_size_of, event_length, event_refusal, record_refusal}
use Rattle.records.specs.Inside.Finding.{event_at, Finds, weight_of, event_weight, passed_as}
use Rattle.records.specs.declared.Found.{Found}
use Rattle.records.specs.declared.Weights.{Weights}
use Rattle.records.specs.declared.StockField.{StockField}
use Rattle.records.proofs.EventBranches.{event-some}
use Rattle.records.proofs.EventParts.{taken-restock, taken-lamp}

-- what is asked of the weights: none is more than the event has bytes
abbrev Light : StockField → Weights → Type 0
Light field weights = (weights.lamp ≤ 27 + state_size_of field) × (weights.restock ≤ 10 + state_size_of field)

module _ (field : StockField) (weights : Weights) (bytes : List ℕ) where
  -- the pass has come to a position, and none before it is refused
  abbrev pub PassedTo : ℕ → ℕ → Type 0
  PassedTo sum at = Passing (event_length field) (event_refusal field) (event_weight field weights) bytes sum at

  pub pass-start : PassedTo 0 0
  pass-start = record { inside = omega arith; few = omega arith; rest = refl; counted = omega arith }

  passed : (number sum : ℕ) → Passed (event_length field) (event_refusal field) (event_weight field weights) bytes number sum
      → record { number = number; weight = sum } ≡ passed_as field weights bytes
  unfolding record_refusal pieces_from
  passed number sum p = λ i. record { number = p.first i; weight = p.added i }

  module _ (l : Light field weights) (b : Bytes bytes) where
    light : (at n : ℕ) → let s = take n (drop at bytes) in 1 ≤ length s → event_refusal field s ≡ 0 → event_weight field weights s ≤ length s
    unfolding part
    light at n h z = by (ℕ_discrete (get_or (part bytes at n) 1 0) 3)
      where
        its-bytes : Bytes (part bytes at n)
        its-bytes = bytes-part bytes at n b

        by : Dec (get_or (part bytes at n) 1 0 ≡ 3) → event_weight field weights (part bytes at n) ≤ length (part bytes at n)
        by (yes k) = let p = taken-restock field (part bytes at n) its-bytes z k in rw (p.number, k) (omega (arith, p.long, l.1))
        by (no k) =
            let p = taken-lamp field (part bytes at n) its-bytes z k in
            rw (p.number, ne_eqb (get_or (part bytes at n) 1 0) 3 k) (omega (arith, p.long, l.0))

    module _ (sum at : ℕ) (p : PassedTo sum at) where
      pub pass-end : length bytes ≤ at → record { number = 0; weight = sum } ≡ passed_as field weights bytes
      pass-end h = passed 0 sum (passing-end (event_length field) (event-some field) (event_refusal field) (event_weight field weights) bytes light sum at p h)

      module _ (h : at < length bytes) {number : ℕ} (q : number ≡ event_refusal field (event_at field bytes at)) where
        pub pass-refused : (number ≡ 0 → ⊥) → record { number = number; weight = sum } ≡ passed_as field weights bytes
        pass-refused d =
            passed number sum
            (passing-refused (event_length field) (event-some field) (event_refusal field) (event_weight field weights) bytes light sum at p h refl q d)

        module _ (z : number ≡ 0) {f : Found} (g : Finds field bytes at f) {n : ℕ} (w : n ≡ weight_of weights f.kind) where
          weight : n ≡ event_weight field weights (take (piece_end (event_length field) bytes at - at) (drop at bytes))
          weight = w ∙ ap (weight_of weights) g.kind

          ends : Between at f.end (length bytes)
          ends = end-between (event_length field) (event-some field) bytes at h g.end

          pub pass-room : sum + n ≤ length bytes
          pass-room =
              let few = weight-few (event_length field) (event-some field) (event_refusal field) (event_weight field weights) bytes light sum at p h refl q z in
              let inside = (end-between (event_length field) (event-some field) bytes at h refl).inside in
              omega (arith, few, weight, inside)

          pub pass-later : at < f.end
          pass-later = ends.later

          pub pass-inside : f.end ≤ length bytes
          pass-inside = ends.inside

          pub pass-turn : PassedTo (sum + n) f.end
          pass-turn =
              rw g.end
              (passing-turn (event_length field) (event-some field) (event_refusal field) (event_weight field weights) bytes light sum at p h refl q z weight)
