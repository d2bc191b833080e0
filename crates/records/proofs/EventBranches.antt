-- Reading one event of a record: a law for each branch of the code.
use mathlib.Core.Path.{◌≡◌, refl, sym, ◌∙◌, ap}
use mathlib.Core.Bool.{Bool, true, false, cond, ◌&&◌}
use mathlib.Core.List.{List}
use Prim.Native.Nat.{ℕ, ◌+◌, ◌-◌, ◌≤◌, ◌<◌, min}
use native.Mathlib.Omega.{arith}
use lib.Dec.{eqb}
use lib.ListN.{length, take, drop, get_or, length-take, length-drop}
use lib.Seq.{take-take}
use borrow.Author.Tests.{eq-eqb, ne_eqb, le-leb, lt-leb}
use Rattle.lists.specs.Inside.Pieces.{piece_end}
use Rattle.lists.proofs.PieceLaws.{same-piece}
use Rattle.buffer.specs.Slice.{part}
use Rattle.buffer.proofs.Readings.{get_d_part}
use Rattle.model.specs.Messages.{kind_number}
use Rattle.frame.specs.Layout.{whole_length}
use Rattle.frame.specs.Limits.{refusal_where}
use Rattle.frame.specs.Reasons.{reading, frame_read}
use Rattle.frame.specs.declared.Frame.{Frame}
use Rattle.frame.proofs.Sizes.{whole-some}
use Rattle.memory.specs.Layout.{state_size}
use Rattle.records.specs.Events.{most_gateways, latest_hour, state_size_of, event_length, frame_in, state_in, is_event, frame_refusal, event_refusal, event_of}
use Rattle.records.specs.Inside.Finding.{event_at, Finds}
use Rattle.records.specs.declared.StockField.{StockField}

-- every event has a byte
pub event-some : (field : StockField) (map : ℕ) → 1 ≤ event_length field map
event-some field map = omega (arith, whole-some map)

-- the event at a position
module _ (field : StockField) (bytes : List ℕ) (at : ℕ) (inside : at < length bytes) where
  abbrev s : List ℕ
  s = event_at field bytes at

  -- as many bytes as its map says
  cut : s ≡ take (event_length field (get_or bytes at 0)) (drop at bytes)
  cut = sym (same-piece (event_length field) (event-some field) bytes at inside)

  pub first_byte : get_or s 0 0 ≡ get_or bytes at 0
  unfolding part
  first_byte =
      ap (λ (l : List ℕ). get_or l 0 0) cut
      ∙ get_d_part bytes at (event_length field (get_or bytes at 0)) 0 (event-some field (get_or bytes at 0))
      ∙ ap (λ (k : ℕ). get_or bytes k 0) (omega arith)

  module _ {end : ℕ} (e : end ≡ piece_end whole_length bytes at) where
    -- its frame
    pub frame-of : take (end - at) (drop at bytes) ≡ frame_in s
    frame-of =
        rw (e, ← same-piece whole_length whole-some bytes at inside)
        (sym (rw (first_byte, cut) (take-take (whole_length (get_or bytes at 0)) (event_length field (get_or bytes at 0)) (drop at bytes) (omega arith))))

    -- how many bytes its state has
    state-size : length (state_in field s) ≡ min (state_size_of field) (min (event_length field (get_or bytes at 0)) (length bytes - at) - whole_length (get_or bytes at 0))
    unfolding part
    state-size = rw (first_byte, cut) (simp (length-take, length-drop))

    module _ {number : ℕ} (n : number ≡ frame_refusal (reading (take (end - at) (drop at bytes)))) where
      frame-number : number ≡ frame_refusal (reading (frame_in s))
      frame-number = n ∙ ap (λ (l : List ℕ). frame_refusal (reading l)) frame-of

      -- refused for its frame
      pub at-frame : (number ≡ 0 → ⊥) → number ≡ event_refusal field s
      unfolding event_refusal
      at-frame d = rw (← frame-number, ne_eqb number 0 d)

      module _ (z : number ≡ 0) {size : ℕ} (w : (size ≡ state_size_of field) × (size ≤ state_size)) where
        -- refused for its state
        pub at-state : length bytes - end < size → 11 ≡ event_refusal field s
        unfolding event_refusal piece_end
        at-state h =
            let short : length (state_in field s) < state_size_of field = omega (arith, state-size, e, w.0) in
            rw (← frame-number, eq-eqb number 0 z, lt-leb (state_size_of field) (length (state_in field s)) short)

        module _ (h : size ≤ length bytes - end) where
          -- not refused
          pub at-event : 0 ≡ event_refusal field s
          unfolding event_refusal piece_end
          at-event =
              let whole : state_size_of field ≤ length (state_in field s) = omega (arith, state-size, e, w.0) in
              rw (← frame-number, eq-eqb number 0 z, le-leb (state_size_of field) (length (state_in field s)) whole)

          -- and so found
          pub at-found : {frame : Frame} {kind : ℕ} → frame ≡ frame_read (take (end - at) (drop at bytes)) → kind ≡ kind_number frame.message.kind
              → Finds field bytes at (record { kind = kind; end = end + size })
          unfolding event_of piece_end
          at-found q k = record {
            kind = k ∙ ap (λ (f : Frame). kind_number f.message.kind) (q ∙ ap frame_read frame-of);
            end = omega (arith, e, w.0);
          }
