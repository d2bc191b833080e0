-- How many bytes a frame is written as.
use Rattle.std.proofs.Common.{◌≡◌, ℕ, ◌≤◌, Bool, true, false, List, Ok, leb, eqb, length, refl, ap, arith, leb-true}
use Rattle.buffer.specs.Slice.{write}
use Rattle.frame.specs.Writing.{WriteOutcome, outcome_of, not_written, unless, value_refusal, written, writing}
use Rattle.frame.specs.declared.Frame.{Frame}

-- no more than the output has room for
count-le-room : (f : Frame) (room : List ℕ) → (writing f room).count ≤ length room
unfolding writing
count-le-room f room = by_tests (eqb (value_refusal f) 0) (leb (length (written f)) (length room)) refl
  where
    by_tests : (accepted fits : Bool) → leb (length (written f)) (length room) ≡ fits
        → (unless accepted (not_written (value_refusal f) room)
        (unless fits (not_written 5 room) (record { number = 0; count = length (written f); output = write 0 (written f) room }))).count ≤ length room
    by_tests false fits e = omega arith
    by_tests true false e = omega arith
    by_tests true true e = leb-true (length (written f)) (length room) e

pub written-within : (f : Frame) (room : List ℕ) {count : ℕ} {out : List ℕ} → outcome_of (Ok count) out ≡ writing f room → count ≤ length room
written-within f room e = rw (ap (λ (w : WriteOutcome). w.count) e) (count-le-room f room)
