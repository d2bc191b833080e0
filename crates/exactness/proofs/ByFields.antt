-- A place compared with the bytes of what it is read as: only what reading leaves out has to be compared.
use mathlib.Core.Path.{◌≡◌, refl, ◌∙◌, ap}
use Prim.Native.Nat.{ℕ, zero, suc, ◌<◌, ◌≤◌}
use native.Mathlib.Omega.{arith}
use mathlib.Core.Bool.{Bool, true, false, ◌&&◌, and_assoc, and-true}
use mathlib.Core.List.{List, [], ◌++◌, append_assoc}
use lib.Dec.{eqb, leb, lit<}
use lib.ListN.{length, get_or, drop, replicate, drop_of_length-le}
use borrow.Author.Tests.{ne_eqb, lt-leb}
use Rattle.buffer.specs.Slice.{Bytes, part, same_bytes}
use Rattle.buffer.specs.Number.{bytes_of, number_of}
use Rattle.buffer.proofs.Writes.{length_part}
use Rattle.buffer.proofs.Lent.{bytes-part}
use Rattle.model.specs.Messages.{kind_number, origin_of, quantity_of}
use Rattle.memory.specs.Layout.{message_size, outstanding_size, queue_size, state_size, zeros_at, zeros_size}
use Rattle.memory.specs.Codec.{mark_number, mark_of, cancel_number, state_bytes, state_of, message_bytes, message_of, entry_bytes, entry_of, sent_bytes, sent_of}
use Rattle.exactness.specs.Inside.Exact.{message_exact}
use Rattle.memory.specs.declared.Entry.{Entry}
use Rattle.memory.specs.declared.Sent.{Sent}
use Rattle.memory.specs.declared.Mark.{Mark}
use Rattle.memory.specs.declared.Mark.TheVariants.{Pending, Processed, Waiting}
use Rattle.memory.proofs.RoundTrips.{kind_fits}
use Rattle.memory.proofs.FromBytes.{message-fits, state-again}
use Rattle.exactness.proofs.SameBytes.{part-there, number-test, number-there, byte-test, byte-there}

-- the first byte is the number of what it is read as
mark-small : (a : Mark) → mark_number a < 256
mark-small Pending = lit< tt
mark-small Processed = lit< tt
mark-small Waiting = lit< tt

mark-kept : (n : ℕ) → eqb n (mark_number (mark_of n)) ≡ leb n 2
mark-kept zero = refl
mark-kept (suc zero) = refl
mark-kept (suc (suc zero)) = refl
mark-kept (suc (suc (suc n))) =
    let k : ℕ = suc (suc (suc n)) in
    rw (ne_eqb k 0 (λ e. omega arith), ne_eqb k 1 (λ e. omega arith), ne_eqb k 2 (λ e. omega arith), lt-leb k 2 (omega arith))

cancel-small : (a : Bool) → cancel_number a < 256
cancel-small true = lit< tt
cancel-small false = lit< tt

cancel-kept : (n : ℕ) → eqb n (cancel_number (eqb n 1)) ≡ leb n 1
cancel-kept zero = refl
cancel-kept (suc zero) = refl
cancel-kept (suc (suc n)) =
    let k : ℕ = suc (suc n) in
    rw (ne_eqb k 1 (λ e. omega arith), ne_eqb k 0 (λ e. omega arith), lt-leb k 1 (omega arith))

module _ (b : List ℕ) (bytes : Bytes b) where
  -- the message, behind any mark and before whatever follows
  message-tests : message_size ≤ length b → (mark : ℕ) (rest : List ℕ) → mark < 256
      → same_bytes (message_bytes mark (message_of b) ++ rest) b ≡ (eqb (get_or b 0 0) mark && (message_exact b (message_of b) && same_bytes rest (drop message_size b)))
  unfolding message_bytes message_of message_exact
  message-tests long mark rest small =
      let m = message_of b in
      let fits = message-fits b long bytes in
      let lamp = part b 12 18 ++ rest in
      let quantity = bytes_of 2 (quantity_of m.kind) ++ lamp in
      let gap = bytes_of 1 0 ++ quantity in
      let origin = bytes_of 1 (origin_of m.kind) ++ gap in
      let hour = bytes_of 4 (number_of (part b 4 4)) ++ origin in
      let to = bytes_of 1 (get_or b 3 0) ++ hour in
      let from = bytes_of 1 (get_or b 2 0) ++ to in
      let kind = bytes_of 1 (kind_number m.kind) ++ from in
      let last = same_bytes rest (drop message_size b) in
      simp (append_assoc, and_assoc)
      (byte-test b bytes 0 mark kind (omega arith) small
      ∙ ap (◌&&◌ (eqb (get_or b 0 0) mark))
      (byte-test b bytes 1 (kind_number m.kind) from (omega arith) (kind_fits m.kind)
      ∙ ap (◌&&◌ (eqb (get_or b 1 0) (kind_number m.kind)))
      (byte-there b bytes 2 to (omega arith)
      ∙ (byte-there b bytes 3 hour (omega arith)
      ∙ (number-there b bytes 4 4 origin (omega arith)
      ∙ (byte-test b bytes 8 (origin_of m.kind) gap (omega arith) fits.origin
      ∙ ap (◌&&◌ (eqb (get_or b 8 0) (origin_of m.kind)))
      (byte-test b bytes 9 0 quantity (omega arith) (lit< tt)
      ∙ ap (◌&&◌ (eqb (get_or b 9 0) 0))
      (number-test b bytes 10 2 (quantity_of m.kind) lamp (omega arith) fits.quantity
      ∙ ap (◌&&◌ (eqb (number_of (part b 10 2)) (quantity_of m.kind))) (part-there b 12 18 rest (omega arith))))))))))

  -- the saved state, which is read from all its bytes
  state-there : zeros_at ≤ length b → (rest : List ℕ) → same_bytes (state_bytes (state_of (part b message_size state_size)) ++ rest) (drop
      message_size b) ≡ same_bytes rest (drop zeros_at b)
  state-there long rest =
      rw (state-again (part b message_size state_size) (length_part b message_size state_size (omega arith)) (bytes-part b message_size state_size bytes))
      (part-there b message_size state_size rest (omega arith))

  entry-tests : length b ≡ queue_size
      → same_bytes (entry_bytes (entry_of b)) b ≡ (leb (get_or b 0 0) 2 && (message_exact b (message_of b) && same_bytes (replicate zeros_size 0) (drop zeros_at b)))
  unfolding entry_bytes entry_of
  entry-tests size =
      message-tests (omega arith) (mark_number (mark_of (get_or b 0 0))) (state_bytes (state_of (part b message_size state_size)) ++ replicate zeros_size 0)
      (mark-small (mark_of (get_or b 0 0)))
      ∙ rw (mark-kept (get_or b 0 0), state-there (omega arith) (replicate zeros_size 0))

  sent-tests : length b ≡ outstanding_size → same_bytes (sent_bytes (sent_of b)) b ≡ (leb (get_or b 0 0) 1 && (message_exact b (message_of b) && eqb
      (number_of (part b message_size 2)) 0))
  unfolding sent_bytes sent_of same_bytes bytes_of
  sent-tests size =
      let none : drop outstanding_size b ≡ [] = drop_of_length-le b {i = outstanding_size} (omega arith) in
      let last : same_bytes (bytes_of 2 0 ++ []) (drop message_size b) ≡ eqb (number_of (part b message_size 2)) 0 =
      number-test b bytes message_size 2 0 [] (omega arith) (lit< tt) ∙ rw none (and-true (eqb (number_of (part b message_size 2)) 0))
      in
      message-tests (omega arith) (cancel_number (eqb (get_or b 0 0) 1)) (replicate 2 0) (cancel-small (eqb (get_or b 0 0) 1))
      ∙ rw (cancel-kept (get_or b 0 0), last)

  -- a queue place, and an outstanding place
  pub entry-whole : length b ≡ queue_size → {e : Entry} → e ≡ entry_of b
      → same_bytes (entry_bytes e) b ≡ (leb (get_or b 0 0) 2 && (message_exact b e.message && same_bytes (replicate zeros_size 0) (drop zeros_at b)))
  unfolding entry_of
  entry-whole size read = rw read (entry-tests size)

  pub sent-whole : length b ≡ outstanding_size → {s : Sent} → s ≡ sent_of b
      → same_bytes (sent_bytes s) b ≡ (leb (get_or b 0 0) 1 && (message_exact b s.message && eqb (number_of (part b message_size 2)) 0))
  unfolding sent_of
  sent-whole size read = rw read (sent-tests size)
