-- The four writes of a gateway over plain lists: the header's front and back, the queue and what is outstanding, each
-- behind the one before.
use mathlib.Core.Path.{◌≡◌, ◌∙◌, ap}
use Prim.Native.Nat.{ℕ, ◌+◌, ◌≤◌}
use native.Mathlib.Omega.{arith}
use mathlib.Core.List.{List}
use lib.ListN.{length}
use Rattle.buffer.specs.Slice.{part, write}
use Rattle.buffer.proofs.Writes.{length-write, part-before-write, part-after-write}
use Rattle.buffer.proofs.Standing.{Stands, write-stands, stands-written, write-swap}
use Rattle.memory.specs.Layout.{header_size}
use Rattle.memory.specs.Claims.{Apart, before, after}

-- a write leaves the bytes apart from it
pub part_apart : (at : ℕ) (xs m : List ℕ) (from n : ℕ) → at + length xs ≤ length m → Apart from n at (length xs) → part (write at xs m) from n ≡ part m from n
part_apart at xs m from n fits (before h) = part-before-write at xs m from n fits h
part_apart at xs m from n fits (after h) = part-after-write at xs m from n fits h

-- the header's two writes
abbrev pub headed : List ℕ → List ℕ → List ℕ → List ℕ
headed front back m = write 6 back (write 0 front m)

abbrev pub four : List ℕ → List ℕ → List ℕ → ℕ → List ℕ → List ℕ → List ℕ
four front back queue at sent m = write at sent (write header_size queue (headed front back m))

-- what holds of them
pub record FourWrites (front back queue : List ℕ) (at : ℕ) (sent m : List ℕ) : Type 0 where
  pub as_long : length (four front back queue at sent m) ≡ length m
  pub elsewhere : (from n : ℕ) → Apart from n 0 (length front) → Apart from n 6 (length back) → Apart from n header_size (length queue) →
      Apart from n at (length sent)
      → part (four front back queue at sent m) from n ≡ part m from n
  pub front-stands : Stands 0 front (four front back queue at sent m)
  pub back-stands : Stands 6 back (four front back queue at sent m)
  pub queue-stands : Stands header_size queue (four front back queue at sent m)
  pub sent-stands : Stands at sent (four front back queue at sent m)
  pub unchanged : Stands 0 front m → Stands 6 back m → Stands header_size queue m → Stands at sent m → four front back queue at sent m ≡ m
  pub header-last : four front back queue at sent m ≡ headed front back (write at sent (write header_size queue m))

-- the header and a place behind it are written in either order
module _ (front back : List ℕ) (one : length front ≤ 6) (two : 6 + length back ≤ header_size) where
  pub header-swap : (at : ℕ) (xs m : List ℕ) → header_size ≤ at → at + length xs ≤ length m → write at xs (headed front back m) ≡ headed
      front back (write at xs m)
  header-swap at xs m behind fits =
      write-swap 6 back at xs (write 0 front m) (omega arith) (rw (length-write 0 front m (omega arith)) fits)
      ∙ ap (write 6 back) (write-swap 0 front at xs m (omega arith) fits)

module _ (front back queue sent m : List ℕ) (at : ℕ) (one : length front ≤ 6) (two : 6 + length back ≤ header_size) (three : header_size + length queue ≤
    at) (last : at + length sent ≤ length m) where
  after_front : length (write 0 front m) ≡ length m
  after_front = length-write 0 front m (omega arith)

  after-back : length (headed front back m) ≡ length m
  after-back = length-write 6 back (write 0 front m) (rw after_front (omega arith)) ∙ after_front

  after-queue : length (write header_size queue (headed front back m)) ≡ length m
  after-queue = length-write header_size queue (headed front back m) (rw after-back (omega arith)) ∙ after-back

  -- what each of them leaves
  past_back : (from n : ℕ) → Apart from n 6 (length back) → part (headed front back m) from n ≡ part (write 0 front m) from n
  past_back from n a = part_apart 6 back (write 0 front m) from n (rw after_front (omega arith)) a

  past-queue : (from n : ℕ) → Apart from n header_size (length queue) → part (write header_size queue (headed front back m)) from n ≡ part
      (headed front back m) from n
  past-queue from n a = part_apart header_size queue (headed front back m) from n (rw after-back (omega arith)) a

  past-sent : (from n : ℕ) → Apart from n at (length sent) → part (four front back queue at sent m) from n ≡ part (write header_size queue
      (headed front back m)) from n
  past-sent from n a = part_apart at sent (write header_size queue (headed front back m)) from n (rw after-queue last) a

  pub four-writes : FourWrites front back queue at sent m
  four-writes = record {
    as_long = length-write at sent (write header_size queue (headed front back m)) (rw after-queue last) ∙ after-queue;
    elsewhere = λ from n a b c d. past-sent from n d ∙ (past-queue from n c ∙ (past_back from n b ∙ part_apart 0 front m from n (omega arith) a));
    front-stands = past-sent 0 (length front) (before (omega arith))
        ∙ (past-queue 0 (length front) (before (omega arith)) ∙ (past_back 0 (length front) (before (omega arith)) ∙ stands-written 0 front m (omega arith)));
    back-stands = past-sent 6 (length back) (before (omega arith))
        ∙ (past-queue 6 (length back) (before (omega arith)) ∙ stands-written 6 back (write 0 front m) (rw after_front (omega arith)));
    queue-stands = past-sent header_size (length queue) (before (omega arith)) ∙ stands-written header_size queue (headed front back m) (rw
        after-back (omega arith));
    sent-stands = stands-written at sent (write header_size queue (headed front back m)) (rw after-queue last);
    unchanged = λ a b c d.
        rw (write-stands 0 front m (omega arith) a, write-stands 6 back m (omega arith) b, write-stands header_size queue m (omega arith) c)
        (write-stands at sent m last d);
    header-last = ap (write at sent) (header-swap front back one two header_size queue m (omega arith) (omega arith))
        ∙ header-swap front back one two at sent (write header_size queue m) (omega arith) (rw (length-write header_size queue m (omega arith)) last);
  }
