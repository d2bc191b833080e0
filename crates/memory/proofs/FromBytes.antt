-- What is read from bytes: its numbers fit their fields, and the header is made of the same bytes again.
use mathlib.Core.Path.{◌≡◌, refl, sym, ◌∙◌, ap₂}
use Prim.Native.Nat.{ℕ, zero, suc, ◌+◌, ◌*◌, ◌^◌, ◌≤◌, ◌<◌}
use native.Mathlib.Omega.{arith}
use mathlib.Core.Bool.{Bool, true, false, cond}
use mathlib.Core.List.{List, ◌∷◌, ◌++◌}
use lib.Dec.{eqb}
use lib.ListN.{length, get_or}
use Rattle.buffer.proofs.Lent.{bytes-part}
use Rattle.lists.specs.Lists.{All, nil, cons}
use Rattle.buffer.specs.Slice.{Bytes, part}
use Rattle.buffer.specs.Number.{bytes_of, number_of}
use Rattle.buffer.proofs.Copies.{number-again}
use Rattle.buffer.proofs.Numbers.{number-below}
use Rattle.buffer.proofs.Writes.{length_part, part-cons, part-nil}
use Rattle.model.specs.Messages.{origin_of, quantity_of, kind_of}
use Rattle.model.specs.declared.Kind.{Kind}
use Rattle.model.specs.declared.Kind.TheVariants.{Failure, Request, Delivery, Restock, Start, Lvt, Update}
use Rattle.memory.specs.Layout.{back_size, header_used, message_size, outstanding_size, queue_size, state_at, state_size, stock_width}
use Rattle.memory.specs.Ranges.{RangedState}
use Rattle.memory.specs.Codec.{phase_number, phase_of, state_bytes, state_of, state_with, message_of, entry_of, sent_of, header_at, header_front, header_back, places_at}
use Rattle.memory.specs.Inside.Fits.{MessageFits, EntryFits, SentFits, HeaderFits}
use Rattle.buffer.proofs.Standing.{part-add, part-whole}
use Rattle.memory.proofs.RoundTrips.{byte-back}

-- a number in bytes fits them
pub number_fits : (m : List ℕ) (at n : ℕ) → Bytes m → at + n ≤ length m → number_of (part m at n) < 256 ^ n
number_fits m at n h fits = rw (length_part m at n fits) at (number-below (part m at n) (bytes-part m at n h))

-- a number in bytes is made of the same bytes again, alone and with what follows
module _ (m : List ℕ) (bytes : Bytes m) where
  pub byte_next : (at rest : ℕ) {tail : List ℕ} → at < length m → tail ≡ part m (at + 1) rest → bytes_of 1 (get_or m at 0) ++ tail ≡ part m at (suc rest)
  unfolding bytes_of
  byte_next at rest lt e = ap₂ ◌∷◌ (byte-back (get_or m at 0) (bytes at)) e ∙ sym (part-cons m at rest lt)

  pub number-next : (at n rest : ℕ) {tail : List ℕ} → at + n ≤ length m → tail ≡ part m (at + n) rest → bytes_of n (number_of (part m at n)) ++
      tail ≡ part m at (n + rest)
  number-next at n rest fits e = ap₂ ◌++◌ (number-again m bytes at n fits) e ∙ sym (part-add m at n rest)

-- a kind's own fields are those that it was made of, or zero
choice : Bool → Bool → Bool → Bool → Bool → Bool → ℕ → ℕ → Kind
choice b₀ b₁ b₂ b₃ b₄ b₅ origin quantity =
    cond b₀ (Failure origin) (cond b₁ (Request origin) (cond b₂ (Delivery origin) (cond b₃ (Restock quantity) (cond b₄ Start (cond b₅ Lvt Update)))))

kind-within : (b₀ b₁ b₂ b₃ b₄ b₅ : Bool) (o q : ℕ) → (origin_of (choice b₀ b₁ b₂ b₃ b₄ b₅ o q) ≤ o) × (quantity_of (choice b₀ b₁ b₂ b₃ b₄ b₅ o q) ≤ q)
unfolding choice
kind-within true b₁ b₂ b₃ b₄ b₅ o q = (omega arith, omega arith)
kind-within false true b₂ b₃ b₄ b₅ o q = (omega arith, omega arith)
kind-within false false true b₃ b₄ b₅ o q = (omega arith, omega arith)
kind-within false false false true b₄ b₅ o q = (omega arith, omega arith)
kind-within false false false false true b₅ o q = (omega arith, omega arith)
kind-within false false false false false true o q = (omega arith, omega arith)
kind-within false false false false false false o q = (omega arith, omega arith)

kind-read : (n o q : ℕ) → (origin_of (kind_of n o q) ≤ o) × (quantity_of (kind_of n o q) ≤ q)
unfolding choice
kind-read n o q = kind-within (eqb n 0) (eqb n 1) (eqb n 2) (eqb n 3) (eqb n 4) (eqb n 5) o q

-- states, messages and places
pub state-ranged : (b : List ℕ) → state_size ≤ length b → Bytes b → RangedState (state_of b)
unfolding state_with
state-ranged b h bytes = record {
  stock = number_fits b 0 stock_width bytes (omega arith);
  failed = number_fits b stock_width 4 bytes (omega arith);
  fitted = number_fits b (stock_width + 4) 4 bytes (omega arith);
  short = number_fits b (stock_width + 8) 4 bytes (omega arith);
}

pub state-again : (b : List ℕ) → length b ≡ state_size → Bytes b → state_bytes (state_of b) ≡ b
unfolding state_bytes state_with
state-again b h bytes =
    number-next b bytes 0 stock_width 12 (omega arith)
    (number-next b bytes stock_width 4 8 (omega arith)
    (number-next b bytes (stock_width + 4) 4 4 (omega arith) (number-again b bytes (stock_width + 8) 4 (omega arith))))
    ∙ part-whole b state_size (omega arith)

pub message-fits : (b : List ℕ) → message_size ≤ length b → Bytes b → MessageFits (message_of b)
unfolding message_of
message-fits b h bytes =
    let kind = kind-read (get_or b 1 0) (get_or b 8 0) (number_of (part b 10 2)) in
    record {
      hour = number_fits b 4 4 bytes (omega arith);
      from = bytes 2;
      to = bytes 3;
      origin = omega (arith, bytes 8);
      quantity = omega (arith, number_fits b 10 2 bytes (omega arith));
      lamp = length_part b 12 18 (omega arith);
    }

pub entry-fits : (b : List ℕ) → length b ≡ queue_size → Bytes b → EntryFits (entry_of b)
unfolding entry_of
entry-fits b h bytes =
    let saved : length (part b message_size state_size) ≡ state_size = length_part b message_size state_size (omega arith) in
    record {
      message = message-fits b (omega arith) bytes;
      before = state-ranged (part b message_size state_size) (omega arith) (bytes-part b
          message_size state_size bytes);
    }

pub sent-fits : (b : List ℕ) → length b ≡ outstanding_size → Bytes b → SentFits (sent_of b)
unfolding sent_of
sent-fits b h bytes = record { message = message-fits b (omega arith) bytes }

-- what holds of each place that bytes hold
pub read_all : {A : Type 0} {p : A → Type 0} (g : List ℕ → A) (size : ℕ) (m : List ℕ) (at n : ℕ) → Bytes m → at + size * n ≤ length m
    → ((b : List ℕ) → length b ≡ size → Bytes b → p (g b)) → All p (places_at g size m at n)
unfolding places_at
read_all g size m at zero bytes fits each = nil
read_all g size m at (suc n) bytes fits each =
    let whole : size * suc n ≡ size + size * n = omega arith in
    cons (each (part m at size) (length_part m at size (omega arith)) (bytes-part m at size bytes)) (read_all g size m (at + size) n bytes (omega arith) each)

-- the header
phase-again : (n : ℕ) → n ≤ 2 → phase_number (phase_of n) ≡ n
phase-again zero h = refl
phase-again (suc zero) h = refl
phase-again (suc (suc zero)) h = refl
phase-again (suc (suc (suc n))) h = absurd (let z : ◌≡◌ {A = ℕ} 0 1 = omega arith in omega arith)

module _ (m : List ℕ) (bytes : Bytes m) (long : header_used ≤ length m) where
  state-size : length (part m state_at state_size) ≡ state_size
  state-size = length_part m state_at state_size (omega arith)

  pub header-fits : HeaderFits (header_at m)
  unfolding header_at
  header-fits = record {
    settings = record {
      n = bytes 0;
      own = bytes 1;
      supplier = bytes 2;
      last = number_fits m 14 4 bytes (omega arith);
      q = number_fits m 6 2 bytes (omega arith);
      u = number_fits m 8 2 bytes (omega arith);
      hours = record {
        request = number_fits m 26 4 bytes (omega arith);
        delivery = number_fits m 30 4 bytes (omega arith);
        life = number_fits m 34 4 bytes (omega arith);
      };
    };
    state = state-ranged (part m state_at state_size) (omega (arith, state-size)) (bytes-part m state_at state_size bytes);
    agreed = number_fits m 18 4 bytes (omega arith);
    round = record { arrived = bytes 4; note = number_fits m 22 4 bytes (omega arith) };
    queued = number_fits m 10 2 bytes (omega arith);
    outstanding = number_fits m 12 2 bytes (omega arith);
  }

  pub front-again : get_or m 3 0 ≤ 2 → header_front (header_at m) ≡ part m 0 5
  unfolding header_front header_at bytes_of
  front-again small =
      rw (phase-again (get_or m 3 0) small)
      (byte_next m bytes 0 4 (omega arith) (byte_next m bytes 1 3 (omega arith) (byte_next m bytes 2 2 (omega arith) (byte_next m bytes 3 1 (omega arith) (byte_next m bytes 4 0
      (omega arith) (sym (part-nil m 5)))))))

  pub back-again : header_back (header_at m) ≡ part m 6 back_size
  unfolding header_back header_at
  back-again =
      number-next m bytes 6 2 (30 + state_size) (omega arith)
      (number-next m bytes 8 2 (28 + state_size) (omega arith)
      (number-next m bytes 10 2 (26 + state_size) (omega arith)
      (number-next m bytes 12 2 (24 + state_size) (omega arith)
      (number-next m bytes 14 4 (20 + state_size) (omega arith)
      (number-next m bytes 18 4 (16 + state_size) (omega arith)
      (number-next m bytes 22 4 (12 + state_size) (omega arith)
      (number-next m bytes 26 4 (8 + state_size) (omega arith)
      (number-next m bytes 30 4 (4 + state_size) (omega arith)
      (number-next m bytes 34 4 state_size (omega arith)
      (state-again (part m state_at state_size) state-size (bytes-part m state_at state_size bytes)))))))))))
