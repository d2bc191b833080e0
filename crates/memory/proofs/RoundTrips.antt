-- Every element of a gateway read back from its own bytes: states, messages, queue places, outstanding places, the header.
use mathlib.Core.Path.{◌≡◌, refl, sym, ◌∙◌, ap}
use Prim.Native.Nat.{ℕ, ◌+◌, ◌/◌, ◌%◌, ◌^◌, ◌≤◌, ◌<◌}
use native.Mathlib.Omega.{arith}
use mathlib.Core.Bool.{Bool, true, false}
use mathlib.Core.List.{List, ◌++◌}
use lib.Dec.{eqb, lit<, lit≤}
use lib.ListN.{length, get_or, replicate}
use lib.Seq.{take_at}
use Rattle.model.proofs.Ordered.{kind-again}
use Rattle.buffer.specs.Slice.{part}
use Rattle.buffer.specs.Number.{bytes_of, number_of}
use Rattle.buffer.proofs.Numbers.{number-of-bytes}
use Rattle.buffer.proofs.Writes.{part-part}
use Rattle.buffer.proofs.Readings.{get_d_part}
use Rattle.model.specs.Messages.{kind_number, origin_of, quantity_of, kind_of}
use Rattle.model.specs.declared.Kind.{Kind}
use Rattle.model.specs.declared.Kind.TheVariants.{Failure, Request, Delivery, Restock, Start, Lvt, Update}
use Rattle.model.specs.declared.Message.{Message}
use Rattle.model.specs.declared.State.{State}
use Rattle.memory.specs.Layout.{back_size, message_size, outstanding_size, queue_size, state_size, stock_width, zeros_size}
use Rattle.memory.specs.Ranges.{RangedState}
use Rattle.memory.specs.Codec.{mark_number, mark_of, phase_number, phase_of, cancel_number, state_bytes, state_of, state_with, message_bytes, message_of}
use Rattle.memory.specs.Codec.{entry_bytes, entry_of, sent_bytes, sent_of, header_at, header_front, header_back}
use Rattle.memory.specs.declared.Header.{Header}
use Rattle.memory.specs.declared.Entry.{Entry}
use Rattle.memory.specs.declared.Sent.{Sent}
use Rattle.memory.specs.declared.Mark.{Mark}
use Rattle.memory.specs.declared.Mark.TheVariants.{Pending, Processed, Waiting}
use Rattle.memory.specs.declared.Phase.{Phase}
use Rattle.memory.specs.declared.Phase.TheVariants.{Idle, Counting, Stopped}
use Rattle.memory.specs.Inside.Fits.{MessageFits, EntryFits, SentFits, HeaderFits}
use Rattle.memory.proofs.Stored.{length-state, length-message, length-entry, length-sent}
use Rattle.buffer.proofs.Standing.{part-front, part-back}
use Rattle.memory.proofs.Places.{ReadBack}

-- one byte
pub byte-back : (n : ℕ) → n < 256 → n / 256 ^ 0 % 256 ≡ n
byte-back n h = omega arith

pub kind_fits : (k : Kind) → kind_number k < 256
kind_fits (Failure origin) = lit< tt
kind_fits (Request origin) = lit< tt
kind_fits (Delivery origin) = lit< tt
kind_fits (Restock quantity) = lit< tt
kind_fits Start = lit< tt
kind_fits Lvt = lit< tt
kind_fits Update = lit< tt

mark-back : (a : Mark) → mark_of (mark_number a / 256 ^ 0 % 256) ≡ a
mark-back Pending = refl
mark-back Processed = refl
mark-back Waiting = refl

phase-fits : (a : Phase) → phase_number a < 256
phase-fits Idle = lit< tt
phase-fits Counting = lit< tt
phase-fits Stopped = lit< tt

phase-back : (a : Phase) → phase_of (phase_number a) ≡ a
phase-back Idle = refl
phase-back Counting = refl
phase-back Stopped = refl

cancel_back : (a : Bool) → eqb (cancel_number a / 256 ^ 0 % 256) 1 ≡ a
cancel_back true = refl
cancel_back false = refl

-- a state
pub state-back : (s : State) → RangedState s → state_of (state_bytes s) ≡ s
unfolding state_bytes state_with bytes_of part
state-back s r = λ i. record {
  stock = number-of-bytes stock_width s.stock r.stock i;
  failed = number-of-bytes 4 s.failed r.failed i;
  fitted = number-of-bytes 4 s.fitted r.fitted i;
  short = number-of-bytes 4 s.short r.short i;
}

-- a message, behind its mark and before whatever follows
module _ (mark : ℕ) (m : Message) (rest : List ℕ) (r : MessageFits m) where
  message-kind : kind_of (kind_number m.kind / 256 ^ 0 % 256) (origin_of m.kind / 256 ^ 0 % 256) (number_of (bytes_of 2 (quantity_of m.kind))) ≡ m.kind
  message-kind =
      rw (
        byte-back (kind_number m.kind) (kind_fits m.kind),
        byte-back (origin_of m.kind) r.origin,
        number-of-bytes 2 (quantity_of
            m.kind) r.quantity,
      )
      (kind-again m.kind)

  pub message-back : message_of (message_bytes mark m ++ rest) ≡ m
  unfolding message_bytes message_of bytes_of part
  message-back = λ i. record {
    hour = number-of-bytes 4 m.hour r.hour i;
    from = byte-back m.from r.from i;
    to = byte-back m.to r.to i;
    kind = message-kind i;
    lamp = take_at m.lamp rest 18 r.lamp i;
  }

-- a queue place
module _ (e : Entry) (r : EntryFits e) where
  pub entry_length : length (entry_bytes e) ≡ queue_size
  entry_length = length-entry e r.message.lamp

  saved : part (entry_bytes e) message_size state_size ≡ state_bytes e.before
  unfolding entry_bytes
  saved =
      part-back (message_bytes (mark_number e.mark) e.message) (state_bytes e.before ++ replicate zeros_size 0) message_size 0 state_size (length-message
      (mark_number e.mark) e.message r.message.lamp)
      ∙ part-front (state_bytes e.before) (replicate zeros_size 0) state_size (length-state e.before)

  entry-mark : mark_of (get_or (entry_bytes e) 0 0) ≡ e.mark
  unfolding entry_bytes message_bytes bytes_of
  entry-mark = mark-back e.mark

  entry-message : message_of (entry_bytes e) ≡ e.message
  unfolding entry_bytes
  entry-message = message-back (mark_number e.mark) e.message (state_bytes e.before ++ replicate zeros_size 0) r.message

  pub entry_kept : ReadBack entry_bytes entry_of queue_size e
  unfolding entry_of
  entry_kept = record {
    sized = entry_length;
    back = λ i. record { message = entry-message i; mark = entry-mark i; before = (ap state_of saved ∙ state-back e.before r.before) i };
  }

-- an outstanding place
module _ (s : Sent) (r : SentFits s) where
  pub sent-length : length (sent_bytes s) ≡ outstanding_size
  sent-length = length-sent s r.message.lamp

  sent-cancel : eqb (get_or (sent_bytes s) 0 0) 1 ≡ s.cancel
  unfolding sent_bytes message_bytes bytes_of
  sent-cancel = cancel_back s.cancel

  sent-message : message_of (sent_bytes s) ≡ s.message
  unfolding sent_bytes
  sent-message = message-back (cancel_number s.cancel) s.message (replicate 2 0) r.message

  pub sent-kept : ReadBack sent_bytes sent_of outstanding_size s
  unfolding sent_of
  sent-kept = record { sized = sent-length; back = λ i. record { message = sent-message i; cancel = sent-cancel i } }

-- the header
pub length_front : (h : Header) → length (header_front h) ≡ 5
unfolding header_front bytes_of
length_front h = refl

pub length_back : (h : Header) → length (header_back h) ≡ back_size
unfolding header_back bytes_of
length_back h = refl

module _ (h : Header) (r : HeaderFits h) (m : List ℕ) (front : part m 0 5 ≡ header_front h) (back : part m 6 back_size ≡ header_back h) where
  -- a byte of the front and a number of the back
  header-byte : (k x : ℕ) → k < 5 → get_or (header_front h) k 0 ≡ x / 256 ^ 0 % 256 → x < 256 → get_or m (0 + k) 0 ≡ x
  header-byte k x lt e small = sym (get_d_part m 0 5 k lt) ∙ (ap (λ l. get_or l k 0) front ∙ (e ∙ byte-back x small))

  header-part : (k n : ℕ) → k + n ≤ back_size → part m (6 + k) n ≡ part (header_back h) k n
  header-part k n lt = sym (part-part m 6 back_size k n lt) ∙ ap (λ l. part l k n) back

  header-number : (k n x : ℕ) → k + n ≤ back_size → part (header_back h) k n ≡ bytes_of n x → x < 256 ^ n → number_of (part m (6 + k) n) ≡ x
  header-number k n x lt e small = ap number_of (header-part k n lt ∙ e) ∙ number-of-bytes n x small

  pub phase-byte : get_or m 3 0 ≡ phase_number h.round.phase
  unfolding header_front bytes_of
  phase-byte = header-byte 3 (phase_number h.round.phase) (lit< tt) refl (phase-fits h.round.phase)

  pub header-back : header_at m ≡ h
  unfolding header_at header_front header_back bytes_of part
  header-back = λ i. record {
    settings = record {
      n = header-byte 0 h.settings.n (lit< tt) refl r.settings.n i;
      own = header-byte 1 h.settings.own (lit< tt) refl r.settings.own i;
      supplier = header-byte 2 h.settings.supplier (lit< tt) refl r.settings.supplier i;
      last = header-number 8 4 h.settings.last (lit≤ tt) refl r.settings.last i;
      q = header-number 0 2 h.settings.q (lit≤ tt) refl r.settings.q i;
      u = header-number 2 2 h.settings.u (lit≤ tt) refl r.settings.u i;
      hours = record {
        request = header-number 20 4 h.settings.hours.request (lit≤ tt) refl r.settings.hours.request i;
        delivery = header-number 24 4 h.settings.hours.delivery (lit≤ tt) refl r.settings.hours.delivery i;
        life = header-number 28 4 h.settings.hours.life (lit≤ tt) refl r.settings.hours.life i;
      };
    };
    state = (ap state_of (header-part 32 state_size (lit≤ tt)) ∙ state-back h.state r.state) i;
    agreed = header-number 12 4 h.agreed (lit≤ tt) refl r.agreed i;
    round = record {
      phase = (ap phase_of phase-byte ∙ phase-back h.round.phase) i;
      arrived = header-byte 4 h.round.arrived (lit< tt) refl r.round.arrived i;
      note = header-number 16 4 h.round.note (lit≤ tt) refl r.round.note i;
    };
    queued = header-number 4 2 h.queued (lit≤ tt) refl r.queued i;
    outstanding = header-number 6 2 h.outstanding (lit≤ tt) refl r.outstanding i;
  }
