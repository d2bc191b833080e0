-- Bytes written one behind the other are one write: the header, a state, a message, a place.
use mathlib.Core.Path.{◌≡◌, refl, ◌∙◌}
use Prim.Native.Nat.{ℕ, ◌+◌, ◌*◌, ◌≤◌}
use native.Mathlib.Omega.{arith}
use mathlib.Core.List.{List, [], ◌∷◌, ◌++◌, append_assoc, append-nil}
use lib.ListN.{length, replicate, length-append}
use borrow.Author.Tests.{ne_eqb}
use Rattle.buffer.specs.Slice.{write}
use Rattle.buffer.specs.Number.{bytes_of}
use Rattle.buffer.proofs.Writes.{length-write, write-join}
use Rattle.buffer.proofs.Numbers.{length-bytes_of}
use Rattle.buffer.proofs.Runs.{length-all}
use Rattle.std.specs.List.{flat_map}
use Rattle.model.specs.Messages.{kind_number, origin_of, quantity_of}
use Rattle.model.specs.declared.Message.{Message}
use Rattle.model.specs.declared.State.{State}
use Rattle.memory.specs.Layout.{header_used, message_size, outstanding_size, queue_size, state_at, state_size, stock_width, zeros_at, zeros_size}
use Rattle.memory.specs.Codec.{mark_of, phase_of, mark_number, phase_number, cancel_number, state_bytes, message_bytes, entry_bytes}
use Rattle.memory.specs.Codec.{sent_bytes, header_front, header_back}
use Rattle.memory.specs.declared.Header.{Header}
use Rattle.memory.specs.declared.Entry.{Entry}
use Rattle.memory.specs.declared.Sent.{Sent}
use Rattle.memory.specs.declared.Mark.TheVariants.{Waiting}
use Rattle.memory.specs.declared.Phase.TheVariants.{Stopped}

-- a write behind a write of known length
pub write-behind : (at n k : ℕ) (xs ys m : List ℕ) → length xs ≡ n → k ≡ at + n → k ≤ length m → write k ys (write at xs m) ≡ write at (xs ++ ys) m
write-behind at n k xs ys m size e fits = rw (e, ← size) (write-join at xs ys m (omega arith))

-- numbers of one width, one behind the other
abbrev row : ℕ → List ℕ → List ℕ
row w ns = flat_map (bytes_of w) ns

length-row : (w : ℕ) (ns : List ℕ) → length (row w ns) ≡ w * length ns
length-row w ns = length-all (bytes_of w) w (length-bytes_of w) ns

pub state-stored : (m : List ℕ) (at : ℕ) (s : State) {m₁ m₂ : List ℕ} → at + state_size ≤ length m
    → m₁ ≡ write at (bytes_of stock_width s.stock) m → m₂ ≡ write (at + stock_width) (bytes_of 4 s.failed ++ (bytes_of 4 s.fitted ++ bytes_of 4 s.short)) m₁
    → m₂ ≡ write at (state_bytes s) m
unfolding state_bytes
state-stored m at s fits p q = q ∙ rw p (write-behind at stock_width (at + stock_width) (bytes_of stock_width s.stock) _ m (length-bytes_of stock_width s.stock) refl (omega arith))

pub state-row : (s : State) → row 4 (s.stock ∷ s.failed ∷ s.fitted ∷ s.short ∷ []) ≡ state_bytes s
unfolding state_bytes
state-row s = simp append-nil

pub length-state : (s : State) → length (state_bytes s) ≡ state_size
unfolding state_bytes
length-state s = simp (length-append, length-bytes_of)

pub length-message : (mark : ℕ) (m : Message) → length m.lamp ≡ 18 → length (message_bytes mark m) ≡ message_size
unfolding message_bytes
length-message mark m h = simp (length-append, length-bytes_of) (omega arith)

pub message-stored : (m : List ℕ) (at mark : ℕ) (x : Message) {m₁ m₂ m₃ m₄ m₅ : List ℕ} {kind origin quantity : ℕ} → at + message_size ≤ length m
    → kind ≡ kind_number x.kind → origin ≡ origin_of x.kind → quantity ≡ quantity_of x.kind
    → m₁ ≡ write at (row 1 (mark ∷ kind ∷ x.from ∷ x.to ∷ [])) m → m₂ ≡ write (at + 4) (bytes_of 4 x.hour) m₁
    → m₃ ≡ write (at + 8) (row 1 (origin ∷ 0 ∷ [])) m₂ → m₄ ≡ write (at + 10) (bytes_of 2 quantity) m₃ → m₅ ≡ write (at + 12) x.lamp m₄
    → m₅ ≡ write at (message_bytes mark x) m
unfolding message_bytes
message-stored m at mark x fits kind origin quantity p₁ p₂ p₃ p₄ p₅ =
    let a = row 1 (mark ∷ kind_number x.kind ∷ x.from ∷ x.to ∷ []) in
    let b = bytes_of 4 x.hour in
    let c = row 1 (origin_of x.kind ∷ 0 ∷ []) in
    let d = bytes_of 2 (quantity_of x.kind) in
    p₅
    ∙ rw (
      p₄,
      p₃,
      p₂,
      p₁,
      kind,
      origin,
      quantity,
      write-behind at 4 (at + 4) a b m (length-row 1 (mark ∷ kind_number x.kind ∷ x.from ∷ x.to ∷ [])) refl (omega arith),
      write-behind at 8 (at + 8) (a ++ b) c m (simp (length-append, length-bytes_of)) refl (omega arith),
      write-behind at 10 (at + 10) ((a ++ b) ++ c) d m (simp (length-append, length-bytes_of)) refl (omega arith),
      write-behind at 12 (at + 12) (((a ++ b) ++ c) ++ d) x.lamp m (simp (length-append, length-bytes_of)) refl (omega arith),
    )
    (simp (append_assoc, append-nil))

pub length-entry : (e : Entry) → length e.message.lamp ≡ 18 → length (entry_bytes e) ≡ queue_size
unfolding entry_bytes
length-entry e h = simp (length-append, length-bytes_of) (omega arith)

pub entry-stored : (m : List ℕ) (at : ℕ) (e : Entry) {m₁ m₂ m₃ : List ℕ} {mark : ℕ} → length e.message.lamp ≡ 18 → at + queue_size ≤ length m →
    mark ≡ mark_number e.mark
    → m₁ ≡ write at (message_bytes mark e.message) m → m₂ ≡ write (at + message_size) (state_bytes e.before) m₁ → m₃ ≡ write (at +
    zeros_at) (replicate zeros_size 0) m₂
    → m₃ ≡ write at (entry_bytes e) m
unfolding entry_bytes
entry-stored m at e size fits mark p q r =
    let a = message_bytes (mark_number e.mark) e.message in
    let l : length a ≡ message_size = length-message (mark_number e.mark) e.message size in
    r
    ∙ rw (
      q,
      p,
      mark,
      write-behind at message_size (at + message_size) a (state_bytes e.before) m l refl (omega arith),
      write-behind at zeros_at (at + zeros_at) (a ++ state_bytes e.before) (replicate zeros_size 0) m (simp (length-append, length-bytes_of) (omega
          arith)) refl (omega arith),
    )
    (simp append_assoc)

pub length-sent : (s : Sent) → length s.message.lamp ≡ 18 → length (sent_bytes s) ≡ outstanding_size
unfolding sent_bytes
length-sent s h = simp (length-append, length-bytes_of) (omega arith)

pub sent-stored : (m : List ℕ) (at : ℕ) (s : Sent) {m₁ m₂ : List ℕ} {number : ℕ} → length s.message.lamp ≡ 18 → at + outstanding_size ≤ length m →
    number ≡ cancel_number s.cancel
    → m₁ ≡ write at (message_bytes number s.message) m → m₂ ≡ write (at + message_size) (replicate 2 0) m₁
    → m₂ ≡ write at (sent_bytes s) m
unfolding sent_bytes
sent-stored m at s size fits number p q =
    let mark = cancel_number s.cancel in
    q
    ∙ rw (p, number)
    (write-behind at message_size (at + message_size) (message_bytes mark s.message) (replicate 2 0) m (length-message mark s.message
    size) refl (omega arith))

-- the header, its three stretches behind byte 5 and the one before it
pub header-stored : (m : List ℕ) (h : Header) {m₁ m₂ m₃ m₄ : List ℕ} {phase : ℕ} → header_used ≤ length m → phase ≡ phase_number h.round.phase
    → m₁ ≡ write 0 (row 1 (h.settings.n ∷ h.settings.own ∷ h.settings.supplier ∷ phase ∷ h.round.arrived ∷ [])) m
    → m₂ ≡ write 6 (row 2 (h.settings.q ∷ h.settings.u ∷ h.queued ∷ h.outstanding ∷ [])) m₁
    → m₃ ≡ write 14 (row 4 (h.settings.last ∷ h.agreed ∷ h.round.note ∷ h.settings.hours.request ∷ h.settings.hours.delivery ∷ h.settings.hours.life ∷ [])) m₂
    → m₄ ≡ write state_at (state_bytes h.state) m₃
    → m₄ ≡ write 6 (header_back h) (write 0 (header_front h) m)
unfolding header_front header_back
header-stored m h fits number p q r t =
    let front = row 1 (h.settings.n ∷ h.settings.own ∷ h.settings.supplier ∷ phase_number h.round.phase ∷ h.round.arrived ∷ []) in
    let counts = row 2 (h.settings.q ∷ h.settings.u ∷ h.queued ∷ h.outstanding ∷ []) in
    let hours = row 4 (h.settings.last ∷ h.agreed ∷ h.round.note ∷ h.settings.hours.request ∷ h.settings.hours.delivery ∷ h.settings.hours.life ∷ []) in
    let five : length front ≡ 5 = simp (length-append, length-bytes_of) in
    let whole : length (write 0 front m) ≡ length m = length-write 0 front m (omega arith) in
    t
    ∙ rw (
      r,
      q,
      p,
      number,
      write-behind 6 8 14 counts hours (write 0 front m) (simp (length-append, length-bytes_of)) refl (omega arith),
      write-behind 6 32 state_at (counts ++ hours) _ (write 0 front m) (simp (length-append, length-bytes_of)) refl (omega arith),
    )
    (simp (append_assoc, append-nil))

-- the last of the numbers of an enumeration
pub mark-last : (n : ℕ) → (n ≡ 0 → ⊥) → (n ≡ 1 → ⊥) → Waiting ≡ mark_of n
mark-last n a b = rw (ne_eqb n 0 a, ne_eqb n 1 b)

pub phase-last : (n : ℕ) → (n ≡ 0 → ⊥) → (n ≡ 1 → ⊥) → Stopped ≡ phase_of n
phase-last n a b = rw (ne_eqb n 0 a, ne_eqb n 1 b)
