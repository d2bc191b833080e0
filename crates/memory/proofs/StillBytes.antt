-- A valid gateway written over bytes gives bytes.
use mathlib.Core.Path.{◌≡◌}
use Prim.Native.Nat.{ℕ, zero, suc, ◌+◌, ◌/◌, ◌%◌, ◌^◌, ◌<◌}
use native.Mathlib.Omega.{arith}
use mathlib.Core.Bool.{Bool, true, false, cond, ◌&&◌}
use mathlib.Core.List.{List, [], ◌∷◌, ◌++◌}
use lib.Dec.{leb, lit<}
use lib.ListN.{length, get_or, take, drop, replicate, take-append-drop}
use borrow.Author.Tests.{leb-true}
use Rattle.lists.specs.Lists.{joined, All, nil, cons}
use Rattle.lists.proofs.ListLaws.{all_of, all_append, all_left, all_right}
use Rattle.buffer.specs.Slice.{Bytes, write}
use Rattle.buffer.specs.Number.{bytes_of}
use Rattle.model.specs.Messages.{kind_number, origin_of, quantity_of}
use Rattle.model.specs.declared.Message.{Message}
use Rattle.model.specs.declared.State.{State}
use Rattle.frame.specs.Kinds.{has_lamp}
use Rattle.frame.specs.Writing.{all_between, lamp_fits, well_formed}
use Rattle.memory.specs.Records.{Gateway, header_of}
use Rattle.memory.specs.Layout.{header_size, outstanding_at, stock_width, zeros_size}
use Rattle.memory.specs.Codec.{mark_number, phase_number, cancel_number, state_bytes, message_bytes, entry_bytes, sent_bytes, header_front, header_back, encode}
use Rattle.memory.specs.Validity.{is_waiting, frame_if}
use Rattle.memory.specs.declared.Header.{Header}
use Rattle.memory.specs.declared.Entry.{Entry}
use Rattle.memory.specs.declared.Sent.{Sent}
use Rattle.memory.proofs.Validated.{Valid}
use Rattle.lists.proofs.BoolLaws.{and_left, and_right}

abbrev Byte : ℕ → Type 0
Byte b = b < 256

all-bytes : {l : List ℕ} → All Byte l → (i : ℕ) → get_or l i 0 < 256
all-bytes nil i = lit< tt
all-bytes (cons p ps) zero = p
all-bytes (cons p ps) (suc i) = all-bytes ps i

bytes-all : (l : List ℕ) → Bytes l → All Byte l
bytes-all [] p = nil
bytes-all (x ∷ l) p = cons (p 0) (bytes-all l (λ i. p (suc i)))

-- a write, zeros, a number's bytes, places
written : (at : ℕ) {xs m : List ℕ} → All Byte xs → All Byte m → All Byte (write at xs m)
unfolding write
written at {xs} {m} p q =
    all_append
    (all_left (take at m) (drop at m) (rw take-append-drop q))
    (all_append p (all_right (take (at + length xs) m) (drop (at + length xs) m) (rw take-append-drop q)))

zeros : (n : ℕ) → All Byte (replicate n 0)
zeros zero = nil
zeros (suc n) = cons (lit< tt) (zeros n)

number-bytes : (width n : ℕ) → All Byte (bytes_of width n)
unfolding bytes_of
number-bytes zero n = nil
number-bytes (suc width) n = let top : Byte (n / 256 ^ width % 256) = omega arith in cons top (number-bytes width n)

-- a number's bytes, and what follows
with_number : (width n : ℕ) {rest : List ℕ} → All Byte rest → All Byte (bytes_of width n ++ rest)
with_number width n p = all_append (number-bytes width n) p

places-bytes : {A : Type 0} (f : A → List ℕ) {xs : List A} → All (λ x. All Byte (f x)) xs → All Byte (joined f xs)
unfolding joined
places-bytes f nil = nil
places-bytes f (cons p ps) = all_append p (places-bytes f ps)

-- a lamp
between-bytes : (low high : ℕ) → high < 256 → (l : List ℕ) → all_between low high l ≡ true → All Byte l
unfolding all_between
between-bytes low high h [] e = nil
between-bytes low high h (b ∷ bs) e =
    let within = leb-true b high (and_right (leb low b) (leb b high) (and_left (leb low b && leb b high) (all_between low high bs) e)) in
    let first : Byte b = omega arith in
    cons first (between-bytes low high h bs (and_right (leb low b && leb b high) (all_between low high bs) e))

lamp-bytes : (cancel : Bool) (m : Message) → well_formed (frame_if cancel m) ≡ true → All Byte m.lamp
unfolding well_formed lamp_fits
lamp-bytes cancel m e = by-case (has_lamp (kind_number m.kind)) (search (and_left, and_right))
  where
    by-case : (b : Bool) → cond b (all_between 33 126 m.lamp) (all_between 0 0 m.lamp) ≡ true → All Byte m.lamp
    by-case true h = between-bytes 33 126 (lit< tt) m.lamp h
    by-case false h = between-bytes 0 0 (lit< tt) m.lamp h

-- states, messages, places and the header
state-bytes : (s : State) → All Byte (state_bytes s)
unfolding state_bytes
state-bytes s = with_number stock_width s.stock (with_number 4 s.failed (with_number 4 s.fitted (number-bytes 4 s.short)))

message-bytes : (mark : ℕ) (m : Message) → All Byte m.lamp → All Byte (message_bytes mark m)
unfolding message_bytes
message-bytes mark m p =
    with_number 1 mark
    (with_number 1 (kind_number m.kind)
    (with_number 1 m.from
    (with_number 1 m.to
    (with_number 4 m.hour
    (with_number 1 (origin_of m.kind)
    (with_number 1 0
    (with_number 2 (quantity_of m.kind) p)))))))

entry-bytes : (e : Entry) → All Byte e.message.lamp → All Byte (entry_bytes e)
unfolding entry_bytes
entry-bytes e p = all_append (message-bytes (mark_number e.mark) e.message p) (all_append (state-bytes e.before) (zeros zeros_size))

sent-bytes : (s : Sent) → All Byte s.message.lamp → All Byte (sent_bytes s)
unfolding sent_bytes
sent-bytes s p = all_append (message-bytes (cancel_number s.cancel) s.message p) (zeros 2)

front_bytes : (h : Header) → All Byte (header_front h)
unfolding header_front
front_bytes h =
    with_number 1 h.settings.n
    (with_number 1 h.settings.own
    (with_number 1 h.settings.supplier
    (with_number 1 (phase_number h.round.phase)
    (number-bytes 1 h.round.arrived))))

back-bytes : (h : Header) → All Byte (header_back h)
unfolding header_back
back-bytes h =
    with_number 2 h.settings.q
    (with_number 2 h.settings.u
    (with_number 2 h.queued
    (with_number 2 h.outstanding
    (with_number 4 h.settings.last
    (with_number 4 h.agreed
    (with_number 4 h.round.note
    (with_number 4 h.settings.hours.request
    (with_number 4 h.settings.hours.delivery
    (with_number 4 h.settings.hours.life (state-bytes h.state))))))))))

pub encode-bytes : (g : Gateway) (m : List ℕ) → Valid g → Bytes m → Bytes (encode g m)
unfolding encode
encode-bytes g m v p =
    let queue = all_of g.queue (λ e n. entry-bytes e (lamp-bytes (is_waiting e) e.message (v.entries e n).message.form)) in
    let sent = all_of g.outstanding (λ s n. sent-bytes s (lamp-bytes s.cancel s.message (v.outstanding s n).message.form)) in
    all-bytes
    (written (outstanding_at g.settings.q 0) (places-bytes sent_bytes sent)
    (written header_size (places-bytes entry_bytes queue)
    (written 6 (back-bytes (header_of g)) (written 0 (front_bytes (header_of g)) (bytes-all m p)))))
