-- A law for each branch of commit.
use mathlib.Core.Path.{◌≡◌, refl, sym, ◌∙◌, subst}
use mathlib.Core.Bool.{Bool, true, false, cond}
use mathlib.Core.List.Memᴰ.{head as member-first}
use mathlib.Core.List.{List, [], ◌∷◌}
use Rattle.std.specs.Prelude.{Err}
use Rattle.refusal.specs.declared.Refusal.TheVariants.{NoRoom, NothingToDo}
use Prim.Native.Nat.{ℕ, suc, ◌+◌, ◌-◌, ◌≤◌, ◌<◌}
use native.Mathlib.Nat.{zero-add, sub-zero}
use native.Mathlib.Omega.{arith}
use lib.ListN.{length, get_or, length-append}
use borrow.Author.Tests.{lt-ltb, le-ltb, le-leb, lt-leb}
use Rattle.lists.specs.Inside.Positions.{first_where, without}
use Rattle.lists.proofs.PositionLaws.{without-first}
use Rattle.buffer.specs.Slice.{part, write, Puts}
use Rattle.buffer.proofs.Writes.{write-join, length-write, length_part}
use Rattle.lists.specs.Lists.{◌∈◌, tally}
use Rattle.model.specs.Messages.{kind_number, quantity_of}
use Rattle.model.specs.Doing.{most_stock, after}
use Rattle.model.specs.declared.Kind.{Kind}
use Rattle.model.specs.declared.Kind.TheVariants.{Failure, Request, Delivery, Restock, Start, Lvt, Update}
use Rattle.model.specs.declared.State.{State}
use Rattle.frame.specs.Layout.{whole_length}
use Rattle.frame.specs.Kinds.{map_of, map_of_kind}
use Rattle.frame.specs.Writing.{written}
use Rattle.frame.specs.declared.Frame.{Frame}
use Rattle.frame.proofs.Output.{whole-size}
use Rattle.memory.specs.Layout.{header_size, queue_at, queue_size, state_size}
use Rattle.memory.specs.Codec.{places_at, entry_of, message_of, state_bytes, decode, encode}
use Rattle.memory.specs.Validity.{is_processed, frame_if}
use Rattle.memory.specs.declared.Header.{Header}
use Rattle.memory.specs.declared.Entry.{Entry}
use Rattle.memory.specs.declared.Mark.TheVariants.{Processed}
use Rattle.memory.proofs.Stored.{length-state}
use Rattle.memory.proofs.SoundMemory.{sound-facts}
use Rattle.memory.proofs.Validated.{Saved, and-more, valid-facts}
use Rattle.gateway.specs.Effects.{with_queue}
use Rattle.gateway.specs.Undoing.{processed_of}
use Rattle.gateway.specs.Committing.{record_for, record_of, recorded, commit}
use Rattle.gateway.specs.Calls.{left, CallResult, leaving, on_sound, committed}
use Rattle.gateway.specs.Inside.Premises.{Known}
use Rattle.places.specs.Inside.Searching.{has_mark}
use Rattle.gateway.specs.Answers.{Answer, answer_of}
use Rattle.frame.proofs.Sizes.{plain-length}
use Rattle.memory.proofs.Places.{place_at}
use Rattle.gateway.proofs.Searches.{processed-member}
use Rattle.gateway.proofs.Knowing.{queue-count, queue-places, sizes}

-- the oldest processed event
none-processed : (es : List Entry) → length es ≤ first_where is_processed es → processed_of es ≡ []
unfolding first_where processed_of
none-processed [] h = refl
none-processed (e ∷ es) h = here (is_processed e) h (none-processed es)
  where
    here : (b : Bool) → suc (length es) ≤ cond b 0 (suc (first_where is_processed es)) → (length es ≤ first_where is_processed es → processed_of
        es ≡ []) → cond b (e ∷ processed_of es) (processed_of es) ≡ []
    here true h r = absurd (omega arith)
    here false h r = r (omega arith)

oldest-processed : (es : List Entry) (d : Entry) → first_where is_processed es < length es → (rest : List Entry) × (processed_of es ≡ get_or es
    (first_where is_processed es) d ∷ rest)
unfolding first_where processed_of
oldest-processed [] d h = absurd (omega arith)
oldest-processed (e ∷ es) d h = here (is_processed e) h (oldest-processed es d)
  where
    here : (b : Bool) → cond b 0 (suc (first_where is_processed es)) < suc (length es)
        → (first_where is_processed es < length es → (rest : List Entry) × (processed_of es ≡ get_or es (first_where is_processed es) d ∷ rest))
        → (rest : List Entry) × (cond b (e ∷ processed_of es) (processed_of es) ≡ get_or (e ∷ es) (cond b 0 (suc (first_where is_processed es))) d ∷ rest)
    here true h r = (processed_of es, refl)
    here false h r = r (omega arith)

-- its stock, with what it brings
oldest-stock : (es : List Entry) (d : Entry) → Saved es → first_where is_processed es < length es
    → (get_or es (first_where is_processed es) d).before.stock + quantity_of (get_or es (first_where is_processed es) d).message.kind ≤ most_stock
unfolding first_where tally
oldest-stock [] d s h = absurd (omega arith)
oldest-stock (e ∷ es) d (and-more f s) h = here (is_processed e) refl h (oldest-stock es d s)
  where
    here : (b : Bool) → is_processed e ≡ b → cond b 0 (suc (first_where is_processed es)) < suc (length es)
        → (first_where is_processed es < length es → (get_or es (first_where is_processed es) d).before.stock + quantity_of (get_or es (first_where
        is_processed es) d).message.kind ≤ most_stock)
        → (get_or (e ∷ es) (cond b 0 (suc (first_where is_processed es))) d).before.stock + quantity_of (get_or (e ∷ es) (cond b 0 (suc (first_where
        is_processed es))) d).message.kind ≤ most_stock
    here true p h r = omega (arith, f p)
    here false p h r = r (omega arith)

module _ (m : List ℕ) (h : Header) (known : Known m h) (k : ℕ)
    (found : k ≡ 0 + first_where (has_mark Processed) (places_at entry_of queue_size m (queue_at 0) (h.queued - 0))) where
  position : k ≡ first_where is_processed (decode m).queue
  position = rw (queue-places m h known) (rw (sub-zero, zero-add) at found)

  agreed-here : h.agreed ≡ (decode m).agreed
  unfolding decode
  agreed-here = rw known.header

  pub nothing-to-commit : (output : List ℕ) → h.queued ≤ k → left (answer_of (Err NothingToDo)) m output ≡ leaving (commit (length output) (decode m)) m output
  unfolding leaving commit
  nothing-to-commit output e =
      rw (none-processed (decode m).queue (omega (arith, position, queue-count m h known)))

  module _ (below : k < h.queued) (entry : Entry) (read : entry ≡ entry_of (part m (queue_at k) queue_size)) where
    here : get_or (decode m).queue (first_where is_processed (decode m).queue) entry ≡ entry
    here =
        rw (← position, queue-places m h known)
        (place_at entry_of queue_size m header_size h.queued k entry below ∙ sym read)

    oldest : (rest : List Entry) × (processed_of (decode m).queue ≡ entry ∷ rest)
    oldest =
        let o = oldest-processed (decode m).queue entry (omega (arith, position, queue-count m h known)) in
        (o.0, rw here at o.1)

    pub not_yet : (output : List ℕ) → h.agreed ≤ entry.message.hour → left (answer_of (Err NothingToDo)) m output ≡ leaving (commit (length output) (decode m)) m output
    unfolding leaving commit
    not_yet output l =
        rw (oldest.1, ← agreed-here, le-ltb entry.message.hour h.agreed l)

    pub lamp-whole : length entry.message.lamp ≡ 18
    unfolding entry_of message_of
    lamp-whole =
        let z = sizes m h known in
        let whole = length_part m (queue_at k) queue_size (omega arith) in
        rw read (length_part (part m (queue_at k) queue_size) 12 18 (omega arith))

    pub stock-whole : entry.before.stock + quantity_of entry.message.kind ≤ most_stock
    stock-whole =
        let stocks = (valid-facts (decode m) (sound-facts m known.soundness).held).stocks in
        rw here at (oldest-stock (decode m).queue entry stocks.saved (omega (arith, position, queue-count m h known)))

    -- a queue holds no message of the round
    pub kind-whole : kind_number entry.message.kind ≤ 3
    kind-whole =
        let member : entry ∈ processed_of (decode m).queue = subst (λ (es : List Entry). entry ∈ es) (sym oldest.1) (member-first refl) in
        ((valid-facts (decode m) (sound-facts m known.soundness).held).entries entry (processed-member (decode m).queue entry member)).message.kind

    pub commits : (output : List ℕ) {l : CallResult Answer} → entry.message.hour < h.agreed → l ≡ leaving (recorded (length output) entry
        (without k (decode m).queue) (decode m)) m output
        → l ≡ leaving (commit (length output) (decode m)) m output
    unfolding commit
    commits output t p =
        p ∙ rw (oldest.1, ← agreed-here, lt-ltb entry.message.hour h.agreed t, without-first is_processed (decode m).queue, ← position)

-- an event that is no Restock has a lamp
pub length-of-others : (kind : Kind) → kind_number kind ≤ 3 → ((quantity : ℕ) → kind ≡ Restock quantity → ⊥) → 27 ≡ whole_length (map_of_kind (kind_number kind))
length-of-others (Failure origin) h o = sym (plain-length (Failure origin) (omega arith))
length-of-others (Request origin) h o = sym (plain-length (Request origin) (omega arith))
length-of-others (Delivery origin) h o = sym (plain-length (Delivery origin) (omega arith))
length-of-others (Restock quantity) h o = absurd (o quantity refl)
length-of-others Start h o = absurd (omega arith)
length-of-others Lvt h o = absurd (omega arith)
length-of-others Update h o = absurd (omega arith)

-- the record of an event
module _ (e : Entry) (lamp : length e.message.lamp ≡ 18) (m output : List ℕ) (k : ℕ) {one : ℕ}
    (one-is : one ≡ whole_length (map_of_kind (kind_number e.message.kind))) where
  size : one + state_size ≡ length (record_of e)
  unfolding record_for map_of
  size = rw (length-append, length-state, one-is, whole-size (frame_if false e.message) lamp)

  pub record-room : one + state_size ≤ length output → length (record_of e) ≤ length output
  record-room h = rw size at h

  pub no_record : length output < one + state_size → left (answer_of (Err NoRoom)) m output ≡ leaving (recorded (length output) e (without k (decode m).queue) (decode m)) m output
  unfolding leaving
  no_record h =
      rw (lt-leb (length (record_of e)) (length output) (rw size at h))

  pub record-done : {out after : List ℕ} → one + state_size ≤ length output → out ≡ write 0 (record_of e) output
      → after ≡ encode (with_queue (without k (decode m).queue) (decode m)) m
      → record { answer = record { number = 0; written = one + state_size }; memory = after; output = out } ≡ leaving (recorded (length output) e
      (without k (decode m).queue) (decode m)) m output
  unfolding leaving
  record-done h p q = rw (le-leb (length (record_of e)) (length output) (record-room h), p, q, size)

module _ (e : Entry) (output : List ℕ) (room : length (record_of e) ≤ length output) {f : Frame} (frame_is : f ≡ frame_if false e.message) where
  both : length (written f) + state_size ≤ length output
  unfolding record_for
  both = rw frame_is (rw (length-append, length-state) at room)

  pub frame-room : 0 + length (written f) ≤ length output
  frame-room = let b = both in omega arith

  module _ {out : List ℕ} {next : ℕ} (p : Puts 0 (written f) output out next) where
    pub state-room : next + state_size ≤ length out
    state-room = let b = both in rw (p.output, length-write 0 (written f) output (omega arith), p.position) (omega arith)

    pub record-put : {state : State} {end : List ℕ} → state ≡ after e.before e.message.kind → end ≡ write next (state_bytes state) out
        → end ≡ write 0 (record_of e) output
    unfolding record_for
    record-put g q =
        let b = both in
        let at : next ≡ 0 + length (written f) = p.position in
        q ∙ rw (g, p.output, at, ← frame_is) (write-join 0 (written f) (state_bytes (after e.before e.message.kind)) output (omega arith))

pub commit-call : (m output : List ℕ) → on_sound commit m output ≡ committed m output
unfolding committed
commit-call m output = refl
