-- Laws of what a call looks at before its first store, and of entering a queue place.
use mathlib.Core.Path.{◌≡◌, refl, sym, ◌∙◌, ap}
use mathlib.Core.Bool.{Bool, true, false}
use mathlib.Core.List.{List, [], ◌∷◌, ◌++◌}
use Prim.Native.Nat.{ℕ, ◌+◌, ◌-◌, ◌*◌, ◌≤◌, ◌<◌}
use native.Mathlib.Omega.{arith}
use lib.ListN.{length, take, drop, length-append, take-append-drop}
use lib.Seq.{length-take-le}
use Rattle.buffer.specs.Slice.{part, write}
use Rattle.model.specs.Doing.{reply_to, sent_by}
use Rattle.model.proofs.Sending.{reply-sends}
use Rattle.model.specs.declared.Message.{Message}
use Rattle.model.specs.declared.Site.{Site}
use Rattle.std.specs.Prelude.{Option, None, Some}
use Rattle.std.specs.Option.{is_some}
use Rattle.std.specs.Int.{from_bool}
use Rattle.memory.specs.Layout.{header_size, queue_at, queue_size}
use Rattle.memory.specs.Records.{Gateway}
use Rattle.memory.specs.Codec.{places_at, entry_of, entry_bytes, header_front, header_back, encode}
use Rattle.memory.specs.Validity.{processed_mark}
use Rattle.memory.specs.declared.Entry.{Entry}
use Rattle.memory.specs.declared.Header.{Header}
use Rattle.gateway.specs.Effects.{with_queue}
use Rattle.gateway.specs.Undoing.{processed_of, sent_back}
use Rattle.places.proofs.Positions.{more}
use Rattle.effects.proofs.PlacedLaws.{placed-inside, placed-last, placed-inserted, placed-count}
use Rattle.rollback.specs.Inside.Entering.{MayEnter}
use Rattle.rollback.proofs.RollbackLaws.{processed-one, processed-no, back_one, back_more}

-- a message or none, counted
one-or-none : (reply : Option Message) → (from_bool (is_some reply) ≡ length (sent_by reply)) × (from_bool (is_some reply) ≤ 1)
one-or-none None = (refl, omega arith)
one-or-none (Some m) = (refl, omega arith)

pub counted-sent : {messages : List Message} (reply : Option Message) {n : ℕ} → sent_by reply ≡ messages → n ≡ from_bool (is_some reply)
    → (n ≡ length messages) × (n ≤ 1)
counted-sent reply e k = rw (← e, k) (one-or-none reply)

-- what an entry's event had sent
module _ (site : Site) (e : Entry) {processed : Bool} (test : processed ≡ processed_mark e.mark) where
  pub none-sent : processed ≡ false → [] ≡ sent_back site (processed_of (e ∷ []))
  unfolding sent_back
  none-sent h = rw (processed-no e (sym test ∙ h))

  pub one-sent : processed ≡ true → {made : Site} → made ≡ site → {reply : Option Message} → reply ≡ reply_to made e.before e.message
      → sent_by reply ≡ sent_back site (processed_of (e ∷ []))
  one-sent h {made} site-is gives =
      sym (rw (processed-one e (sym test ∙ h)) (back_one e site ∙ rw (← site-is) (sym (reply-sends made e.before e.message gives))))

-- counting them place by place
module _ (site : Site) (m : List ℕ) (queued whole : ℕ) where
  abbrev pub Counted : ℕ → ℕ → Type 0
  Counted i count = whole ≡ count + length (sent_back site (processed_of (places_at entry_of queue_size m (queue_at i) (queued - i))))

  pub count_turn : (i count n : ℕ) {e : Entry} → i < queued → Counted i count → e ≡ entry_of (part m (queue_at i) queue_size)
      → (n ≡ length (sent_back site (processed_of (e ∷ [])))) × (n ≤ 1) → Counted (i + 1) (count + n)
  count_turn i count n {e} h c read (p, few) =
      let rest = places_at entry_of queue_size m (queue_at (i + 1)) (queued - (i + 1)) in
      let one : sent_back site (processed_of (places_at entry_of queue_size m (queue_at i) (queued - i))) ≡ sent_back site (processed_of rest) ++
      sent_back site (processed_of (e ∷ [])) =
      rw (more entry_of queue_size header_size m queued i h, ← read) (back_more e site rest)
      in
      c ∙ rw (one, length-append, p) (omega arith)

  pub count-end : (i count : ℕ) → i ≤ queued → queued ≤ i → Counted i count → count ≡ whole
  unfolding places_at processed_of sent_back
  count-end i count h k c = let e : queued - i ≡ 0 = omega arith in sym (c ∙ rw e (omega arith))

pub count-start : (site : Site) (m : List ℕ) (queued k : ℕ)
    → Counted site m queued (length (sent_back site (processed_of (places_at entry_of queue_size m (queue_at k) (queued - k))))) k 0
count-start site m queued k = omega arith

-- entering a queue place
module _ {before memory : List ℕ} {g : Gateway} {h : Header} {k : ℕ} {e : Entry} (may : MayEnter before g memory h k e) where
  -- the header counts the queue, and there is a place more
  pub record Roomy : Type 0 where
    pub place : k ≤ h.queued
    pub long : header_size + queue_size * h.queued + queue_size ≤ length memory
    pub counted : h.queued + 1 < 65536

  pub roomy : Roomy
  roomy =
      let i = placed-inside may.placed in
      let n = placed-count may.placed in
      let q : g.settings.q ≡ h.settings.q = sym (ap (λ (x : Header). x.settings.q) may.placed.header) in
      record { place = omega (arith, may.place); long = omega (arith, may.room); counted = omega (arith, may.room) }

  pub entered-place : {middle memory' : List ℕ}
      → middle ≡ write (queue_at k) (entry_bytes e) (write (queue_at k + queue_size) (part memory (queue_at k) (queue_size * (h.queued - k))) memory)
      → memory' ≡ write 6 (header_back (record {
        settings = h.settings;
        state = h.state;
        agreed = h.agreed;
        round = h.round;
        queued =
            h.queued + 1;
        outstanding = h.outstanding;
      }))
      (write 0 (header_front (record {
        settings = h.settings;
        state = h.state;
        agreed = h.agreed;
        round = h.round;
        queued = h.queued +
            1;
        outstanding = h.outstanding;
      })) middle)
      → memory' ≡ encode (with_queue (take k g.queue ++ (e ∷ drop k g.queue)) g) before
  entered-place p q =
      let n = placed-count may.placed in
      let i : g.settings.q ≡ h.settings.q = sym (ap (λ (x : Header). x.settings.q) may.placed.header) in
      placed-last
      (placed-inserted may.placed (take k g.queue) (drop k g.queue) (sym (take-append-drop k g.queue)) e may.entry (omega (arith, may.room))
      (sym (length-take-le k g.queue may.place)) p refl)
      q
