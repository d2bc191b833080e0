-- Laws of a round's frames to at most two gateways, and of a header written together with them.
use mathlib.Core.Path.{◌≡◌, refl, sym, ◌∙◌, ap}
use mathlib.Core.List.{List, ◌++◌, append-nil}
use Rattle.std.specs.Prelude.{Err}
use Rattle.refusal.specs.declared.Refusal.TheVariants.{NoRoom}
use Prim.Native.Nat.{ℕ, ◌+◌, ◌*◌, ◌^◌, ◌≤◌, ◌<◌}
use native.Mathlib.Nat.{zero-add, mul-le-mul_right}
use native.Mathlib.Omega.{arith}
use lib.Dec.{lit≤}
use lib.ListN.{length, length-append}
use borrow.Author.Tests.{le-leb, lt-leb}
use Rattle.lists.specs.Lists.{joined}
use Rattle.buffer.specs.Slice.{Bytes, write, Puts}
use Rattle.buffer.proofs.Writes.{write-nil}
use Rattle.model.specs.Messages.{kind_number}
use Rattle.model.specs.declared.Kind.{Kind}
use Rattle.model.specs.declared.Kind.TheVariants.{Failure, Request, Delivery, Restock, Start, Lvt, Update}
use Rattle.frame.specs.Layout.{whole_length}
use Rattle.frame.specs.Kinds.{map_of, map_of_kind}
use Rattle.frame.specs.Writing.{written}
use Rattle.frame.specs.declared.Frame.{Frame}
use Rattle.frame.proofs.Output.{whole-size}
use Rattle.memory.specs.Records.{Gateway, header_of}
use Rattle.memory.specs.Layout.{outstanding_at, header_size}
use Rattle.memory.specs.Codec.{header_front, header_back, entry_bytes, sent_bytes, decode, encode}
use Rattle.memory.specs.declared.Header.{Header}
use Rattle.memory.specs.Inside.Fits.{Room}
use Rattle.buffer.proofs.Standing.{write-stands}
use Rattle.memory.proofs.RoundTrips.{length_front, length_back}
use Rattle.memory.proofs.FourWrites.{four-writes}
use Rattle.memory.proofs.Holding.{length-queue, length-outstanding}
use Rattle.memory.proofs.SoundMemory.{sound-facts, sound-holds, sound-room, sound-fits, header-held}
use Rattle.gateway.specs.Effects.{bytes_of_frames, fits, settled}
use Rattle.gateway.specs.Rounds.{frame_in_round, frames_in_round}
use Rattle.gateway.specs.Calls.{left, leaving}
use Rattle.gateway.specs.Inside.Premises.{Changed, with_header}
use Rattle.routing.specs.AtMostTwo.{listed}
use Rattle.routing.specs.declared.at_most_two.AtMostTwo.{AtMostTwo}
use Rattle.routing.specs.declared.at_most_two.AtMostTwo.TheVariants.{None, One, Two}
use Rattle.gateway.specs.Answers.{answer_of}
use Rattle.frame.proofs.Sizes.{lvt-length, kind-small}

-- in the round what is not a Start is an Lvt or an Update
pub length-of-others : (kind : Kind) → 3 < kind_number kind → (kind ≡ Start → ⊥) → 8 ≡ whole_length (map_of_kind (kind_number kind))
length-of-others (Failure origin) h o = absurd (omega arith)
length-of-others (Request origin) h o = absurd (omega arith)
length-of-others (Delivery origin) h o = absurd (omega arith)
length-of-others (Restock quantity) h o = absurd (omega arith)
length-of-others Start h o = absurd (o refl)
length-of-others Lvt h o = sym (lvt-length Lvt (omega arith))
length-of-others Update h o = sym (lvt-length Update (omega arith))

module _ (kind : Kind) where
  pub two-small : (count : ℕ) {one : ℕ} → count ≤ 2 → one ≡ whole_length (map_of_kind (kind_number kind)) → count * one < 2 ^ 64
  two-small count {one} h e = omega (arith, mul-le-mul_right one h, kind-small kind)

module _ (kind : Kind) (hour own : ℕ) where
  -- every frame of a round has its kind's length
  frame-size : (to : ℕ) → length (written (frame_in_round kind hour own to)) ≡ whole_length (map_of_kind (kind_number kind))
  unfolding map_of
  frame-size to = whole-size (frame_in_round kind hour own to) refl

  -- the bytes of the frames to these gateways
  bytes : AtMostTwo ℕ → List ℕ
  bytes to = bytes_of_frames (frames_in_round kind hour own (listed to))

  one-bytes : (a : ℕ) → bytes (One a) ≡ written (frame_in_round kind hour own a)
  unfolding bytes joined
  one-bytes a = append-nil (written (frame_in_round kind hour own a))

  two_bytes : (a b : ℕ) → bytes (Two a b) ≡ written (frame_in_round kind hour own a) ++ written (frame_in_round kind hour own b)
  unfolding bytes joined
  two_bytes a b = rw (append-nil (written (frame_in_round kind hour own b)))

  -- how many bytes they take
  pub frames-size : (to : AtMostTwo ℕ) → length (bytes_of_frames (frames_in_round kind hour own (listed to)))
      ≡ length (listed to) * whole_length (map_of_kind (kind_number kind))
  unfolding bytes joined
  frames-size None = omega arith
  frames-size (One a) = ap length (one-bytes a) ∙ (frame-size a ∙ omega arith)
  frames-size (Two a b) = ap length (two_bytes a b) ∙ rw (length-append, frame-size a, frame-size b) (omega arith)

  module _ (m : List ℕ) where
    pub put-none : m ≡ write 0 (bytes_of_frames (frames_in_round kind hour own (listed None))) m
    unfolding joined
    put-none = sym (write-nil 0 m)

    module _ {a : ℕ} {f : Frame} (is : f ≡ frame_in_round kind hour own a) where
      pub one-room : length (bytes_of_frames (frames_in_round kind hour own (listed (One a)))) ≤ length m → 0 + length (written f) ≤ length m
      unfolding bytes
      one-room room = rw (is, zero-add) (rw (one-bytes a) at room)

      pub put_one : {m₁ : List ℕ} {end : ℕ} → Puts 0 (written f) m m₁ end → m₁ ≡ write 0 (bytes_of_frames (frames_in_round kind hour own (listed (One a)))) m
      unfolding bytes
      put_one p = p.output ∙ rw (one-bytes a, is)

      module _ {b : ℕ} {g : Frame} (is₂ : g ≡ frame_in_round kind hour own b) where
        pub two-room : length (bytes_of_frames (frames_in_round kind hour own (listed (Two a b)))) ≤ length m → 0 + length (written f ++ written g) ≤ length m
        unfolding bytes
        two-room room = rw (is, is₂, zero-add) (rw (two_bytes a b) at room)

        pub put_both : {m₁ : List ℕ} {end : ℕ} → Puts 0 (written f ++ written g) m m₁ end
            → m₁ ≡ write 0 (bytes_of_frames (frames_in_round kind hour own (listed (Two a b)))) m
        unfolding bytes
        put_both p = p.output ∙ rw (two_bytes a b, is, is₂)

-- the header and the frames
module _ (m : List ℕ) (h : Header) (c : Changed m h) (bytes : Bytes m) where
  kept : Gateway
  kept = with_header h (decode m)

  room-kept : Room kept m
  unfolding kept decode
  room-kept = let r = sound-room m bytes (sound-facts m c.soundness) in rw c.settings (record { long = r.long; queued = r.queued; sent = r.sent })

  header-kept : header_of kept ≡ h
  unfolding kept
  header-kept =
      let e = header-held m bytes (sound-facts m c.soundness) in
      λ i. record {
        settings = h.settings;
        state = h.state;
        agreed = h.agreed;
        round = h.round;
        queued = (ap (λ (x : Header). x.queued)
            e ∙ sym c.queued) i;
        outstanding = (ap (λ (x : Header). x.outstanding) e ∙ sym c.outstanding) i;
      }

  settings-same : h.settings.q ≡ (decode m).settings.q
  unfolding decode
  settings-same = rw c.settings

  four-parts : encode kept m ≡ write (outstanding_at h.settings.q 0) (joined sent_bytes (decode m).outstanding)
      (write header_size (joined entry_bytes (decode m).queue) (write 6 (header_back (header_of kept)) (write 0 (header_front (header_of kept)) m)))
  unfolding kept encode
  four-parts = refl

  pub header-written : {after : List ℕ} → after ≡ write 6 (header_back h) (write 0 (header_front h) m) → after ≡ encode (with_header h (decode m)) m
  unfolding kept
  header-written e =
      let s = sound-facts m c.soundness in
      let g = sound-fits m bytes s in
      let held = sound-holds m bytes s in
      let r = room-kept in
      let one = length-queue (decode m) g in
      let two = length-outstanding (decode m) g in
      let old = sound-room m bytes s in
      let q : h.settings.q ≡ (decode m).settings.q = settings-same in
      let inside : header_size + length (joined entry_bytes (decode m).queue) ≤ outstanding_at h.settings.q 0 = rw (one, q) (omega (arith, old.queued)) in
      let behind : outstanding_at h.settings.q 0 + length (joined sent_bytes (decode m).outstanding) ≤ length m = rw (two, q) (omega
      (arith, old.sent, old.long)) in
      let w = four-writes (header_front h) (header_back h) (joined entry_bytes (decode m).queue) (joined sent_bytes (decode m).outstanding) m
      (outstanding_at h.settings.q 0)
      (rw (length_front h) (lit≤ tt)) (rw (length_back h) (lit≤ tt)) inside behind in
      let queue = write-stands header_size (joined entry_bytes (decode m).queue) m (omega arith) held.queue in
      let sent = write-stands (outstanding_at h.settings.q 0) (joined sent_bytes (decode m).outstanding) m behind (rw q held.outstanding) in
      e
      ∙ sym
      (four-parts
      ∙ ap (λ (x : Header). write (outstanding_at h.settings.q 0) (joined sent_bytes (decode m).outstanding) (write header_size (joined
      entry_bytes (decode m).queue) (write 6 (header_back x) (write 0 (header_front x) m)))) header-kept
      ∙ (w.header-last ∙ rw (queue, sent)))

  module _ (kind : Kind) (hour : ℕ) (to : AtMostTwo ℕ) (output : List ℕ) {count one : ℕ} (many : count ≡ length (listed to)) (d : one ≡ whole_length (map_of_kind (kind_number kind))) where
    size : count * one ≡ length (bytes_of_frames (frames_in_round kind hour h.settings.own (listed to)))
    size = rw (d, many) (sym (frames-size kind hour h.settings.own to))

    pub announce-room : count * one ≤ length output → length (bytes_of_frames (frames_in_round kind hour h.settings.own (listed to))) ≤ length output
    announce-room l = rw size at l

    pub announce-none : length output < count * one → left (answer_of (Err NoRoom)) m output ≡ leaving (settled (length output) (decode m) (record {
      gateway = with_header h
          (decode m);
      frames = frames_in_round kind hour h.settings.own (listed to);
    })) m output
    unfolding leaving settled fits kept
    announce-none l =
        let k = room-kept in
        let short : length output < length (bytes_of_frames (frames_in_round kind hour h.settings.own (listed to))) = rw size at l in
        rw (
          le-leb (length (decode m).queue) h.settings.q k.queued,
          le-leb (length (decode m).outstanding) h.settings.u
              k.sent,
          lt-leb _ _ short,
        )

    pub announce-done : count * one ≤ length output → {after out : List ℕ} → after ≡ write 6 (header_back h) (write 0 (header_front h) m)
        → out ≡ write 0 (bytes_of_frames (frames_in_round kind hour h.settings.own (listed to))) output
        → record { answer = record { number = 0; written = count * one }; memory = after; output = out }
        ≡ leaving (settled (length output) (decode m) (record {
          gateway = with_header h (decode m);
          frames = frames_in_round kind hour
              h.settings.own (listed to);
        })) m output
    unfolding leaving settled fits kept
    announce-done l p q =
        let k = room-kept in
        let room : length (bytes_of_frames (frames_in_round kind hour h.settings.own (listed to))) ≤ length output = rw size at l in
        rw (
          le-leb (length (decode m).queue) h.settings.q k.queued,
          le-leb (length (decode m).outstanding) h.settings.u
              k.sent,
          le-leb _ _ room,
          header-written p,
          q,
          size,
        )

pub changed-long : (m : List ℕ) (h : Header) → Changed m h → header_size ≤ length m
changed-long m h c = (sound-facts m c.soundness).header
