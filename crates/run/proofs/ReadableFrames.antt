-- What the gateways write of events can be read again: frames of stored messages and acknowledgments are of the forms that they are written in.
use mathlib.Core.Path.{◌≡◌, refl, sym, ◌∙◌, ap, subst}
use Prim.Native.Nat.{ℕ, zero, suc, ◌≤◌, ◌<◌}
use native.Mathlib.Omega.{arith}
use mathlib.Core.Bool.{Bool, true, false, cond, ◌||◌, false≢true}
use mathlib.Core.List.Memᴰ.{head as member-first}
use mathlib.Core.List.Memᴰ.{tail as member-rest}
use mathlib.Core.List.{List, [], ◌∷◌, map-append}
use borrow.Author.Tests.{leb-true, le-leb, lt-ltb, ne_eqb}
use Rattle.lists.specs.Lists.{◌∈◌, All, nil, cons}
use Rattle.lists.proofs.ListLaws.{all_append}
use Rattle.buffer.specs.Slice.{Bytes}
use Rattle.model.specs.Doing.{sent}
use Rattle.model.specs.Messages.{kind_number, origin_of}
use Rattle.model.specs.declared.Message.{Message}
use Rattle.model.specs.declared.State.{State}
use Rattle.frame.specs.Kinds.{has_lamp, sense_number}
use Rattle.frame.proofs.Presence.{lamp-kinds}
use Rattle.frame.specs.Writing.{all_between, lamp_fits, gateways_agree, hour_fits, sense_allowed, well_formed, written}
use Rattle.frame.specs.Claims.{RangedFrame}
use Rattle.frame.specs.declared.Frame.{Frame}
use Rattle.frame.specs.Reasons.{frame_in}
use Rattle.frame.proofs.Output.{whole-size}
use Rattle.frame.proofs.Laws.{one-to-one}
use Rattle.frame.specs.declared.Sense.{Sense}
use Rattle.memory.specs.Records.{site_of}
use Rattle.memory.specs.Ranges.{RangedMessage}
use Rattle.memory.specs.Validity.{frame_if, sense_if, is_waiting}
use Rattle.memory.specs.declared.Settings.{Settings}
use Rattle.memory.specs.declared.Entry.{Entry}
use Rattle.memory.proofs.Validated.{ValidSettings, Storable}
use Rattle.lists.proofs.BoolLaws.{and_left, and_right}
use Rattle.gateway.specs.Effects.{frames_for}
use Rattle.gateway.specs.Undoing.{sent_back}
use Rattle.gateway.specs.Taking.{acknowledgment}
use Rattle.gateway.proofs.Replies.{Good, GoodSent, sent-good}
use Rattle.run.proofs.QueueChanges.{each_all}
use Rattle.run.proofs.FramesCut.{Whole}
use Rattle.run.proofs.RoundsUnderWay.{Readable}
use Rattle.run.proofs.PassingFrames.{Passing, passing-frame}

-- numbers between two bytes are bytes
between-bytes : (low high : ℕ) → high < 256 → (l : List ℕ) → all_between low high l ≡ true → Bytes l
unfolding all_between
between-bytes low high h [] e i = omega arith
between-bytes low high h (b ∷ l) e zero = omega (arith, leb-true b high (search (and_left, and_right)))
between-bytes low high h (b ∷ l) e (suc i) = between-bytes low high h l (search (and_left, and_right)) i

lamp-bytes : (m : Message) → lamp_fits m ≡ true → Bytes m.lamp
unfolding lamp_fits
lamp-bytes m e = by-case (has_lamp (kind_number m.kind)) e
  where
    by-case : (t : Bool) → cond t (all_between 33 126 m.lamp) (all_between 0 0 m.lamp) ≡ true → Bytes m.lamp
    by-case true h = between-bytes 33 126 (omega arith) m.lamp h
    by-case false h = between-bytes 0 0 (omega arith) m.lamp h

form-lamp : (f : Frame) → well_formed f ≡ true → lamp_fits f.message ≡ true
unfolding well_formed
form-lamp f e = search (and_left, and_right) depth 9

-- numbers that fit
pub record Fitting (m : Message) : Type 0 where
  pub hour : m.hour < 4294967296
  pub from : m.from < 256
  pub to : m.to < 256
  pub origin : origin_of m.kind < 256
  pub ranged : RangedMessage m

-- they fit the fields of a frame
pub frame-ranged : (f : Frame) → well_formed f ≡ true → Fitting f.message → RangedFrame f
frame-ranged f e r =
    record {
      hour = r.hour;
      from = r.from;
      to = r.to;
      origin = r.origin;
      quantity = r.ranged.quantity;
      lamp = r.ranged.lamp;
      bytes = lamp-bytes f.message (form-lamp f e);
    }

-- a frame of an event or acknowledgment: it is read as it was written, is as long as the table says, is none of a round, and
-- passes in a forecast of n gateways until the last hour
pub record EventFrame (n last : ℕ) (f : Frame) : Type 0 where
  pub readable : Readable f
  pub whole : Whole f
  pub kind : kind_number f.message.kind ≤ 2
  pub hour : f.message.hour ≤ last
  pub passing : Passing n last (written f)

-- with equal limits
pub same-limits : {n n' last last' : ℕ} → n ≡ n' → last ≡ last' → {f : Frame} → EventFrame n last f → EventFrame n' last' f
same-limits {n' = n'} {last = last} p q {f} e = subst (λ (x : ℕ). EventFrame n' x f) q (subst (λ (x : ℕ). EventFrame x last f) p e)

-- the messages of some such frames
pub frames-hours : {n last : ℕ} (cancel : Bool) (ms : List Message) → All (EventFrame n last) (frames_for cancel ms) → All (λ m. m.hour ≤ last) ms
frames-hours cancel [] nil = nil
frames-hours cancel (m ∷ ms) (cons e a) = cons e.hour (frames-hours cancel ms a)

module _ (s : Settings) (v : ValidSettings s) where
  pub stored-fits : {cancel : Bool} (m : Message) → Storable s cancel m → RangedMessage m → Fitting m
  stored-fits m t r =
      record {
        hour = omega (arith, t.hour, v.last);
        from = omega (arith, t.from, v.n);
        to = omega (arith, t.to, v.n);
        origin = omega (arith, t.origin, v.n);
        ranged = r;
      }

  -- a frame of a stored message, in any sense
  pub event-frame : {cancel : Bool} (f : Frame) → well_formed f ≡ true → Storable s cancel f.message → RangedMessage f.message →
      kind_number f.message.kind ≤ 2 → EventFrame s.n s.last f
  event-frame f e t r k =
      let ranged = frame-ranged f e (stored-fits f.message t r) in
      record {
        readable = ap frame_in (one-to-one.written_read f ranged e);
        whole = sym (whole-size f r.lamp);
        kind = k;
        hour = t.hour;
        passing =
            passing-frame s.n s.last f ranged e (ne_eqb (kind_number f.message.kind) 3 (λ z. omega arith))
            (rw (
              lt-ltb f.message.from s.n t.from,
              lt-ltb f.message.to s.n t.to,
              lt-ltb (origin_of f.message.kind)
                  s.n t.origin,
            ) refl)
            (rw (le-leb f.message.hour s.last t.hour) refl);
      }

  -- what an event sends, or the cancels of it
  pub sent-frames : {waits : Bool} (m : Message) → Good s waits m → (cancel : Bool) (before : State) → All (EventFrame s.n s.last)
      (frames_for cancel (sent (site_of s) before m))
  sent-frames m good cancel before =
      frames-of (sent (site_of s) before m) (each_all (sent (site_of s) before m) (λ x k. sent-good s v m good cancel before x k))
    where
      frames-of : (ms : List Message) → All (λ x. GoodSent s (record { message = x; cancel = cancel })) ms → All (EventFrame s.n
          s.last) (frames_for cancel ms)
      frames-of [] nil = nil
      frames-of (x ∷ ms) (cons h a) =
          cons (event-frame (frame_if cancel x) h.valid.message.form h.valid.message h.ranged h.valid.kind) (frames-of ms a)

-- only a kind with a lamp has a sense
pub sensed-kind : (m : Message) (s : Sense) → 1 ≤ sense_number s → well_formed (record { message = m; sense = s }) ≡ true → kind_number m.kind ≤ 2
unfolding well_formed
sensed-kind m s h e =
    let allowed : sense_allowed (kind_number m.kind) (sense_number s) ≡ true = search (and_left, and_right) depth 9 in
    by-case (has_lamp (kind_number m.kind)) refl (rw (ne_eqb (sense_number s) 0 (λ z. omega arith)) at allowed)
  where
    by-case : (b : Bool) → has_lamp (kind_number m.kind) ≡ b → (b || false) ≡ true → kind_number m.kind ≤ 2
    by-case true p k = leb-true (kind_number m.kind) 2 (sym (lamp-kinds (kind_number m.kind)) ∙ p)
    by-case false p k = absurd (false≢true k)

-- a well-formed frame of a message with a lamp is so in any sense
pub any-sense : (m : Message) (s t : Sense) → kind_number m.kind ≤ 2 → well_formed (record { message = m; sense = s }) ≡ true → well_formed
    (record { message = m; sense = t }) ≡ true
unfolding well_formed
any-sense m s t h e =
    let hours : hour_fits (kind_number m.kind) m.hour ≡ true = search (and_left, and_right) depth 9 in
    let lamps : lamp_fits m ≡ true = search (and_left, and_right) depth 9 in
    let agrees : gateways_agree m.from m.to m.kind ≡ true = search (and_left, and_right) depth 9 in
    rw (lamps, hours, agrees, lamp-kinds (kind_number m.kind) ∙ le-leb (kind_number m.kind) 2 h)

module _ (s : Settings) (v : ValidSettings s) where
  -- the acknowledgment of a message that was taken
  pub acknowledgment-frame : (b : Bool) (m : Message) → Good s b m → kind_number m.kind ≤ 2 → EventFrame s.n s.last (acknowledgment b m)
  acknowledgment-frame b m good h =
      event-frame s v (acknowledgment b m) (any-sense m (sense_if b) (acknowledgment b m).sense h good.storable.form) good.storable good.ranged h

  -- the cancels of what some events had sent
  pub back-frames : (es : List Entry) → ((e : Entry) → e ∈ es → Good s (is_waiting e) e.message) → All (EventFrame s.n s.last)
      (frames_for true (sent_back (site_of s) es))
  unfolding sent_back
  back-frames [] h = nil
  back-frames (e ∷ es) h =
      subst (All (EventFrame s.n s.last)) (sym (map-append (frame_if true) (sent_back (site_of s) es) (sent (site_of s) e.before e.message)))
      (all_append (back-frames es (λ x k. h x (member-rest k))) (sent-frames s v e.message (h e (member-first refl)) true e.before))
