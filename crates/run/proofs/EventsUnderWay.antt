-- The events and acknowledgments that are under way, as the theory has them.
use mathlib.Core.Path.{◌≡◌, refl, sym, ◌∙◌, ap, ap₂, subst}
use Prim.Native.Nat.{ℕ, ◌<◌}
use native.Mathlib.Omega.{arith}
use mathlib.Core.Bool.{Bool, true, false, cond, ◌||◌, false≢true}
use mathlib.Core.List.Memᴰ
use mathlib.Core.List.{List, [], ◌∷◌, ◌++◌, map, append_assoc}
use mathlib.Core.Logic.{⊎_elim}
use lib.Dec.{ltb, leb}
use Rattle.lists.specs.Lists.{◌∈◌, any, without_first, All, nil, cons, Insert, here, there}
use Rattle.lists.proofs.ListLaws.{all_left, all_right}
use Rattle.model.specs.Doing.{sent, sent_for, not_past, reply}
use Rattle.model.specs.Messages.{kind_number}
use Rattle.model.specs.declared.Message.{Message}
use Rattle.model.specs.declared.State.{State}
use Rattle.model.specs.declared.Site.{Site}
use Rattle.model.specs.declared.Kind.{Kind}
use Rattle.model.specs.declared.Kind.TheVariants.{Failure, Request, Delivery, Restock, Start, Lvt, Update}
use Rattle.frame.specs.Reasons.{frame_read}
use Rattle.frame.specs.Writing.{written}
use Rattle.frame.specs.declared.Frame.{Frame}
use Rattle.frame.specs.declared.Sense.{Sense}
use Rattle.frame.specs.declared.Sense.TheVariants.{Plain, Cancel, Acknowledgment, CancelAcknowledgment}
use Rattle.buffer.proofs.Equality.{same_bytes_lem}
use Rattle.gateway.specs.Effects.{frames_for}
use Rattle.gateway.specs.Taking.{acknowledgment}
use Rattle.event_steps.specs.Gateways.{Event, plain, cancel, message}
use Rattle.run.specs.World.{Carried, is_frame, carry, kind_in}
use Rattle.run.proofs.QueueViews.{event_if}

-- what is seen of the frames under way
module _ {A : Type 0} (see : Frame → List A) where
  -- of some frames
  unfoldable pub seen_of : List Frame → List A
  seen_of [] = []
  seen_of (f ∷ fs) = see f ++ seen_of fs

  -- of the frames under way
  unfoldable pub seen_in : List Carried → List A
  seen_in [] = []
  seen_in (c ∷ cs) = see (frame_read c.frame) ++ seen_in cs

  pub seen-append : (cs ds : List Carried) → seen_in (cs ++ ds) ≡ seen_in cs ++ seen_in ds
  unfolding seen_in
  seen-append [] ds = refl
  seen-append (c ∷ cs) ds =
      ap (λ l. see (frame_read c.frame) ++ l) (seen-append cs ds) ∙ sym (append_assoc (see (frame_read c.frame)) (seen_in cs) (seen_in ds))

  seen-written : (tag : ℕ) {fs : List Frame} → All (λ f. (frame_read (written f)) ≡ f) fs → seen_in (map (λ b. record {
    frame = b;
    tag =
        tag;
  }) (map written fs)) ≡ seen_of fs
  unfolding seen_in seen_of
  seen-written tag nil = refl
  seen-written tag (cons e a) = ap₂ (λ f l. see f ++ l) e (seen-written tag a)

  -- frames that can be read are put under way
  pub seen-carried : (tag : ℕ) (fs : List Frame) → All (λ f. (frame_read (written f)) ≡ f) fs → (cs : List Carried) → seen_in (carry tag
      (map written fs) cs) ≡ seen_in cs ++ seen_of fs
  seen-carried tag fs a cs = seen-append cs (map (λ b. record { frame = b; tag = tag }) (map written fs)) ∙ ap (λ l. seen_in cs ++ l) (seen-written tag a)

  -- the oldest equal frame is taken out
  pub seen-taken : (frame : List ℕ) (cs : List Carried) → any (is_frame frame) cs ≡ true → (x : A) → see (frame_read frame) ≡ x ∷ [] →
      Insert x (seen_in (without_first (is_frame frame) cs)) (seen_in cs)
  unfolding any without_first seen_in
  seen-taken frame [] h x e = absurd (false≢true h)
  seen-taken frame (c ∷ cs) h x e = by-case (is_frame frame c) refl (λ k. seen-taken frame cs k x e) h
    where
      further : (l : List A) {k m : List A} → Insert x k m → Insert x (l ++ k) (l ++ m)
      further [] i = i
      further (y ∷ l) i = there (further l i)

      by-case : (b : Bool) → is_frame frame c ≡ b → (any (is_frame frame) cs ≡ true → Insert x (seen_in (without_first (is_frame frame) cs))
          (seen_in cs)) → (b || any (is_frame frame) cs) ≡ true
          → Insert x (seen_in (cond b cs (c ∷ without_first (is_frame frame) cs))) (see (frame_read c.frame) ++ seen_in cs)
      by-case true d rest k =
          subst (λ l. Insert x (seen_in cs) (l ++ seen_in cs)) (sym (ap (λ (b : List ℕ). see (frame_read b)) (sym (same_bytes_lem frame c.frame d)) ∙ e)) here
      by-case false d rest k = further (see (frame_read c.frame)) (rest k)

  -- a frame of which nothing is seen leaves the rest
  pub seen-left : (frame : List ℕ) (cs : List Carried) → see (frame_read frame) ≡ [] → seen_in (without_first (is_frame frame) cs) ≡ seen_in cs
  unfolding without_first seen_in
  seen-left frame [] e = refl
  seen-left frame (c ∷ cs) e = by-case (is_frame frame c) refl (seen-left frame cs e)
    where
      by-case : (b : Bool) → is_frame frame c ≡ b → seen_in (without_first (is_frame frame) cs) ≡ seen_in cs
          → seen_in (cond b cs (c ∷ without_first (is_frame frame) cs)) ≡ see (frame_read c.frame) ++ seen_in cs
      by-case true d rest = ap (λ l. l ++ seen_in cs) (sym (ap (λ (b : List ℕ). see (frame_read b)) (sym (same_bytes_lem frame c.frame d)) ∙ e))
      by-case false d rest = ap (λ l. see (frame_read c.frame) ++ l) rest

  -- what all that is seen have, what is seen of one of them has
  pub seen-have : {p : A → Type 0} (cs : List Carried) → All p (seen_in cs) → (c : Carried) → c ∈ cs → All p (see (frame_read c.frame))
  unfolding seen_in
  seen-have [] a c m = absurd (Memᴰ.not-nil m)
  seen-have {p} (d ∷ cs) a c m =
      ⊎_elim
      (λ (e : c ≡ d). subst (λ (x : Carried). All p (see (frame_read x.frame))) (sym e) (all_left (see (frame_read d.frame)) (seen_in cs) a))
      (λ k. seen-have cs (all_right (see (frame_read d.frame)) (seen_in cs) a) c k)
      (Memᴰ.cases_cons m)

-- a plain message as an event; the frames of a round are none
abbrev pub plain_by_kind : Message → Kind → List (Event Message)
plain_by_kind m (Failure origin) = plain m ∷ []
plain_by_kind m (Request origin) = plain m ∷ []
plain_by_kind m (Delivery origin) = plain m ∷ []
plain_by_kind m (Restock quantity) = plain m ∷ []
plain_by_kind m Start = []
plain_by_kind m Lvt = []
plain_by_kind m Update = []

-- the event that a frame is, if it is one
abbrev pub event_by_sense : Message → Sense → List (Event Message)
event_by_sense m Plain = plain_by_kind m m.kind
event_by_sense m Cancel = cancel m ∷ []
event_by_sense m Acknowledgment = []
event_by_sense m CancelAcknowledgment = []

abbrev pub event_of : Frame → List (Event Message)
event_of f = event_by_sense f.message f.sense

-- the event that a frame acknowledges, if it is an acknowledgment
abbrev pub acknowledged_by_sense : Message → Sense → List (Event Message)
acknowledged_by_sense m Plain = []
acknowledged_by_sense m Cancel = []
acknowledged_by_sense m Acknowledgment = plain m ∷ []
acknowledged_by_sense m CancelAcknowledgment = cancel m ∷ []

abbrev pub acknowledged_of : Frame → List (Event Message)
acknowledged_of f = acknowledged_by_sense f.message f.sense

-- cancels that are sent
pub cancels-seen : (ms : List Message) → (seen_of event_of (frames_for true ms) ≡ map cancel ms) × (seen_of acknowledged_of (frames_for true ms) ≡ [])
unfolding seen_of
cancels-seen [] = (refl, refl)
cancels-seen (m ∷ ms) = (ap (λ l. cancel m ∷ l) (cancels-seen ms).0, (cancels-seen ms).1)

-- plain messages that are sent
abbrev pub IsEvent : Message → Type 0
IsEvent m = plain_by_kind m m.kind ≡ plain m ∷ []

pub plains-seen : {ms : List Message} → All IsEvent ms → (seen_of event_of (frames_for false ms) ≡ map plain ms) × (seen_of acknowledged_of
    (frames_for false ms) ≡ [])
unfolding seen_of
plains-seen nil = (refl, refl)
plains-seen (cons {a = m} {l = ms} e a) = (ap₂ ◌++◌ e (plains-seen a).0, (plains-seen a).1)

-- the lamp model sends nothing else
event-if : (last : ℕ) (x : Message) → IsEvent x → All IsEvent (not_past last x)
event-if last x e = by-case (leb x.hour last)
  where
    by-case : (b : Bool) → All IsEvent (cond b (x ∷ []) [])
    by-case true = cons e nil
    by-case false = nil

events-for : (z : Site) (s : State) (m : Message) (kind : Kind) → All IsEvent (sent_for z s m kind)
events-for z s m (Failure origin) = event-if z.last (reply z m z.hours.request z.supplier (Request z.own)) refl
events-for z s m (Request origin) = by-stock (ltb 0 s.stock)
  where
    by-stock : (b : Bool) → All IsEvent (cond b (not_past z.last (reply z m z.hours.delivery origin (Delivery origin))) (not_past z.last
        (reply z m z.hours.request z.supplier (Request origin))))
    by-stock true = event-if z.last (reply z m z.hours.delivery origin (Delivery origin)) refl
    by-stock false = event-if z.last (reply z m z.hours.request z.supplier (Request origin)) refl
events-for z s m (Delivery origin) = event-if z.last (reply z m z.hours.life z.own (Failure z.own)) refl
events-for z s m (Restock quantity) = nil
events-for z s m Start = nil
events-for z s m Lvt = nil
events-for z s m Update = nil

pub sent-events-all : (z : Site) (s : State) (m : Message) → All IsEvent (sent z s m)
unfolding sent
sent-events-all z s m = events-for z s m m.kind

-- the acknowledgment of an event
pub acknowledgment-seen : (b : Bool) (m : Message) (fs : List Frame) → (seen_of event_of (acknowledgment b m ∷ fs) ≡ seen_of event_of fs) ×
    (seen_of acknowledged_of (acknowledgment b m ∷ fs) ≡ event_if b m ∷ seen_of acknowledged_of fs)
unfolding seen_of
acknowledgment-seen true m fs = (refl, refl)
acknowledgment-seen false m fs = (refl, refl)

-- a bound of the events and acknowledgments under way bounds the hour of every such frame
pub bound-seen : (p : Message → Type 0) (cs : List Carried) → All (λ e. p (message e)) (seen_in event_of cs) → All (λ e. p (message e)) (seen_in acknowledged_of cs)
    → (c : Carried) → c ∈ cs → kind_in c.frame < 4 → p (frame_read c.frame).message
unfolding message
bound-seen p cs a b c m small = by-sense f.sense f.message.kind refl refl (seen-have event_of cs a c m) (seen-have acknowledged_of cs b c m)
  where
    f : Frame
    f = (frame_read c.frame)

    only : (x : Event Message) {q : Event Message → Type 0} → All q (x ∷ []) → q x
    only x (cons h a) = h

    by-sense : (s : Sense) (k : Kind) → f.sense ≡ s → f.message.kind ≡ k → All (λ e. p (message e)) (event_of f) → All (λ e. p (message
        e)) (acknowledged_of f) → p f.message
    by-sense Plain (Failure origin) e d a b = only (plain f.message) (rw (e, d) at a)
    by-sense Plain (Request origin) e d a b = only (plain f.message) (rw (e, d) at a)
    by-sense Plain (Delivery origin) e d a b = only (plain f.message) (rw (e, d) at a)
    by-sense Plain (Restock quantity) e d a b = only (plain f.message) (rw (e, d) at a)
    by-sense Plain Start e d a b = absurd (omega (arith, ap kind_number d))
    by-sense Plain Lvt e d a b = absurd (omega (arith, ap kind_number d))
    by-sense Plain Update e d a b = absurd (omega (arith, ap kind_number d))
    by-sense Cancel k e d a b = only (cancel f.message) (rw e at a)
    by-sense Acknowledgment k e d a b = only (plain f.message) (rw e at b)
    by-sense CancelAcknowledgment k e d a b = only (cancel f.message) (rw e at b)
