-- What the abstract theory sees of a gateway: its queue as three lists of messages, and what is outstanding as events.
use mathlib.Core.Path.{◌≡◌, refl, ap}
use mathlib.Core.Bool.{Bool, true, false, cond}
use mathlib.Core.List.{List, [], ◌∷◌, ◌++◌, map}
use Rattle.model.specs.declared.Message.{Message}
use Rattle.memory.specs.Validity.{is_pending, is_processed, is_waiting}
use Rattle.memory.specs.declared.Entry.{Entry}
use Rattle.memory.specs.declared.Sent.{Sent}
use Rattle.memory.specs.declared.Mark.{Mark}
use Rattle.memory.specs.declared.Mark.TheVariants.{Pending, Processed, Waiting}
use Rattle.gateway.specs.Undoing.{undone}
use Rattle.gateway.specs.Working.{pending_of}
use Rattle.event_steps.specs.Gateways.{Event, plain, cancel, Gateway, gateway_of}
use Rattle.run.specs.WhatWaits.{waiting_of}

-- a message, or its cancel, as an event
abbrev pub event_if : Bool → Message → Event Message
event_if c m = cond c (cancel m) (plain m)

abbrev pub event_for : Sent → Event Message
event_for x = event_if x.cancel x.message

-- the history h after an entry, if that is processed
abbrev pub done_with : Entry → List Message → List Message
done_with e h = cond (is_processed e) (e.message ∷ h) h

-- the history h after the processed ones of some entries, the newest in front
unfoldable pub done_after : List Message → List Entry → List Message
done_after h [] = h
done_after h (e ∷ es) = done_after (done_with e h) es

-- the gateway of the theory, from what is committed, the queue and what is outstanding
abbrev pub view_of : List Message → List Entry → List Sent → Gateway Message
view_of c queue out = gateway_of c (done_after [] queue) (pending_of queue) (waiting_of queue) (map event_for out)

pub done-append : (h : List Message) (us vs : List Entry) → done_after h (us ++ vs) ≡ done_after (done_after h us) vs
unfolding done_after
done-append h [] vs = refl
done-append h (u ∷ us) vs = done-append (done_with u h) us vs

-- what was done before stays behind
pub done-history : (h k : List Message) (es : List Entry) → done_after (k ++ h) es ≡ done_after k es ++ h
unfolding done_after
done-history h k [] = refl
done-history h k (e ∷ es) = by-case (is_processed e) (done-history h k es) (done-history h (e.message ∷ k) es)
  where
    by-case : (t : Bool) → done_after (k ++ h) es ≡ done_after k es ++ h → done_after (e.message ∷ (k ++ h)) es ≡ done_after (e.message ∷ k) es ++ h
        → done_after (cond t (e.message ∷ (k ++ h)) (k ++ h)) es ≡ done_after (cond t (e.message ∷ k) k) es ++ h
    by-case true p q = q
    by-case false p q = p

pub pending-append : (us vs : List Entry) → pending_of (us ++ vs) ≡ pending_of us ++ pending_of vs
unfolding pending_of
pending-append [] vs = refl
pending-append (u ∷ us) vs = by-case (is_pending u) (pending-append us vs)
  where
    by-case : (t : Bool) → pending_of (us ++ vs) ≡ pending_of us ++ pending_of vs
        → cond t (u.message ∷ pending_of (us ++ vs)) (pending_of (us ++ vs)) ≡ cond t (u.message ∷ pending_of us) (pending_of us) ++ pending_of vs
    by-case true p = ap (λ l. u.message ∷ l) p
    by-case false p = p

pub waiting-append : (us vs : List Entry) → waiting_of (us ++ vs) ≡ waiting_of us ++ waiting_of vs
unfolding waiting_of
waiting-append [] vs = refl
waiting-append (u ∷ us) vs = by-case (is_waiting u) (waiting-append us vs)
  where
    by-case : (t : Bool) → waiting_of (us ++ vs) ≡ waiting_of us ++ waiting_of vs
        → cond t (u.message ∷ waiting_of (us ++ vs)) (waiting_of (us ++ vs)) ≡ cond t (u.message ∷ waiting_of us) (waiting_of us) ++ waiting_of vs
    by-case true p = ap (λ l. u.message ∷ l) p
    by-case false p = p

-- an entry by its mark
pub data Marked (e : Entry) : Type 0 where
  pending : is_pending e ≡ true → is_processed e ≡ false → is_waiting e ≡ false → Marked e
  processed : is_pending e ≡ false → is_processed e ≡ true → is_waiting e ≡ false → Marked e
  waiting : is_pending e ≡ false → is_processed e ≡ false → is_waiting e ≡ true → Marked e

pub marked : (e : Entry) → Marked e
marked e = by-case e.mark refl
  where
    by-case : (k : Mark) → e.mark ≡ k → Marked e
    by-case Pending h = pending (rw h) (rw h) (rw h)
    by-case Processed h = processed (rw h) (rw h) (rw h)
    by-case Waiting h = waiting (rw h) (rw h) (rw h)

-- after undoing nothing of them is done, and the same cancels wait
pub undone-done : (h : List Message) (es : List Entry) → done_after h (map undone es) ≡ h
unfolding done_after undone
undone-done h [] = refl
undone-done h (e ∷ es) = by-case (marked e) (undone-done h es)
  where
    by-case : Marked e → done_after h (map undone es) ≡ h → done_after h (map undone (e ∷ es)) ≡ h
    by-case (pending p q r) k = rw (q, q) k
    by-case (processed p q r) k = rw q k
    by-case (waiting p q r) k = rw (q, q) k

pub undone-waiting : (es : List Entry) → waiting_of (map undone es) ≡ waiting_of es
unfolding waiting_of undone
undone-waiting [] = refl
undone-waiting (e ∷ es) = by-case (marked e) (undone-waiting es)
  where
    by-case : Marked e → waiting_of (map undone es) ≡ waiting_of es → waiting_of (map undone (e ∷ es)) ≡ waiting_of (e ∷ es)
    by-case (pending p q r) k = rw (q, r) k
    by-case (processed p q r) k = rw (q, r) k
    by-case (waiting p q r) k = rw (q, r, k)
