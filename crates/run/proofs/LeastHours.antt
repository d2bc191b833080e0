-- The two least hours that a round asks of a gateway, as the theory has them.
use mathlib.Core.Path.{◌≡◌, refl, ap}
use mathlib.Core.Bool.{Bool, true, false}
use mathlib.Core.List.{List, [], ◌∷◌, map}
use Prim.Native.Nat.{ℕ, min}
use native.Mathlib.Omega.{arith}
use Rattle.lists.specs.Lists.{least}
use Rattle.model.specs.EventOrder.{key}
use Rattle.model.specs.declared.Message.{Message}
use Rattle.frame.specs.Limits.{nothing_due}
use Rattle.memory.specs.declared.Entry.{Entry}
use Rattle.memory.specs.declared.Sent.{Sent}
use Rattle.gateway.specs.Rounds.{least_outstanding, least_queued}
use Rattle.gateway.specs.Working.{pending_of}
use Rattle.event_steps.specs.Models.{first}
use Rattle.event_steps.specs.Gateways.{message}
use Rattle.run.specs.WhatWaits.{waiting_of}
use Rattle.run.proofs.QueueViews.{event_if, event_for, Marked, pending, processed, waiting, marked}

-- a message's hour, as the theory has it
abbrev pub hour_of : Message → ℕ
hour_of m = first (key m)

hour-is : (m : Message) → hour_of m ≡ m.hour
unfolding first key
hour-is m = refl

message-of : (b : Bool) (m : Message) → message (event_if b m) ≡ m
unfolding message
message-of true m = refl
message-of false m = refl

pub least-outstanding : (xs : List Sent) → least_outstanding xs ≡ least nothing_due (λ e. hour_of (message e)) (map event_for xs)
unfolding least_outstanding least
least-outstanding [] = refl
least-outstanding (x ∷ xs) =
    omega (arith, least-outstanding xs, ap hour_of (message-of x.cancel x.message), hour-is x.message)

pub least-queued : (es : List Entry) → least_queued es ≡ min (least nothing_due hour_of (pending_of es)) (least nothing_due hour_of (waiting_of es))
unfolding least_queued least pending_of waiting_of
least-queued [] = omega arith
least-queued (e ∷ es) = go (marked e) (least-queued es)
  where
    go : Marked e → least_queued es ≡ min (least nothing_due hour_of (pending_of es)) (least nothing_due hour_of (waiting_of es))
        → least_queued (e ∷ es) ≡ min (least nothing_due hour_of (pending_of (e ∷ es))) (least nothing_due hour_of (waiting_of (e ∷ es)))
    go (pending p q r) h = rw (p, q, r) (omega (arith, hour-is e.message))
    go (processed p q r) h = rw (p, q, r) h
    go (waiting p q r) h = rw (p, q, r) (omega (arith, hour-is e.message))
