-- Taking a plain message, a cancel or an acknowledgment.
use Rattle.std.specs.Prelude.{Bool, true, false, cond, not, ◌&&◌, List, [], ◌∷◌, ◌++◌, map}
use Rattle.lists.specs.Lists.{any, without_first, before_first, from_first, before_last, from_last, tail_of}
use Rattle.model.specs.declared.Message.{Message}
use Rattle.frame.specs.declared.Frame.{Frame}
use Rattle.frame.specs.declared.Sense.TheVariants.{Acknowledgment, CancelAcknowledgment}
use Rattle.memory.specs.Records.{Gateway, site_of}
use Rattle.memory.specs.Validity.{is_waiting, equal, later, no_state}
use Rattle.memory.specs.declared.Entry.{Entry}
use Rattle.memory.specs.declared.Sent.{Sent}
use Rattle.memory.specs.declared.Mark.TheVariants.{Waiting}
use Rattle.gateway.specs.Effects.{Effect, Outcome, refused, with_queue, with_outstanding, frames_for}
use Rattle.gateway.specs.Undoing.{processed_of, pending_entry, undone, sent_back, rolled_back}

-- an entry later in event order than m: m enters the queue before the first such one, and so after its equals
abbrev pub is_later : Message → Entry → Bool
is_later m e = later e.message m

-- the acknowledgment of a message, or of a cancel
abbrev pub acknowledgment : Bool → Message → Frame
acknowledgment cancel m = record { message = m; sense = cond cancel CancelAcknowledgment Acknowledgment }

-- an equal cancel that waits; an equal plain message
abbrev pub is_cancel_of : Message → Entry → Bool
is_cancel_of m e = is_waiting e && equal e.message m

abbrev pub is_plain : Message → Entry → Bool
is_plain m e = not (is_waiting e) && equal e.message m

-- m enters the queue after its equals, and the processed messages behind it, later in event order, are undone. The
-- acknowledgment first, then the cancels
abbrev pub entered : Message → Gateway → Effect
entered m g =
    let rest = from_first (is_later m) g.queue in
    let events = processed_of rest in
    record {
      gateway = with_queue (before_first (is_later m) g.queue ++ (pending_entry m ∷ map undone rest)) (rolled_back events g);
      frames = acknowledgment false m ∷ frames_for true (sent_back (site_of g.settings) events);
    }

-- m and an equal cancel that waits vanish, with that queue left
abbrev pub vanished : Message → List Entry → Gateway → Effect
vanished m queue g = record { gateway = with_queue queue g; frames = acknowledgment false m ∷ [] }

-- where an equal cancel waits, both vanish; otherwise m enters the queue
unfoldable pub take_plain : Message → Gateway → Effect
unfolding any without_first before_first from_first
take_plain m g =
    cond (any (is_cancel_of m) g.queue)
    (vanished m (without_first (is_cancel_of m) g.queue) g)
    (entered m g)

-- a cancel that waits
abbrev pub waiting_entry : Message → Entry
waiting_entry m = record { message = m; mark = Waiting; before = no_state }

-- a cancel waits in a queue place, after its equals
abbrev pub waits : Message → Gateway → Effect
waits m g = record {
  gateway = with_queue (before_first (is_later m) g.queue ++ (waiting_entry m ∷ from_first (is_later m) g.queue)) g;
  frames = acknowledgment true m ∷ [];
}

-- the last equal queued plain message goes; if it was processed, it and the processed ones after it are undone first (if it
-- was not, none stands behind it in a sound queue). With no equal one the cancel waits
unfoldable pub take_cancel : Message → Gateway → Effect
unfolding any before_last from_last before_first from_first
take_cancel m g =
    let found = from_last (is_plain m) g.queue in
    let events = processed_of found in
    cond (any (is_plain m) g.queue)
    (record {
      gateway = with_queue (before_last (is_plain m) g.queue ++ map undone (tail_of found)) (rolled_back events g);
      frames = acknowledgment true m ∷ frames_for true (sent_back (site_of g.settings) events);
    })
    (waits m g)

-- an equal outstanding message, or cancel
abbrev pub is_sent : Bool → Message → Sent → Bool
is_sent cancel m x = cond cancel x.cancel (not x.cancel) && equal x.message m

-- an acknowledgment removes one equal outstanding message, the one sent first; 7 where none is
unfoldable pub take_acknowledgment : Bool → Message → Gateway → Outcome
unfolding any without_first
take_acknowledgment cancel m g =
    cond (any (is_sent cancel m) g.outstanding)
    (record { number = 0; gateway = with_outstanding (without_first (is_sent cancel m) g.outstanding) g; output = [] })
    (refused 7 g)
