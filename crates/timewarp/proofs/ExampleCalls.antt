-- A gateway's calls at the level of the theory, where they refuse nothing: work, taking an event or an acknowledgment, commit. The
-- examples compute with them; no claim rests on them.
use mathlib.Core.Bool.{Bool, false, cond}
use mathlib.Core.List.{List, [], ◌∷◌, ◌++◌, map}
use Prim.Native.Nat.{ℕ, zero, suc}
use lib.Dec.{ltb}
use Rattle.lists.specs.Lists.{any, without_first}
use Rattle.event_steps.specs.Models.{hour, sent_by}
use Rattle.event_steps.specs.SingleQueue.{is_not_later, earliest, others}
use Rattle.event_steps.specs.Gateways.{Event, plain, cancel, Gateway, Network, history, gateway_of, network_of, after}
use Rattle.timewarp.specs.Worlds.{Setting, World, lower_all}

module _ (S : Setting) where
  open S use {model}
  open model use {Message, key}

  -- Whether two messages, or two events, are equal.
  unfoldable pub same : Message → Message → Bool
  same m n = cond (is_not_later (key m) (key n)) (is_not_later (key n) (key m)) false

  unfoldable pub same_event : Event Message → Event Message → Bool
  same_event (plain m) (plain n) = same m n
  same_event (plain m) (cancel n) = false
  same_event (cancel m) (plain n) = false
  same_event (cancel m) (cancel n) = same m n

  -- A message put into a list in event order, after its equals.
  unfoldable pub enqueue : Message → List Message → List Message
  enqueue m [] = m ∷ []
  enqueue m (n ∷ l) = cond (is_not_later (key n) (key m)) (n ∷ enqueue m l) (m ∷ (n ∷ l))

  -- Gateway i becomes g and the network n; of each message in `sent` it sends the message or its cancel.
  unfoldable pub becomes : ℕ → Gateway Message → Network Message → List Message → World S → World S
  becomes i g n sent w = record { events = after i g n w.events; rounds = lower_all S i sent w.rounds }

  -- Gateway i, with the queue g, does m, and `rest` stays pending.
  unfoldable pub do_message : ℕ → Gateway Message → Message → List Message → World S → World S
  do_message i g m rest w =
      let sent = sent_by model i (history g) m in
      becomes
      i
      (gateway_of g.committed (m ∷ g.processed) rest g.waiting (g.outstanding ++ map plain sent))
      (network_of (w.events.network.events ++ map plain sent) w.events.network.acknowledgments)
      sent
      w

  -- The earliest of the pending messages is done, if there is one.
  unfoldable pub do_earliest : ℕ → List Message → World S → World S
  do_earliest i [] w = w
  do_earliest i (m ∷ l) w = do_message i (w.events.gateways i) (earliest model m l) (others model m l) w

  -- Work: up to n events are done.
  unfoldable pub work : ℕ → ℕ → World S → World S
  work zero i w = w
  work (suc n) i w = work n i (do_earliest i (w.events.gateways i).pending w)

  -- Gateway i, with the queue g, undoes m, its latest event; `older` stay processed.
  unfoldable pub undo_message : ℕ → Gateway Message → Message → List Message → World S → World S
  undo_message i g m older w =
      let sent = sent_by model i (older ++ g.committed) m in
      becomes
      i
      (gateway_of g.committed older (m ∷ g.pending) g.waiting (g.outstanding ++ map cancel sent))
      (network_of (w.events.network.events ++ map cancel sent) w.events.network.acknowledgments)
      sent
      w

  -- Of the processed events those later than m are undone, the latest first.
  unfoldable pub undo_later : ℕ → Message → List Message → World S → World S
  undo_later i m [] w = w
  undo_later i m (p ∷ older) w =
      let v = undo_later i m older (undo_message i (w.events.gateways i) p older w) in
      cond (is_not_later (key p) (key m)) w v

  -- Of the processed events the last equal to m and those after it are undone, the latest first.
  unfoldable pub undo_back_to : ℕ → Message → List Message → World S → World S
  undo_back_to i m [] w = w
  undo_back_to i m (p ∷ older) w =
      let v = undo_message i (w.events.gateways i) p older w in
      let u = undo_back_to i m older v in
      cond (same m p) v u

  -- The oldest equal event under way is taken and acknowledged, and gateway i becomes g.
  unfoldable pub accept : ℕ → Event Message → Gateway Message → World S → World S
  accept i e g w =
      becomes
      i
      g
      (network_of (without_first (same_event e) w.events.network.events) (w.events.network.acknowledgments ++ (e ∷ [])))
      []
      w

  -- The message m is taken with its waiting cancel; or it becomes pending; or the cancel of m is taken with its pending
  -- message, of which equal ones are interchangeable; or it waits.
  unfoldable pub accept_met : ℕ → Message → Gateway Message → World S → World S
  accept_met i m g w =
      accept i (plain m) (gateway_of g.committed g.processed g.pending (without_first (same m) g.waiting) g.outstanding) w

  unfoldable pub accept_pending : ℕ → Message → Gateway Message → World S → World S
  accept_pending i m g w =
      accept i (plain m) (gateway_of g.committed g.processed (enqueue m g.pending) g.waiting g.outstanding) w

  unfoldable pub accept_striking : ℕ → Message → Gateway Message → World S → World S
  accept_striking i m g w =
      accept i (cancel m) (gateway_of g.committed g.processed (without_first (same m) g.pending) g.waiting g.outstanding) w

  unfoldable pub accept_waiting : ℕ → Message → Gateway Message → World S → World S
  accept_waiting i m g w =
      accept i (cancel m) (gateway_of g.committed g.processed g.pending (m ∷ g.waiting) g.outstanding) w

  -- Take a plain message: where an equal cancel waits both vanish; otherwise processed messages later in event order are
  -- undone and it becomes pending.
  unfoldable pub take_plain : ℕ → Message → World S → World S
  take_plain i m w =
      let g = w.events.gateways i in
      let v = undo_later i m g.processed w in
      let met = accept_met i m g w in
      let entered = accept_pending i m (v.events.gateways i) v in
      cond (any (same m) g.waiting) met entered

  -- Take a cancel: the last equal plain message goes; if it was processed, it and the processed ones after it are undone
  -- first. With no equal plain message the cancel waits.
  unfoldable pub take_cancel : ℕ → Message → World S → World S
  take_cancel i m w =
      let g = w.events.gateways i in
      let v = undo_back_to i m g.processed w in
      let struck = accept_striking i m g w in
      let undone = accept_striking i m (v.events.gateways i) v in
      let kept = accept_waiting i m g w in
      cond (any (same m) g.pending) struck (cond (any (same m) g.processed) undone kept)

  -- Take an acknowledgment: one equal outstanding event goes.
  unfoldable pub take_acknowledgment : ℕ → Event Message → World S → World S
  take_acknowledgment i e w =
      let g = w.events.gateways i in
      becomes
      i
      (gateway_of g.committed g.processed g.pending g.waiting (without_first (same_event e) g.outstanding))
      (network_of w.events.network.events (without_first (same_event e) w.events.network.acknowledgments))
      []
      w

  -- The oldest of the event m and the older ones l, and the newer ones without_first it.
  unfoldable pub oldest : Message → List Message → Message
  oldest m [] = m
  oldest m (n ∷ l) = oldest n l

  unfoldable pub newer_ones : Message → List Message → List Message
  newer_ones m [] = []
  newer_ones m (n ∷ l) = m ∷ newer_ones n l

  -- The oldest of the processed events is committed if its hour is below the agreed time.
  unfoldable pub commit_oldest : ℕ → List Message → World S → World S
  commit_oldest i [] w = w
  commit_oldest i (m ∷ l) w =
      let g = w.events.gateways i in
      let h = gateway_of (oldest m l ∷ g.committed) (newer_ones m l) g.pending g.waiting g.outstanding in
      let v = becomes i h w.events.network [] w in
      cond (ltb (hour model (oldest m l)) (w.rounds.agreed i)) v w

  unfoldable pub commit : ℕ → World S → World S
  commit i w = commit_oldest i (w.events.gateways i).processed w
