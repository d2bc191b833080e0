-- Work: up to so many events are done, each the earliest unprocessed plain message.
use Rattle.std.specs.Prelude.{ℕ, zero, suc, ◌-◌, false, cond, List, [], ◌∷◌, ◌++◌, length}
use Rattle.model.specs.Doing.{after, sent}
use Rattle.model.specs.declared.Message.{Message}
use Rattle.model.specs.declared.State.{State}
use Rattle.memory.specs.Records.{Gateway, site_of}
use Rattle.memory.specs.Validity.{is_pending}
use Rattle.memory.specs.declared.Entry.{Entry}
use Rattle.memory.specs.declared.Mark.TheVariants.{Processed}
use Rattle.gateway.specs.Effects.{Effect, bytes_of_frames, fits, with_queue, with_state, sent_all, frames_for}

-- the unprocessed plain messages, the earliest first
unfoldable pub pending_of : List Entry → List Message
pending_of [] = []
pending_of (e ∷ es) = let rest = pending_of es in cond (is_pending e) (e.message ∷ rest) rest

-- the queue after the earliest of them is processed, with the state before it saved
unfoldable pub processed_next : State → List Entry → List Entry
processed_next s [] = []
processed_next s (e ∷ es) =
    let rest = e ∷ processed_next s es in
    cond (is_pending e) (record { message = e.message; mark = Processed; before = s } ∷ es) rest

-- doing the message m, which is the earliest: what it sends takes an outstanding place and goes to the output
unfoldable pub done : Message → Gateway → Effect
unfolding processed_next
done m g =
    let messages = sent (site_of g.settings) g.state m in
    record {
      gateway = sent_all false messages (with_state (after g.state m.kind) (with_queue (processed_next g.state g.queue) g));
      frames = frames_for false messages;
    }

-- how work comes out: the count done, why it stopped, the gateway afterwards and the output
pub record Progress : Type 0 where
  pub count : ℕ
  pub why : ℕ
  pub gateway : Gateway
  pub output : List ℕ

-- work that did no event
abbrev pub none_done : ℕ → Gateway → Progress
none_done why g = record { count = 0; why = why; gateway = g; output = [] }

-- one event more, before what the rest of the work comes to
abbrev pub once_more : List ℕ → Progress → Progress
once_more output p = record { count = suc p.count; why = p.why; gateway = p.gateway; output = output ++ p.output }

-- the earliest of some messages, if there is one
abbrev pub worked_by : List Message → Progress → (Message → Progress) → Progress
worked_by [] none next = none
worked_by (m ∷ ms) none next = next m

-- up to b events: stops with 0 for b done, else with 6 or 5, looked for in that order before each event
unfoldable pub worked : ℕ → ℕ → Gateway → Progress
unfolding pending_of done fits
worked zero room g = none_done 0 g
worked (suc b) room g =
    worked_by (pending_of g.queue) (none_done 6 g) λ m.
    let e = done m g in
    let output = bytes_of_frames e.frames in
    let rest = once_more output (worked b (room - length output) e.gateway) in
    cond (fits room e) rest (none_done 5 g)
