-- What a call would do to a gateway, whether there is room for it, and the changes that several calls make.
use Rattle.std.specs.Prelude.{ℕ, min, Bool, cond, ◌&&◌, List, [], ◌∷◌, ◌++◌, map, leb, length}
use Rattle.lists.specs.Lists.{joined}
use Rattle.model.specs.declared.Message.{Message}
use Rattle.model.specs.declared.State.{State}
use Rattle.frame.specs.Writing.{written}
use Rattle.frame.specs.declared.Frame.{Frame}
use Rattle.memory.specs.Records.{Gateway}
use Rattle.memory.specs.Validity.{frame_if}
use Rattle.memory.specs.declared.Entry.{Entry}
use Rattle.memory.specs.declared.Sent.{Sent}
use Rattle.memory.specs.declared.Round.{Round}
use Rattle.memory.specs.declared.Phase.{Phase}
use Rattle.memory.specs.declared.Phase.TheVariants.{Idle, Counting, Stopped}

-- what a call would do: the gateway afterwards, and the frames for the carrier in their order
pub record Effect : Type 0 where
  pub gateway : Gateway
  pub frames : List Frame

-- what a call comes to: its number, 0 where it is accepted, the gateway afterwards and the output
pub record Outcome : Type 0 where
  pub number : ℕ
  pub gateway : Gateway
  pub output : List ℕ

-- frames one behind the other
abbrev pub bytes_of_frames : List Frame → List ℕ
bytes_of_frames fs = joined written fs

-- queue places, outstanding places and output bytes are enough for all that the call would do
unfoldable pub fits : ℕ → Effect → Bool
unfolding joined
fits room e =
    leb (length e.gateway.queue) e.gateway.settings.q
    && leb (length e.gateway.outstanding) e.gateway.settings.u
    && leb (length (bytes_of_frames e.frames)) room

-- a refusal changes nothing and writes nothing
abbrev pub refused : ℕ → Gateway → Outcome
refused number g = record { number = number; gateway = g; output = [] }

-- the effect, or 5 where there is not room for it
unfoldable pub settled : ℕ → Gateway → Effect → Outcome
unfolding fits
settled room g e =
    cond (fits room e) (record { number = 0; gateway = e.gateway; output = bytes_of_frames e.frames }) (refused 5 g)

-- a call with that effect
abbrev pub settling : (Gateway → Effect) → ℕ → Gateway → Outcome
settling effect room g = settled room g (effect g)

-- a gateway with another queue, state, agreed time or round
abbrev pub with_queue : List Entry → Gateway → Gateway
with_queue queue g = record { settings = g.settings; state = g.state; agreed = g.agreed; round = g.round; queue = queue; outstanding = g.outstanding }

abbrev pub with_state : State → Gateway → Gateway
with_state state g = record { settings = g.settings; state = state; agreed = g.agreed; round = g.round; queue = g.queue; outstanding = g.outstanding }

abbrev pub with_agreed : ℕ → Gateway → Gateway
with_agreed agreed g = record { settings = g.settings; state = g.state; agreed = agreed; round = g.round; queue = g.queue; outstanding = g.outstanding }

abbrev pub with_round : Round → Gateway → Gateway
with_round round g = record { settings = g.settings; state = g.state; agreed = g.agreed; round = round; queue = g.queue; outstanding = g.outstanding }

abbrev pub with_outstanding : List Sent → Gateway → Gateway
with_outstanding sent g = record { settings = g.settings; state = g.state; agreed = g.agreed; round = g.round; queue = g.queue; outstanding = sent }

-- the note after a plain message or cancel of that hour is sent: until the gateway stops, the hour lowers it
abbrev pub lowered_in : Phase → ℕ → ℕ → ℕ
lowered_in Idle note hour = note
lowered_in Counting note hour = min note hour
lowered_in Stopped note hour = note

unfoldable pub noted : ℕ → Round → Round
noted hour r = record { phase = r.phase; arrived = r.arrived; note = lowered_in r.phase r.note hour }

-- sending a message or its cancel: it takes an outstanding place and lowers the note
unfoldable pub sent_one : Bool → Message → Gateway → Gateway
unfolding noted
sent_one cancel m g =
    with_outstanding (g.outstanding ++ (record { message = m; cancel = cancel } ∷ []))
    (with_round (noted m.hour g.round) g)

-- sending some, one after the other
unfoldable pub sent_all : Bool → List Message → Gateway → Gateway
unfolding sent_one
sent_all cancel [] g = g
sent_all cancel (m ∷ ms) g = sent_all cancel ms (sent_one cancel m g)

-- their frames
abbrev pub frames_for : Bool → List Message → List Frame
frames_for cancel ms = map (frame_if cancel) ms
