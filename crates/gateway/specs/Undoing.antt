-- Undoing processed events: the state is restored, and for each message that an event had sent a cancel is sent, latest
-- event first. (Document 01 calls this taking back; the field calls it rollback.)
use Rattle.std.specs.Prelude.{true, cond, List, [], ◌∷◌, ◌++◌}
use Rattle.model.specs.Doing.{sent}
use Rattle.model.specs.declared.Message.{Message}
use Rattle.model.specs.declared.State.{State}
use Rattle.model.specs.declared.Site.{Site}
use Rattle.memory.specs.Records.{Gateway, site_of}
use Rattle.memory.specs.Validity.{is_processed, no_state}
use Rattle.memory.specs.declared.Entry.{Entry}
use Rattle.memory.specs.declared.Mark.TheVariants.{Pending}
use Rattle.gateway.specs.Effects.{with_state, sent_all}

-- of some entries, the processed ones
unfoldable pub processed_of : List Entry → List Entry
processed_of [] = []
processed_of (e ∷ es) = let rest = processed_of es in cond (is_processed e) (e ∷ rest) rest

-- a plain message that is not processed, or not any more
abbrev pub pending_entry : Message → Entry
pending_entry m = record { message = m; mark = Pending; before = no_state }

-- an entry after undoing: a processed one is pending again
unfoldable pub undone : Entry → Entry
undone e = cond (is_processed e) (pending_entry e.message) e

-- the state before the first of the events that are undone, the present one if none is
unfoldable pub restored : State → List Entry → State
restored s [] = s
restored s (e ∷ es) = e.before

-- what the events had sent, latest event first
unfoldable pub sent_back : Site → List Entry → List Message
sent_back site [] = []
sent_back site (e ∷ es) = sent_back site es ++ sent site e.before e.message

-- the gateway after undoing these processed events: state, outstanding cancels and note; the queue is the caller's matter
unfoldable pub rolled_back : List Entry → Gateway → Gateway
unfolding restored sent_back
rolled_back events g = sent_all true (sent_back (site_of g.settings) events) (with_state (restored g.state events) g)
