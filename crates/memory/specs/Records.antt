-- A gateway: settings, state, agreed time (GVT), round, queue and outstanding messages.
use Rattle.std.specs.Prelude.{ℕ, List, length}
use Rattle.model.specs.declared.State.{State}
use Rattle.model.specs.declared.Site.{Site}
use Rattle.memory.specs.declared.Settings.{Settings}
use Rattle.memory.specs.declared.Entry.{Entry}
use Rattle.memory.specs.declared.Sent.{Sent}
use Rattle.memory.specs.declared.Round.{Round}
use Rattle.memory.specs.declared.Header.{Header}

-- A gateway. Its agreed time is the global virtual time (GVT) that it knows. The queue is in event order, the messages and
-- the cancels (anti-messages) that wait; what is outstanding, sent and not acknowledged, is in the order sent.
pub record Gateway : Type 0 where
  pub settings : Settings
  pub state : State
  pub agreed : ℕ
  pub round : Round
  pub queue : List Entry
  pub outstanding : List Sent

-- its header
abbrev pub header_of : Gateway → Header
header_of g = record {
  settings = g.settings;
  state = g.state;
  agreed = g.agreed;
  round = g.round;
  queued = length g.queue;
  outstanding = length g.outstanding;
}

-- where its messages are done
abbrev pub site_of : Settings → Site
site_of s = record { own = s.own; supplier = s.supplier; last = s.last; hours = s.hours }
