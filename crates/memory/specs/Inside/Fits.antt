-- Every number of a gateway fits its field, and its places fit the memory: what the functions inside a call are told. No call's own
-- contract cites this file.
use Rattle.std.specs.Prelude.{◌≡◌, ℕ, ◌<◌, ◌≤◌, List, length}
use Rattle.lists.specs.Lists.{All}
use Rattle.model.specs.Messages.{origin_of, quantity_of}
use Rattle.model.specs.declared.Message.{Message}
use Rattle.model.specs.declared.LeadTimes.{LeadTimes}
use Rattle.memory.specs.Records.{Gateway, header_of}
use Rattle.memory.specs.Layout.{size_for}
use Rattle.memory.specs.Ranges.{RangedState}
use Rattle.memory.specs.declared.Settings.{Settings}
use Rattle.memory.specs.declared.Round.{Round}
use Rattle.memory.specs.declared.Header.{Header}
use Rattle.memory.specs.declared.Entry.{Entry}
use Rattle.memory.specs.declared.Sent.{Sent}

-- a message's numbers fit their fields
pub record MessageFits (m : Message) : Type 0 where
  pub hour : m.hour < 4294967296
  pub from : m.from < 256
  pub to : m.to < 256
  pub origin : origin_of m.kind < 256
  pub quantity : quantity_of m.kind < 65536
  pub lamp : length m.lamp ≡ 18

-- a queue entry's
pub record EntryFits (e : Entry) : Type 0 where
  pub message : MessageFits e.message
  pub before : RangedState e.before

-- an outstanding place's
pub record SentFits (s : Sent) : Type 0 where
  pub message : MessageFits s.message

-- the lead times'
pub record LeadTimesFit (t : LeadTimes) : Type 0 where
  pub request : t.request < 4294967296
  pub delivery : t.delivery < 4294967296
  pub life : t.life < 4294967296

-- the settings'
pub record SettingsFit (s : Settings) : Type 0 where
  pub n : s.n < 256
  pub own : s.own < 256
  pub supplier : s.supplier < 256
  pub last : s.last < 4294967296
  pub q : s.q < 65536
  pub u : s.u < 65536
  pub hours : LeadTimesFit s.hours

-- the round's
pub record RoundFits (r : Round) : Type 0 where
  pub arrived : r.arrived < 256
  pub note : r.note < 4294967296

-- the header's
pub record HeaderFits (h : Header) : Type 0 where
  pub settings : SettingsFit h.settings
  pub state : RangedState h.state
  pub agreed : h.agreed < 4294967296
  pub round : RoundFits h.round
  pub queued : h.queued < 65536
  pub outstanding : h.outstanding < 65536

-- every number of a gateway fits its field
pub record GatewayFits (g : Gateway) : Type 0 where
  pub header : HeaderFits (header_of g)
  pub queue : All EntryFits g.queue
  pub outstanding : All SentFits g.outstanding

-- the memory is long enough for the gateway's settings, and no more places are used than there are
pub record Room (g : Gateway) (m : List ℕ) : Type 0 where
  pub long : size_for g.settings.q g.settings.u ≤ length m
  pub queued : length g.queue ≤ g.settings.q
  pub sent : length g.outstanding ≤ g.settings.u
