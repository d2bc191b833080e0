-- The numbers of a gateway fit their fields, as those of every gateway that bytes hold do: what validity does not say already.
use Rattle.std.specs.Prelude.{◌≡◌, ◌<◌, length}
use Rattle.lists.specs.Lists.{◌∈◌}
use Rattle.model.specs.Messages.{quantity_of}
use Rattle.model.specs.declared.Message.{Message}
use Rattle.model.specs.declared.State.{State}
use Rattle.memory.specs.Records.{Gateway}
use Rattle.memory.specs.declared.Entry.{Entry}
use Rattle.memory.specs.declared.Sent.{Sent}

pub record RangedState (s : State) : Type 0 where
  pub stock : s.stock < 4294967296
  pub failed : s.failed < 4294967296
  pub fitted : s.fitted < 4294967296
  pub short : s.short < 4294967296

pub record RangedMessage (m : Message) : Type 0 where
  pub quantity : quantity_of m.kind < 65536
  pub lamp : length m.lamp ≡ 18

pub record RangedEntry (e : Entry) : Type 0 where
  pub message : RangedMessage e.message
  pub before : RangedState e.before

pub record Ranged (g : Gateway) : Type 0 where
  pub state : RangedState g.state
  pub agreed : g.agreed < 4294967296
  pub note : g.round.note < 4294967296
  pub queue : (e : Entry) → e ∈ g.queue → RangedEntry e
  pub outstanding : (x : Sent) → x ∈ g.outstanding → RangedMessage x.message
