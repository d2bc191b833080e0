-- The length of the lamp in a place's value, from what a function is told of a value that it is passed.
use mathlib.Core.Path.{◌≡◌}
use mathlib.Core.List.{List}
use lib.ListN.{length}
use mir.Val.{Val}
use denote.Laws.{Is}
use denote.Struct.Declared
use Rattle.model.proofs.Arrays.{lamp-length}
use Rattle.memory.specs.declared.Entry.{Entry}
use Rattle.memory.specs.declared.Sent.{Sent}
use Rattle.memory.specs.contracts.Entry.{the_type as entry-type}
use Rattle.memory.specs.contracts.Sent.{the_type as sent-type}

pub entry-lamp : (e : Entry) (vs : List Val) → Is (Declared.row entry-type) e vs → length e.message.lamp ≡ 18
entry-lamp e vs told = lamp-length e.message _ told.1.1.0

pub sent-lamp : (s : Sent) (vs : List Val) → Is (Declared.row sent-type) s vs → length s.message.lamp ≡ 18
sent-lamp s vs told = lamp-length s.message _ told.1.1.0
