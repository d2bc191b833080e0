-- The length of a message's lamp, from what a function is told of a message that it is passed.
use mathlib.Core.Path.{◌≡◌}
use mathlib.Core.List.{List}
use lib.ListN.{length}
use mir.Val.{Val}
use denote.Laws.{Is}
use denote.Struct.Declared
use Rattle.model.specs.declared.Message.{Message}
use Rattle.model.specs.contracts.Message.{the_type}

pub lamp-length : (m : Message) (vs : List Val) → Is (Declared.row the_type) m vs → length m.lamp ≡ 18
lamp-length m vs told = told.1.1.1.1.1.1.0.1.0.1
