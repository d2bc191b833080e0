-- `writer::put_lamp` meets its contract.
use Rattle.frame.proofs.Output.{field-absent, field_room, field_put}
use Rattle.writer.proofs.put_lamp.Goals as goal

pub returns-then-not-stands : goal.returns-then-not-stands
returns-then-not-stands c = search field-absent

pub copy-requires : goal.copy-requires
copy-requires c = search field_room

pub returns : goal.returns
returns c = search field_put
