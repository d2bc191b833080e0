-- `replies::has_room` meets its contract.
use mathlib.Core.Path.{◌∙◌, ap}
use mathlib.Core.Bool.{not}
use Rattle.replies.proofs.SendingRoom.{room-for-nothing}
use Rattle.replies.proofs.has_room.Goals as goal

pub returns-then-is_none : goal.returns-then-is_none
returns-then-is_none c = c.if-is_none.true ∙ room-for-nothing c.args.header c.args.room c.args.reply (c.is_none.ensures ∙ ap not c.if-is_none.true) c.requires.0
