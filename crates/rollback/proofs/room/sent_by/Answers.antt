-- `rollback::room::sent_by` meets its contract.
use Rattle.rollback.proofs.RoomLaws.{none-sent, one-sent}
use Rattle.rollback.proofs.room.sent_by.Goals as goal

pub returns-then-is_processed : goal.returns-then-is_processed
returns-then-is_processed c = one-sent _ c.args.entry c.is_processed.ensures c.if-is_processed.true c.site_of.ensures {reply = c.reply_to.result} c.reply_to.ensures

pub returns-else-is_processed : goal.returns-else-is_processed
returns-else-is_processed c = none-sent _ c.args.entry c.is_processed.ensures c.if-is_processed.false
