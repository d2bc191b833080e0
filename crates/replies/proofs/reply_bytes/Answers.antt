-- `replies::reply_bytes` meets its contract.
use Rattle.replies.proofs.SendingRoom.{no_bytes}
use Rattle.replies.proofs.reply_bytes.Goals as goal

pub returns-in-None : goal.returns-in-None
returns-in-None c = rw c.in-None.is no_bytes
