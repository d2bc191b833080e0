-- `encoding::write_message` meets its contract.
use Rattle.memory.proofs.Stored.{message-stored}
use Rattle.encoding.proofs.write_message.Goals as goal

pub returns : goal.returns
returns c = search message-stored
