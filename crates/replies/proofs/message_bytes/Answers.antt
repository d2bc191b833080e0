-- `replies::message_bytes` meets its contract.
use Rattle.model.proofs.Arrays.{lamp-length}
use Rattle.replies.proofs.SendingRoom.{bytes-of-one}
use Rattle.replies.proofs.message_bytes.Goals as goal

pub returns : goal.returns
returns c = bytes-of-one c.args._message (lamp-length c.args._message _ c.well_formed.0) c.requires
