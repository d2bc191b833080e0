-- `buffer::copy` meets its contract.
use Rattle.buffer.proofs.Writes.{put_mid-write}
use Rattle.buffer.proofs.copy.Goals as goal

pub returns : goal.returns
returns c = search put_mid-write
