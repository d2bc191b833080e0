-- `reader::frame_of` meets its contract.
use Rattle.reader.proofs.frame_of.Goals as goal

-- src/reader.rt:161:1
pub returns : goal.returns
returns c = cc
