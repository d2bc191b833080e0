-- `reader::read` meets its contract.
use Rattle.frame.proofs.Branches.{too_short, wrong-map, wrong-length, judged}
use Rattle.reader.proofs.read.Goals as goal

pub returns-then-bytes-lt2 : goal.returns-then-bytes-lt2
returns-then-bytes-lt2 c = search too_short

pub returns-then-not-map_fits : goal.returns-then-not-map_fits
returns-then-not-map_fits c = search wrong-map

pub returns-then-bytes-whole_length : goal.returns-then-bytes-whole_length
returns-then-bytes-whole_length c = search wrong-length

pub returns : goal.returns
returns c = search judged
