-- `frame::pieces::frame_end` meets its contract.
use Rattle.lists.proofs.PieceLaws.{end-cut, end_whole}
use Rattle.frame.proofs.pieces.frame_end.Goals as goal

pub returns-then-bytes-at : goal.returns-then-bytes-at
returns-then-bytes-at c = search end-cut

pub returns : goal.returns
returns c = search end_whole
