-- `lines::split_frame` meets its contract.
use Rattle.std.proofs.Common.{arith, get_or}
use Rattle.frame.proofs.Sizes.{whole-some}
use Rattle.lines.proofs.split_frame.Goals as goal

-- a frame has a byte
pub returns-clause-shorter : goal.returns-clause-shorter
returns-clause-shorter c =
    omega (arith, c.split_at.ensures.back_len, c.min.ensures, c.whole_length-size.ensures, whole-some (get_or c.args.frames.now 0 0))
