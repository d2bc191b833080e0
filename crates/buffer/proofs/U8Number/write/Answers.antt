-- `buffer::U8Number::write` meets its contract.
use native.Mathlib.Omega.{arith}
use Rattle.buffer.proofs.Numbers.{one_byte}
use Rattle.buffer.proofs.Writes.{set-write}
use Rattle.buffer.proofs.U8Number.write.Goals as goal

pub returns : goal.returns
returns c = rw (one_byte c.args.self c.ranges.self.fits) (set-write c.args.bytes.now c.args.at c.args.self (omega arith))
