-- `buffer::write_all` meets its contract.
use mathlib.Core.Path.{sym}
use Rattle.buffer.specs.Number.{bytes_of}
use Rattle.buffer.proofs.Writes.{write-nil}
use Rattle.buffer.proofs.Numbers.{length-bytes_of}
use Rattle.buffer.proofs.Runs.{write-next}
use Rattle.buffer.proofs.write_all.Goals as goal

pub loop-i-init : goal.loop-i-init
loop-i-init g c = sym (write-nil c.args.at c.args.bytes.now)

pub loop-i-preserved : goal.loop-i-preserved
loop-i-preserved g c =
    let bytes = λ (n : g.row.T.Denot). bytes_of g.T.Number.WIDTH (g.T.Number.value n) in
    let size = λ (n : g.row.T.Denot). length-bytes_of g.T.Number.WIDTH (g.T.Number.value n) in
    cc (write-next bytes g.T.Number.WIDTH size c.args.at c.loop-i.i c.args.numbers.now c.index-numbers-i.result c.args.bytes.now c.loop-i-test.true c.requires
    c.index-numbers-i.is c.loop-i.invariant)
