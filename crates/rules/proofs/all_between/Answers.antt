-- `rules::all_between` meets its contract.
use mathlib.Core.Path.{refl}
use Rattle.rules.proofs.Between.{between-turn, between-end}
use Rattle.rules.proofs.all_between.Goals as goal

pub loop-byte-preserved : goal.loop-byte-preserved
loop-byte-preserved c =
    let (size, so_far) = c.loop-byte.invariant in
    (size, between-turn c.args.low c.args.high _ c.args.lamp c.loop-byte.fine so_far (rw size c.loop-byte-test.true) refl)

pub returns : goal.returns
returns c =
    let (size, so_far) = c.loop-byte.invariant in
    between-end c.args.low c.args.high _ c.args.lamp c.loop-byte.fine so_far (rw size c.loop-byte-test.false)
