-- `take_start::start_in` meets its contract.
use native.Mathlib.Omega.{arith}
use Rattle.phases.proofs.Changing.{as-effect, still}
use Rattle.take_start.proofs.Starting.{all-starts, more-starts}
use Rattle.take_start.proofs.start_in.Goals as goal

pub returns-then-arrived-all : goal.returns-then-arrived-all
returns-then-arrived-all c =
    as-effect c.args.memory.now c.args.output.now c.begin.ensures (all-starts _ _ c.requires _ _
    c.if-arrived-all.true)

pub announce-requires : goal.announce-requires
announce-requires c =
    (still _ _ c.requires c.changed-next.ensures, omega arith)

pub returns : goal.returns
returns c =
    as-effect c.args.memory.now c.args.output.now c.announce.ensures (more-starts _ _ c.requires _ _
    c.if-arrived-all.false c.changed-next.ensures c.waiting.ensures)
