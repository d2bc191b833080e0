-- `take_lvt::lvt_in` meets its contract.
use native.Mathlib.Omega.{arith}
use Rattle.phases.proofs.Changing.{as-effect, still}
use Rattle.take_lvt.proofs.Arriving.{all-lvts, more-lvts}
use Rattle.take_lvt.proofs.lvt_in.Goals as goal

pub returns-then-arrived-all : goal.returns-then-arrived-all
returns-then-arrived-all c =
    as-effect c.args.memory.now c.args.output.now c.finish.ensures (all-lvts _ _ c.requires _ _ _
    c.if-arrived-all.true)

pub announce-requires : goal.announce-requires
announce-requires c =
    (still _ _ c.requires c.changed-next.ensures, omega arith)

pub returns : goal.returns
returns c =
    as-effect c.args.memory.now c.args.output.now c.announce.ensures (more-lvts _ _ c.requires _ _ _
    c.if-arrived-all.false c.changed-next.ensures c.stopped.ensures)
