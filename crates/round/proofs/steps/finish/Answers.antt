-- `round::steps::finish` meets its contract.
use mathlib.Core.Path.{refl}
use Rattle.phases.proofs.Changing.{as-effect, still}
use Rattle.round.proofs.Stepping.{closing, passing-on}
use native.Mathlib.Omega.{arith}
use Rattle.gateway.proofs.Knowing.{sizes}
use Rattle.round.proofs.steps.finish.Goals as goal

pub announce-requires : goal.announce-requires
announce-requires c =
    (still _ _ c.requires c.changed-next.ensures, omega arith)

pub returns-then-settings-eq0 : goal.returns-then-settings-eq0
returns-then-settings-eq0 c =
    as-effect c.args.memory.now c.args.output.now c.announce.ensures (closing _ _ c.requires
    c.changed-next.ensures _ _ c.if-settings-eq0.true refl c.no_round.ensures c.children.ensures)

pub heard-requires : goal.heard-requires
heard-requires c = let z = sizes _ _ c.requires in omega arith

pub announce-requires-2 : goal.announce-requires-2
announce-requires-2 c =
    (still _ _ c.requires c.changed-next-2.ensures, omega arith)

pub returns : goal.returns
returns c =
    as-effect c.args.memory.now c.args.output.now c.announce-2.ensures (passing-on _ _ c.requires
    c.changed-next-2.ensures _ _ c.if-settings-eq0.false refl c.no_round-2.ensures c.heard.ensures)
