-- `round::steps::begin` meets its contract.
use mathlib.Core.Path.{refl}
use Rattle.phases.proofs.Changing.{as-effect, still}
use Rattle.round.proofs.Stepping.{counting-on, stopping-at-once}
use native.Mathlib.Omega.{arith}
use Rattle.gateway.proofs.Knowing.{sizes}
use Rattle.round.proofs.steps.begin.Goals as goal

pub least_outstanding-note-requires : goal.least_outstanding-note-requires
least_outstanding-note-requires c = let z = sizes _ _ c.requires in omega arith

pub overflow_add-settings : goal.overflow_add-settings
overflow_add-settings c = let z = sizes _ _ c.requires in omega arith

pub least_queued-requires : goal.least_queued-requires
least_queued-requires c =
    let z = sizes _ _ c.requires in omega arith

pub finish-requires : goal.finish-requires
finish-requires c =
    c.requires

pub returns-then-settings : goal.returns-then-settings
returns-then-settings c =
    as-effect c.args.memory.now c.args.output.now c.finish.ensures (stopping-at-once _ _ c.requires _ _ _
    c.if-settings.true c.least_outstanding-note.ensures c.least_queued.ensures
    c.min-value.ensures)

pub told-requires : goal.told-requires
told-requires c =
    let z = sizes _ _ c.requires in omega arith

pub announce-requires : goal.announce-requires
announce-requires c =
    (still _ _ c.requires c.changed-next.ensures, omega arith)

pub returns : goal.returns
returns c =
    as-effect c.args.memory.now c.args.output.now c.announce.ensures (counting-on _ _ c.requires
    c.changed-next.ensures _ _ c.if-settings.false c.least_outstanding-note.ensures refl
    c.counting.ensures c.told.ensures)
