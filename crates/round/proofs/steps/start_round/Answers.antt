-- `round::steps::start_round` meets its contract.
use mathlib.Core.Bool.{not}
use mathlib.Core.Path.{ap}
use native.Mathlib.Omega.{arith}
use Rattle.round.proofs.Stepping.{start-elsewhere, start-again, start-begins}
use Rattle.round.proofs.steps.start_round.Goals as goal

pub returns-then-settings-ne0 : goal.returns-then-settings-ne0
returns-then-settings-ne0 c = start-elsewhere _ _ c.requires _ c.if-settings-ne0.true

pub returns-then-not-is_idle : goal.returns-then-not-is_idle
returns-then-not-is_idle c =
    start-again _ _ c.requires _ (omega arith) c.is_idle.ensures (ap not c.if-not-is_idle.true)

pub returns : goal.returns
returns c =
    start-begins _ _ c.requires c.args.output.now (omega arith) c.is_idle.ensures (ap not c.if-not-is_idle.false)
    c.begin.ensures
