-- `round::start::start` meets its contract.
use mathlib.Core.Path.{◌∙◌}
use Rattle.std.proofs.lemmas.Result.{err_from_is_err_and}
use Rattle.gateway.specs.Rounds.{start}
use Rattle.gateway.proofs.Calling.{call-unsound, call-sound, start-call}
use Rattle.round.proofs.start.start.Goals as goal

pub returns-in_err-header : goal.returns-in_err-header
returns-in_err-header c =
    let p = err_from_is_err_and c.from_residual.result c.from_residual.ensures.1 in
    rw p.1 (call-unsound _ start _ c.in_err-header.ensures p.2 ∙ start-call _ _)

pub returns : goal.returns
returns c = call-sound _ start _ c.in_ok-header.ensures c.start_round.ensures ∙ start-call _ _
