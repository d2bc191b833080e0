-- `take::take` meets its contract.
use mathlib.Core.Path.{◌∙◌}
use Rattle.std.proofs.lemmas.Result.{err_from_is_err_and}
use Rattle.gateway.specs.Calls.{take_bytes}
use Rattle.gateway.proofs.Calling.{call-unsound, call-sound}
use Rattle.gateway.proofs.Dispatching.{take-call}
use Rattle.take.proofs.take.Goals as goal

pub returns-in_err-header : goal.returns-in_err-header
returns-in_err-header c =
    let p = err_from_is_err_and c.from_residual.result c.from_residual.ensures.1 in
    rw p.1 (call-unsound _ (take_bytes _) _ c.in_err-header.ensures p.2 ∙ take-call _ _ _)

pub returns : goal.returns
returns c = call-sound _ (take_bytes _) _ c.in_ok-header.ensures c.take_bytes.ensures ∙ take-call _ _ _
