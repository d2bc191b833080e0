-- `commit::commit` meets its contract.
use mathlib.Core.Path.{◌∙◌}
use Rattle.std.proofs.lemmas.Result.{err_from_is_err_and}
use Rattle.gateway.specs.Committing.{commit}
use Rattle.gateway.proofs.Calling.{call-unsound, call-sound}
use Rattle.commit.proofs.Recording.{commit-call}
use Rattle.commit.proofs.commit.Goals as goal

pub returns-in_err-header : goal.returns-in_err-header
returns-in_err-header c =
    let p = err_from_is_err_and c.from_residual.result c.from_residual.ensures.1 in
    rw p.1 (call-unsound _ commit _ c.in_err-header.ensures p.2 ∙ commit-call _ _)

pub returns : goal.returns
returns c = call-sound _ commit _ c.in_ok-header.ensures c.commit_oldest.ensures ∙ commit-call _ _
