-- `opening_list::opening_refusal` meets its contract.
use mathlib.Core.Path.{◌∙◌, ap}
use Rattle.std.proofs.lemmas.Result.{err_from_is_err_and}
use Rattle.frame.specs.Limits.{refusal}
use Rattle.frame.specs.Reasons.{refusal_in}
use Rattle.frame.specs.declared.Frame.{Frame}
use Rattle.gateway.specs.SettingUp.{may_open, opening_refusal}
use Rattle.opening_list.proofs.opening_refusal.Goals as goal

pub returns-in_err-frame : goal.returns-in_err-frame
unfolding opening_refusal
returns-in_err-frame c =
    let s = c.args.settings in
    let read = c.in_err-frame.ensures may_open (λ f b p. p.1) in
    let p = err_from_is_err_and c.from_residual.result c.from_residual.ensures.1 in
    rw p.1 (p.2 ∙ ap (refusal_in (λ (f : Frame). refusal f s.n s.own s.last)) read)

pub returns : goal.returns
unfolding opening_refusal
returns c =
    let s = c.args.settings in
    let read = c.in_ok-frame.ensures may_open (λ f b p. p.1) in
    c.check.ensures ∙ ap (refusal_in (λ (f : Frame). refusal f s.n s.own s.last)) read
