-- `records::event_frame` meets its contract.
use mathlib.Core.Path.{sym, ◌∙◌, ap}
use mathlib.Core.Bool.{true}
use Prim.Native.Nat.{ℕ}
use Rattle.std.proofs.lemmas.Result.{err_from_is_err_and}
use Rattle.frame.specs.Limits.{refusal_where}
use Rattle.frame.specs.Reasons.{reading, frame_in, refusal_in}
use Rattle.frame.specs.declared.Frame.{Frame}
use Rattle.frame.proofs.FormNumbers.{taken-read}
use Rattle.records.specs.Events.{most_gateways, latest_hour, is_event, frame_refusal}
use Rattle.records.proofs.event_frame.Goals as goal

abbrev limits : Frame → ℕ
limits f = refusal_where true f most_gateways latest_hour

pub returns-in_err-frame-clause-number : goal.returns-in_err-frame-clause-number
unfolding frame_refusal
returns-in_err-frame-clause-number c =
    let read = c.in_err-frame.ensures is_event (λ f b p. p.1) in
    let p = err_from_is_err_and c.from_residual.result c.from_residual.ensures.1 in
    rw p.1 (p.2 ∙ ap (refusal_in limits) read)

pub returns-in_err-check_where-clause-number : goal.returns-in_err-check_where-clause-number
unfolding frame_refusal
returns-in_err-check_where-clause-number c =
    let read = c.in_ok-frame.ensures is_event (λ f b p. p.1) in
    let p = err_from_is_err_and c.from_residual-in_err-check_where.result c.from_residual-in_err-check_where.ensures.1 in
    rw (p.1, p.2) (c.in_err-check_where.ensures ∙ ap (refusal_in limits) read)

pub returns-clause-number : goal.returns-clause-number
unfolding frame_refusal
returns-clause-number c =
    let read = c.in_ok-frame.ensures is_event (λ f b p. p.1) in
    c.in_ok-check_where.ensures ∙ ap (refusal_in limits) read

pub returns-clause-frame : goal.returns-clause-frame
returns-clause-frame c =
    let read = c.in_ok-frame.ensures is_event (λ f b p. p.1) in
    sym (ap frame_in (taken-read is_event (reading c.args.bytes.now) (sym read)))
