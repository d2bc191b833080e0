-- `records::event_read` meets its contract.
use mathlib.Core.Path.{refl}
use Rattle.std.proofs.lemmas.Result.{err_from_is_err_and}
use Rattle.lists.proofs.PieceLaws.{end-between}
use Rattle.frame.specs.Layout.{whole_length}
use Rattle.frame.proofs.Sizes.{whole-some}
use Rattle.refusal.proofs.Numbers.{refusal-some}
use Rattle.records.proofs.EventBranches.{at-frame, at-state, at-event, at-found}
use borrow.Author.Rules.{rules}
use Rattle.records.proofs.event_read.Goals as goal

pub overflow_sub-left : goal.overflow_sub-left
overflow_sub-left c = let b = end-between whole_length whole-some _ _ c.requires c.frame_end-end.ensures in search rules

pub slice_bounds-event_frame-count : goal.slice_bounds-event_frame-count
slice_bounds-event_frame-count c = let b = end-between whole_length whole-some _ _ c.requires c.frame_end-end.ensures in search rules

pub slice_bounds-event_frame-start : goal.slice_bounds-event_frame-start
slice_bounds-event_frame-start c = let b = end-between whole_length whole-some _ _ c.requires c.frame_end-end.ensures in search rules

pub slice_bounds-event_frame-end : goal.slice_bounds-event_frame-end
slice_bounds-event_frame-end c = let b = end-between whole_length whole-some _ _ c.requires c.frame_end-end.ensures in search rules

pub returns-in_err-frame-clause-number : goal.returns-in_err-frame-clause-number
returns-in_err-frame-clause-number c =
    let p = err_from_is_err_and c.from_residual.result c.from_residual.ensures.1 in
    rw (p.1, p.2) (at-frame _ _ _ c.requires c.frame_end-end.ensures c.in_err-frame.ensures.number (refusal-some _))

pub returns-then-left-state-clause-number : goal.returns-then-left-state-clause-number
returns-then-left-state-clause-number c =
    at-state _ _ _ c.requires c.frame_end-end.ensures c.in_ok-frame.ensures.number refl c.state_size-state.ensures c.if-left-state.true

pub returns-clause-number : goal.returns-clause-number
returns-clause-number c =
    at-event _ _ _ c.requires c.frame_end-end.ensures c.in_ok-frame.ensures.number refl c.state_size-state.ensures c.if-left-state.false

pub returns-clause-event : goal.returns-clause-event
returns-clause-event c =
    at-found _ _ _ c.requires c.frame_end-end.ensures c.in_ok-frame.ensures.number refl c.state_size-state.ensures c.if-left-state.false
    c.in_ok-frame.ensures.frame c.kind_number.ensures
