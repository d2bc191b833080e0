-- `opening_list::check_list` meets its contract.
use mathlib.Core.Path.{◌≡◌, refl, sym, ◌∙◌}
use Rattle.lists.proofs.PieceLaws.{end-between}
use Rattle.frame.specs.Layout.{whole_length}
use Rattle.frame.proofs.Sizes.{whole-some}
use Rattle.opening_list.proofs.Checking.{pass-start, pass-end, pass-refused, pass-turn}
use Rattle.refusal.proofs.Numbers.{refusal-some}
use borrow.Author.Rules.{rules}
use Rattle.opening_list.proofs.check_list.Goals as goal

pub loop-at-init : goal.loop-at-init
loop-at-init c = pass-start _ _

pub slice_bounds-opening_refusal-count : goal.slice_bounds-opening_refusal-count
slice_bounds-opening_refusal-count c = let b = end-between whole_length whole-some _ _ c.loop-at-test.true c.frame_end-end.ensures in search rules

pub slice_bounds-opening_refusal-start : goal.slice_bounds-opening_refusal-start
slice_bounds-opening_refusal-start c = let b = end-between whole_length whole-some _ _ c.loop-at-test.true c.frame_end-end.ensures in search rules

pub slice_bounds-opening_refusal-end : goal.slice_bounds-opening_refusal-end
slice_bounds-opening_refusal-end c = let b = end-between whole_length whole-some _ _ c.loop-at-test.true c.frame_end-end.ensures in search rules

pub returns-in-Err : goal.returns-in-Err
returns-in-Err c =
    pass-refused _ _ _ _ c.loop-at.invariant c.loop-at-test.true c.frame_end-end.ensures c.in-Err.ensures (refusal-some c.in-Err.refusal)

pub loop-at-smaller : goal.loop-at-smaller
loop-at-smaller c = let b = end-between whole_length whole-some _ _ c.loop-at-test.true c.frame_end-end.ensures in search rules

pub loop-at-preserved : goal.loop-at-preserved
loop-at-preserved c = pass-turn _ _ _ _ c.loop-at.invariant c.loop-at-test.true c.frame_end-end.ensures c.in_default.ensures refl

pub returns : goal.returns
returns c = search pass-end
