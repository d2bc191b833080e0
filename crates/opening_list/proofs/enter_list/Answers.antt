-- `opening_list::enter_list` meets its contract.
use native.Mathlib.Omega.{arith}
use mathlib.Core.Path.{◌∙◌, ap}
use Rattle.buffer.proofs.Lent.{bytes-known}
use Rattle.lists.proofs.PieceLaws.{end-between}
use Rattle.frame.specs.Layout.{whole_length}
use Rattle.frame.proofs.Sizes.{whole-some}
use Rattle.frame.specs.Reasons.{frame_in}
use Rattle.frame.proofs.FormNumbers.{unwrapped}
use Rattle.opening_list.proofs.Entering.{enter-start, enter-end, enter-room, enter-turn}
use borrow.Author.Rules.{rules}
use Rattle.opening_list.proofs.enter_list.Goals as goal

pub loop-at-init : goal.loop-at-init
loop-at-init c = (enter-start _ _, search rules)

pub slice_bounds-read-count : goal.slice_bounds-read-count
slice_bounds-read-count c = let b = end-between whole_length whole-some _ _ c.loop-at-test.true c.frame_end-end.ensures in search rules

pub slice_bounds-read-start : goal.slice_bounds-read-start
slice_bounds-read-start c = let b = end-between whole_length whole-some _ _ c.loop-at-test.true c.frame_end-end.ensures in search rules

pub slice_bounds-read-end : goal.slice_bounds-read-end
slice_bounds-read-end c = let b = end-between whole_length whole-some _ _ c.loop-at-test.true c.frame_end-end.ensures in search rules

pub enter-requires : goal.enter-requires
enter-requires c =
    let r = enter-room _ _ _ _ _ c.loop-at.invariant.0 c.loop-at-test.true c.requires c.frame_end-end.ensures in
    omega arith

pub overflow_add-count : goal.overflow_add-count
overflow_add-count c =
    let r = enter-room _ _ _ _ _ c.loop-at.invariant.0 c.loop-at-test.true c.requires c.frame_end-end.ensures in
    search rules

pub loop-at-smaller : goal.loop-at-smaller
loop-at-smaller c =
    let b = end-between whole_length whole-some _ _ c.loop-at-test.true c.frame_end-end.ensures in search rules

pub loop-at-preserved : goal.loop-at-preserved
loop-at-preserved c = (
  enter-turn _ _ _ _ _ c.loop-at.invariant.0 c.loop-at-test.true c.requires c.frame_end-end.ensures
      (bytes-known c.args.list.now c.type_inv.list) {f = c.unwrap_or-frame.result} (c.unwrap_or-frame.ensures ∙ unwrapped c.read.result ∙ ap frame_in c.read.ensures)
      c.enter.ensures,
  search rules,
)

pub returns : goal.returns
returns c = search enter-end
