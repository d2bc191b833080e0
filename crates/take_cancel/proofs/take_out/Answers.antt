-- `take_cancel::take_out` meets its contract.
use native.Mathlib.Omega.{arith}
use Rattle.take_cancel.proofs.TakingOut.{movable, may-undo-behind, may-undo-last, taken_out_lem}
use borrow.Author.Rules.{rules}
use Rattle.take_cancel.proofs.take_out.Goals as goal

pub overflow_mul-at : goal.overflow_mul-at
overflow_mul-at c =
    let v = movable c.requires.1 c.requires.2 in search rules

pub overflow_add-at : goal.overflow_add-at
overflow_add-at c =
    let v = movable c.requires.1 c.requires.2 in search rules

pub read_entry-entry-requires : goal.read_entry-entry-requires
read_entry-entry-requires c =
    let v = movable c.requires.1 c.requires.2 in omega (arith, v.long)

pub overflow_add-at-2 : goal.overflow_add-at-2
overflow_add-at-2 c =
    let v = movable c.requires.1 c.requires.2 in search rules

pub overflow_sub-header : goal.overflow_sub-header
overflow_sub-header c =
    let v = movable c.requires.1 c.requires.2 in search rules

pub overflow_sub-header-2 : goal.overflow_sub-header-2
overflow_sub-header-2 c =
    let v = movable c.requires.1 c.requires.2 in search rules

pub overflow_mul-header : goal.overflow_mul-header
overflow_mul-header c =
    let v = movable c.requires.1 c.requires.2 in search rules

pub move_within-requires : goal.move_within-requires
move_within-requires c =
    let v = movable c.requires.1 c.requires.2 in (omega arith, omega (arith, v.long))

pub overflow_sub-next : goal.overflow_sub-next
overflow_sub-next c =
    let v = movable c.requires.1 c.requires.2 in search rules

pub undo-behind-requires : goal.undo-behind-requires
undo-behind-requires c =
    let d = may-undo-behind c.requires.1 c.requires.2 c.read_entry-entry.ensures c.move_within.ensures in (
      _,
      _,
      d.0,
      d.1,
    )

pub undo_entry-requires : goal.undo_entry-requires
undo_entry-requires c =
    let d = may-undo-behind c.requires.1 c.requires.2 c.read_entry-entry.ensures c.move_within.ensures in
    let l = may-undo-last c.requires.1 c.requires.2 c.read_entry-entry.ensures c.move_within.ensures
    (c.undo-behind.ensures _ _ d.0 d.1) in
    (_, _, l.0, l.1)

pub returns : goal.returns
returns c =
    λ g low may.
    let d = may-undo-behind low may c.read_entry-entry.ensures c.move_within.ensures in
    let u = c.undo-behind.ensures _ _ d.0 d.1 in
    let l = may-undo-last low may c.read_entry-entry.ensures c.move_within.ensures u in
    taken_out_lem low may c.read_entry-entry.ensures c.move_within.ensures u (c.undo_entry.ensures _ _
    l.0 l.1)
