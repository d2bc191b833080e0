-- `rollback::undo::undo_place` meets its contract.
use mathlib.Core.Path.{ap}
use mathlib.Core.Bool.{not}
use Rattle.rollback.proofs.UndoLaws.{place_inside, place-alone, may-undo, place-undone}
use borrow.Author.Rules.{rules}
use Rattle.rollback.proofs.undo.undo_place.Goals as goal

pub overflow_mul-at : goal.overflow_mul-at
overflow_mul-at c = let i = place_inside c.requires.5 c.requires.6 in search rules

pub overflow_add-at : goal.overflow_add-at
overflow_add-at c = let i = place_inside c.requires.5 c.requires.6 in search rules

pub read_entry-entry-requires : goal.read_entry-entry-requires
read_entry-entry-requires c = (place_inside c.requires.5 c.requires.6).long

pub returns-then-not-is_processed : goal.returns-then-not-is_processed
returns-then-not-is_processed c = λ before g xs e zs b may. place-alone b may c.read_entry-entry.ensures c.is_processed.ensures (ap not c.if-not-is_processed.true)

pub write_entry-requires : goal.write_entry-requires
write_entry-requires c =
    (place_inside c.requires.5 c.requires.6).long

pub undo_entry-requires : goal.undo_entry-requires
undo_entry-requires c =
    let d = may-undo c.requires.5 c.requires.6 c.read_entry-entry.ensures c.is_processed.ensures
    (ap not c.if-not-is_processed.false) c.unprocessed.ensures c.write_entry.ensures in
    (c.requires.0, _, d.0, d.1)

pub returns : goal.returns
returns c =
    λ before g xs e zs b may.
    let d = may-undo b may c.read_entry-entry.ensures c.is_processed.ensures (ap not c.if-not-is_processed.false)
    c.unprocessed.ensures c.write_entry.ensures in
    place-undone b may c.read_entry-entry.ensures c.is_processed.ensures (ap not c.if-not-is_processed.false)
    c.unprocessed.ensures c.write_entry.ensures
    (c.undo_entry.ensures before _ d.0 d.1)
