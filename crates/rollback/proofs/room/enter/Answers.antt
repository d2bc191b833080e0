-- `rollback::room::enter` meets its contract.
use native.Mathlib.Omega.{arith}
use Rattle.rollback.proofs.RoomLaws.{roomy, entered-place}
use borrow.Author.Rules.{rules}
use Rattle.rollback.proofs.room.enter.Goals as goal

pub insert_place-requires : goal.insert_place-requires
insert_place-requires c = let r = roomy c.requires.2 in (r.place, r.long)

pub overflow_add-next : goal.overflow_add-next
overflow_add-next c = let r = roomy c.requires.2 in search rules

pub write_header-requires : goal.write_header-requires
write_header-requires c = let r = roomy c.requires.2 in omega arith

pub returns : goal.returns
returns c =
    λ before g may. entered-place may c.insert_place.ensures c.write_header.ensures
