-- `take_cancel::enter_cancel` meets its contract.
use mathlib.Core.Path.{ap}
use mathlib.Core.Bool.{not}
use Rattle.buffer.specs.Slice.{Bytes}
use native.Mathlib.Omega.{arith}
use Rattle.buffer.proofs.Lent.{bytes-known}
use Rattle.take_cancel.proofs.CancelTakings.{waits-without-room, waits-bytes, may-wait, waits-done}
use Rattle.take_cancel.proofs.CountAlone.{entered-alone}
use Rattle.rollback.proofs.RoomLaws.{roomy}
use Rattle.gateway.proofs.Knowing.{sizes}
use Rattle.take_cancel.proofs.enter_cancel.Goals as goal

pub place_for-k-requires : goal.place_for-k-requires
place_for-k-requires c = let z = sizes _ _ c.requires.0 in omega arith

pub returns-then-not-has_room : goal.returns-then-not-has_room
returns-then-not-has_room c =
    let b : Bytes c.args.memory.now = search bytes-known in
    waits-without-room c.args.memory.now c.args.output.now _ c.requires.0 b _ c.requires.1 c.requires.2 _ c.place_for-k.ensures
    c.has_room.ensures (ap not c.if-not-has_room.true)

pub put_frame-written-requires : goal.put_frame-written-requires
put_frame-written-requires c =
    let b : Bytes c.args.memory.now = search bytes-known in
    waits-bytes c.args.memory.now c.args.output.now _ c.requires.0 b _ c.requires.1 c.requires.2 _ c.place_for-k.ensures
    c.has_room.ensures (ap not c.if-not-has_room.false) c.acknowledgment.ensures

pub insert_place-requires : goal.insert_place-requires
insert_place-requires c =
    let b : Bytes c.args.memory.now = search bytes-known in
    let w = may-wait c.args.memory.now c.args.output.now _ c.requires.0 b _ c.requires.1 c.requires.2 _ c.place_for-k.ensures
    c.has_room.ensures (ap not c.if-not-has_room.false) c.unprocessed.ensures in
    let r = roomy w in (r.place, r.long)

pub overflow_add-header : goal.overflow_add-header
overflow_add-header c =
    let b : Bytes c.args.memory.now = search bytes-known in
    let w = may-wait c.args.memory.now c.args.output.now _ c.requires.0 b _ c.requires.1 c.requires.2 _ c.place_for-k.ensures
    c.has_room.ensures (ap not c.if-not-has_room.false) c.unprocessed.ensures in
    let r = roomy w in record { fits = omega (arith, r.counted) }

pub write-requires : goal.write-requires
write-requires c =
    let z = sizes _ _ c.requires.0 in omega (arith, z.long)

pub returns : goal.returns
returns c =
    let b : Bytes c.args.memory.now = search bytes-known in
    let w = may-wait c.args.memory.now c.args.output.now _ c.requires.0 b _ c.requires.1 c.requires.2 _ c.place_for-k.ensures
    c.has_room.ensures (ap not c.if-not-has_room.false) c.unprocessed.ensures in
    waits-done c.args.memory.now c.args.output.now _ c.requires.0 b _ c.requires.1 c.requires.2 _ c.place_for-k.ensures
    c.has_room.ensures (ap not c.if-not-has_room.false) c.acknowledgment.ensures c.unprocessed.ensures
    c.put_frame-written.ensures
    (entered-alone c.args.memory.now _ b c.requires.0 w c.insert_place.ensures c.write.ensures)
