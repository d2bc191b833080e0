-- `take_cancel::strike_out` meets its contract.
use mathlib.Core.Path.{ap}
use mathlib.Core.Bool.{not}
use Rattle.buffer.specs.Slice.{Bytes}
use native.Mathlib.Omega.{arith}
use Rattle.buffer.proofs.Lent.{bytes-known}
use Rattle.take_cancel.proofs.CancelTakings.{struck-below, struck-without-room, may-strike, may-put-all, struck-done}
use Rattle.gateway.proofs.Knowing.{sizes}
use Rattle.take_cancel.proofs.strike_out.Goals as goal

pub count_sent-sent-requires : goal.count_sent-sent-requires
count_sent-sent-requires c =
    let z = sizes _ _ c.requires.0 in (omega (arith, c.requires.1), omega (arith, z.long, z.queued))

pub has_room-requires : goal.has_room-requires
has_room-requires c =
    let z = sizes _ _ c.requires.0 in omega (arith, z.queued, z.settings.q, c.count_sent-sent.ensures.1)

pub returns-then-not-has_room : goal.returns-then-not-has_room
returns-then-not-has_room c =
    let b : Bytes c.args.memory.now = search bytes-known in
    struck-without-room c.args.memory.now c.args.output.now _ c.requires.0 b _ c.requires.2 c.requires.3 _ c.requires.1 _
    c.count_sent-sent.ensures.0 c.has_room.ensures (ap not c.if-not-has_room.true)

pub take_out-next-requires : goal.take_out-next-requires
take_out-next-requires c =
    let b : Bytes c.args.memory.now = search bytes-known in
    let low = struck-below c.args.memory.now c.args.output.now _ c.requires.0 b _ c.requires.2 c.requires.3 _ c.requires.1 _
    c.count_sent-sent.ensures.0 in
    let may = may-strike c.args.memory.now c.args.output.now _ c.requires.0 b _ c.requires.2 c.requires.3 _ c.requires.1 _
    c.count_sent-sent.ensures.0 c.has_room.ensures (ap not c.if-not-has_room.false) in
    (_, low, may)

pub put_frames-written-requires : goal.put_frames-written-requires
put_frames-written-requires c =
    let b : Bytes c.args.memory.now = search bytes-known in
    let low = struck-below c.args.memory.now c.args.output.now _ c.requires.0 b _ c.requires.2 c.requires.3 _ c.requires.1 _
    c.count_sent-sent.ensures.0 in
    let may = may-strike c.args.memory.now c.args.output.now _ c.requires.0 b _ c.requires.2 c.requires.3 _ c.requires.1 _
    c.count_sent-sent.ensures.0 c.has_room.ensures (ap not c.if-not-has_room.false) in
    may-put-all c.args.memory.now c.args.output.now _ c.requires.0 b _ c.requires.2 c.requires.3 _ c.requires.1 _
    c.count_sent-sent.ensures.0 c.has_room.ensures (ap not c.if-not-has_room.false)
    (c.take_out-next.ensures _ low may) c.acknowledgment-reply.ensures c.outstanding_at.ensures

pub write_header-requires : goal.write_header-requires
write_header-requires c =
    let z = sizes _ _ c.requires.0 in omega arith

pub returns : goal.returns
returns c =
    let b : Bytes c.args.memory.now = search bytes-known in
    let low = struck-below c.args.memory.now c.args.output.now _ c.requires.0 b _ c.requires.2 c.requires.3 _ c.requires.1 _
    c.count_sent-sent.ensures.0 in
    let may = may-strike c.args.memory.now c.args.output.now _ c.requires.0 b _ c.requires.2 c.requires.3 _ c.requires.1 _
    c.count_sent-sent.ensures.0 c.has_room.ensures (ap not c.if-not-has_room.false) in
    struck-done c.args.memory.now c.args.output.now _ c.requires.0 b _ c.requires.2 c.requires.3 _ c.requires.1 _
    c.count_sent-sent.ensures.0 c.has_room.ensures (ap not c.if-not-has_room.false)
    (c.take_out-next.ensures _ low may) c.acknowledgment-reply.ensures c.outstanding_at.ensures
    c.put_frames-written.ensures c.write_header.ensures
