-- `take_plain::enter_plain` meets its contract.
use mathlib.Core.Path.{ap}
use mathlib.Core.Bool.{not}
use Rattle.buffer.specs.Slice.{Bytes}
use native.Mathlib.Omega.{arith}
use Rattle.buffer.proofs.Lent.{bytes-known}
use Rattle.take_plain.proofs.PlainTakings.{later-bound, place-bound, entered-without-room, may-send, may-put-all, may-enter, entered-done}
use Rattle.gateway.proofs.Knowing.{sizes}
use Rattle.take_plain.proofs.enter_plain.Goals as goal

pub place_for-k-requires : goal.place_for-k-requires
place_for-k-requires c = let z = sizes _ _ c.requires.0 in omega (arith, z.long, z.queued)

pub count_sent-sent-requires : goal.count_sent-sent-requires
count_sent-sent-requires c =
    let z = sizes _ _ c.requires.0 in (later-bound _ _ c.requires.0 _ _ c.place_for-k.ensures, omega (arith, z.long, z.queued))

pub has_room-requires : goal.has_room-requires
has_room-requires c =
    let z = sizes _ _ c.requires.0 in omega (arith, z.queued, z.settings.q, c.count_sent-sent.ensures.1)

pub returns-then-not-has_room : goal.returns-then-not-has_room
returns-then-not-has_room c =
    let b : Bytes c.args.memory.now = search bytes-known in
    entered-without-room c.args.memory.now c.args.output.now _ c.requires.0 b _ c.requires.1 c.requires.2 _ c.place_for-k.ensures _
    c.count_sent-sent.ensures.0
    c.has_room.ensures (ap not c.if-not-has_room.true)

pub undo-next-requires : goal.undo-next-requires
undo-next-requires c =
    let b : Bytes c.args.memory.now = search bytes-known in
    let low = place-bound c.args.memory.now c.args.output.now _ c.requires.0 b _ c.requires.1 c.requires.2 _ c.place_for-k.ensures _
    c.count_sent-sent.ensures.0 in
    let may = may-send c.args.memory.now c.args.output.now _ c.requires.0 b _ c.requires.1 c.requires.2 _ c.place_for-k.ensures _
    c.count_sent-sent.ensures.0 c.has_room.ensures (ap not c.if-not-has_room.false) in
    (_, _, low, may)

pub put_frames-end-requires : goal.put_frames-end-requires
put_frames-end-requires c =
    let b : Bytes c.args.memory.now = search bytes-known in
    let low = place-bound c.args.memory.now c.args.output.now _ c.requires.0 b _ c.requires.1 c.requires.2 _ c.place_for-k.ensures _
    c.count_sent-sent.ensures.0 in
    let may = may-send c.args.memory.now c.args.output.now _ c.requires.0 b _ c.requires.1 c.requires.2 _ c.place_for-k.ensures _
    c.count_sent-sent.ensures.0 c.has_room.ensures (ap not c.if-not-has_room.false) in
    may-put-all c.args.memory.now c.args.output.now _ c.requires.0 b _ c.requires.1 c.requires.2 _ c.place_for-k.ensures _
    c.count_sent-sent.ensures.0 c.has_room.ensures (ap not c.if-not-has_room.false)
    (c.undo-next.ensures _ _ low may) c.acknowledgment-reply.ensures c.outstanding_at.ensures

pub enter-requires : goal.enter-requires
enter-requires c =
    let b : Bytes c.args.memory.now = search bytes-known in
    let low = place-bound c.args.memory.now c.args.output.now _ c.requires.0 b _ c.requires.1 c.requires.2 _ c.place_for-k.ensures _
    c.count_sent-sent.ensures.0 in
    let may = may-send c.args.memory.now c.args.output.now _ c.requires.0 b _ c.requires.1 c.requires.2 _ c.place_for-k.ensures _
    c.count_sent-sent.ensures.0 c.has_room.ensures (ap not c.if-not-has_room.false) in (
      _,
      _,
      may-enter c.args.memory.now c.args.output.now _ c.requires.0 b _ c.requires.1 c.requires.2 _ c.place_for-k.ensures _
          c.count_sent-sent.ensures.0 c.has_room.ensures (ap not c.if-not-has_room.false)
          (c.undo-next.ensures _ _ low may) c.unprocessed.ensures,
    )

pub returns : goal.returns
returns c =
    let b : Bytes c.args.memory.now = search bytes-known in
    let low = place-bound c.args.memory.now c.args.output.now _ c.requires.0 b _ c.requires.1 c.requires.2 _ c.place_for-k.ensures _
    c.count_sent-sent.ensures.0 in
    let may = may-send c.args.memory.now c.args.output.now _ c.requires.0 b _ c.requires.1 c.requires.2 _ c.place_for-k.ensures _
    c.count_sent-sent.ensures.0 c.has_room.ensures (ap not c.if-not-has_room.false) in
    let u = c.undo-next.ensures _ _ low may in
    let there = may-enter c.args.memory.now c.args.output.now _ c.requires.0 b _ c.requires.1 c.requires.2 _ c.place_for-k.ensures _
    c.count_sent-sent.ensures.0 c.has_room.ensures (ap not c.if-not-has_room.false)
    u c.unprocessed.ensures in
    entered-done c.args.memory.now c.args.output.now _ c.requires.0 b _ c.requires.1 c.requires.2 _ c.place_for-k.ensures _
    c.count_sent-sent.ensures.0 c.has_room.ensures (ap not c.if-not-has_room.false)
    u c.acknowledgment-reply.ensures c.outstanding_at.ensures c.put_frames-end.ensures
    c.unprocessed.ensures (c.enter.ensures _ _ there)
