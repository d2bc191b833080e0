-- `events::work_at` meets its contract.
use mathlib.Core.Path.{refl, ap}
use mathlib.Core.Bool.{not}
use native.Mathlib.Omega.{arith}
use Rattle.model.proofs.Sending.{reply-kind}
use Rattle.events.proofs.EventDone.{no_room, event-done, bytes_inside, may-send}
use borrow.Author.Rules.{rules}
use Rattle.events.proofs.work_at.Goals as goal

pub reply_bytes-bytes-requires : goal.reply_bytes-bytes-requires
reply_bytes-bytes-requires c = reply-kind _ _ _ c.reply_to-reply.ensures

pub overflow_sub-room : goal.overflow_sub-room
overflow_sub-room c = c.requires.0.written

pub has_room-requires : goal.has_room-requires
has_room-requires c =
    (c.requires.0.outstanding, c.reply_bytes-bytes.ensures)

pub returns-then-not-has_room : goal.returns-then-not-has_room
returns-then-not-has_room c =
    λ before g reached first.
    no_room reached c.requires.1 first c.read_entry-entry.ensures c.site_of.ensures
    c.reply_to-reply.result c.reply_to-reply.ensures refl
    c.args.room c.has_room.ensures (ap not c.if-not-has_room.true) c.stopped.ensures

pub write_entry-requires : goal.write_entry-requires
write_entry-requires c =
    let ready = c.requires.0 in let below = c.requires.1 in omega (arith, ready.long, ready.queued)

pub state_after-requires : goal.state_after-requires
state_after-requires c =
    rw c.read_entry-entry.ensures c.requires.2

pub send_reply-last-requires : goal.send_reply-last-requires
send_reply-last-requires c =
    may-send c.requires.0 c.reply_to-reply.result c.has_room.ensures (ap not c.if-not-has_room.false) (search rules)

pub overflow_add-result : goal.overflow_add-result
overflow_add-result c =
    let fits = c.ranges in
    let inside = bytes_inside c.requires.0 c.reply_to-reply.result c.has_room.ensures (ap not c.if-not-has_room.false)
    c.reply_bytes-bytes.ensures in
    omega arith

pub returns : goal.returns
returns c =
    λ before g reached first.
    event-done reached c.requires.1 first c.read_entry-entry.ensures c.site_of.ensures
    c.reply_to-reply.result c.reply_to-reply.ensures c.state_after.ensures
    c.args.room c.has_room.ensures (ap not c.if-not-has_room.false) c.write_entry.ensures
    c.send_reply-last.ensures c.reply_bytes-bytes.ensures
