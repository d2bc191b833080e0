-- `records::balance::book_of` meets its contract.
use mathlib.Core.Path.{ap}
use Rattle.buffer.proofs.Lent.{bytes-known}
use Rattle.records.specs.Inside.Walking.{events_left}
use Rattle.records.proofs.Booking.{booking-start, booking-end, booking-taken, booking-room, booking-turn}
use Rattle.records.proofs.balance.book_of.Goals as goal

pub loop-event-init : goal.loop-event-init
loop-event-init c =
    let bytes = c.args.bytes.now in
    booking-start c.args.opening bytes c.requires.0 c.requires.2 (bytes-known bytes c.type_inv.bytes) c.from-first.ensures
    (ap events_left c.into_iter-event-iterator.ensures.into_iter_gives)

pub booked-book-requires : goal.booked-book-requires
booked-book-requires c =
    let p = c.loop-event.invariant in
    let e = c.in-Some.ensures.steps in (
      booking-taken c.args.opening c.args.bytes.now c.requires.1 c.loop-event.book p e,
      booking-room c.args.opening c.args.bytes.now c.requires.1 c.loop-event.book p e,
    )

pub loop-event-preserved : goal.loop-event-preserved
loop-event-preserved c =
    booking-turn c.args.opening c.args.bytes.now c.requires.1 c.loop-event.book c.loop-event.invariant c.in-Some.ensures.steps c.booked-book.ensures

pub returns : goal.returns
returns c = booking-end c.args.opening c.args.bytes.now c.requires.1 c.loop-event.book c.loop-event.invariant c.in-None.ensures.steps.0
