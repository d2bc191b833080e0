use Rattle.records.specs.Inside.Walking.{events_left}
use Rattle.records.proofs.Booking.{Booking}
use Rattle.records.proofs.balance.book_of.Given as goal

abbrev pub invariant-loop-event : goal.invariant-loop-event
invariant-loop-event l = Booking l.opening l.bytes l.book (events_left l.event-iterator)
