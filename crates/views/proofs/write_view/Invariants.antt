use mathlib.Core.Path.{◌≡◌}
use lib.ListN.{length}
use Rattle.records.specs.Inside.Walking.{events_left}
use Rattle.views.proofs.Writing.{Written}
use Rattle.views.proofs.write_view.Given as goal

abbrev pub invariant-loop-event : goal.invariant-loop-event
invariant-loop-event l =
    Written l.reader l.stock l.bytes l.initial.output l.output (events_left l.event-iterator) l.position × (length l.output ≡ length l.initial.output)
