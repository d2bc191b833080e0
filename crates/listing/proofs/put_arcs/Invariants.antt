use Rattle.lists.specs.Lists.{joined}
use Rattle.buffer.specs.Slice.{Puts}
use Rattle.routing.specs.Arcs.{arcs_of_first}
use Rattle.listing.specs.Output.{arc_line}
use Rattle.listing.proofs.put_arcs.Given as goal

abbrev pub invariant-loop-own : goal.invariant-loop-own
invariant-loop-own l = Puts l.at (joined arc_line (arcs_of_first l.middles.n l.own)) l.initial.out l.out l.next
