use mathlib.Core.Path.{◌≡◌}
use Prim.Native.Nat.{◌*◌, ◌≤◌}
use lib.ListN.{length}
use Rattle.lists.specs.Lists.{joined}
use Rattle.routing.specs.Arcs.{arcs_of_first}
use Rattle.listing.specs.Output.{arc_line}
use Rattle.listing.proofs.arcs_length.Given as goal

abbrev pub invariant-loop-own : goal.invariant-loop-own
invariant-loop-own l = record {
  counted : l.total ≡ length (joined arc_line (arcs_of_first l.middles.n l.own));
  small : l.total ≤ 44 * l.own;
}
