-- `arcs_length` adds the lengths up, gateway by gateway.
use native.Mathlib.Omega.{arith}
use mathlib.Core.Path.{sym, ap}
use mathlib.Core.List.{List}
use lib.ListN.{length}
use Rattle.lists.specs.Lists.{joined}
use Rattle.routing.specs.Arcs.{Arc}
use Rattle.listing.proofs.Lines.{no_lines, length-turn, all_lines}
use Rattle.listing.specs.Output.{arc_line}
use Rattle.listing.proofs.arcs_length.Goals as goal

pub loop-own-init : goal.loop-own-init
loop-own-init c = record { counted = ap length (sym (no_lines c.args.middles.n)); small = omega arith }

pub loop-own-preserved : goal.loop-own-preserved
loop-own-preserved c = record { counted = omega (arith, length-turn _ _ c.loop-own-test.true c.to_of.ensures); small = omega arith }

pub returns : goal.returns
returns c =
    omega (arith, ap (λ (l : List Arc). length (joined arc_line l)) (all_lines c.args.middles.n c.loop-own.own (omega arith) (omega arith)))
