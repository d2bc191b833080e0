-- `put_arcs` puts the lines gateway by gateway: after i turns those of the first i.
use native.Mathlib.Omega.{arith}
use mathlib.Core.Path.{◌∙◌, ap}
use mathlib.Core.List.{List}
use Rattle.lists.specs.Lists.{joined}
use Rattle.buffer.specs.Slice.{write}
use Rattle.routing.specs.Arcs.{Arc}
use Rattle.listing.proofs.Lines.{no-lines-put, turn-within, lines-turn, all_lines}
use Rattle.listing.specs.Output.{arc_line}
use Rattle.listing.proofs.put_arcs.Goals as goal

pub loop-own-init : goal.loop-own-init
loop-own-init c = no-lines-put _ _ _

pub put_lines-next-requires : goal.put_lines-next-requires
put_lines-next-requires c =
    omega (arith, turn-within _ _ c.loop-own-test.true c.to_of.ensures, c.loop-own.invariant.position, c.loop-own.auto.out)

pub loop-own-preserved : goal.loop-own-preserved
loop-own-preserved c = lines-turn _ _ c.loop-own-test.true c.to_of.ensures _ _ c.requires c.loop-own.invariant c.put_lines-next.ensures

pub returns : goal.returns
returns c =
    c.loop-own.invariant.output
    ∙ ap (λ (l : List Arc). write c.args.at (joined arc_line l) c.args.out.now) (all_lines c.args.middles.n c.loop-own.own (omega arith) (omega arith))
