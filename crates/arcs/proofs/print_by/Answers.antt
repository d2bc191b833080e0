-- `print_by` has room for every listing.
use mathlib.Core.Path.{◌∙◌}
use native.Mathlib.Omega.{arith}
use Rattle.rendering.proofs.Whole.{whole-listing}
use Rattle.arcs.proofs.print_by.Goals as goal

pub returns : goal.returns
returns g c = c.print.ensures ∙ whole-listing c.args.input.now c.args.out.now (omega arith)
