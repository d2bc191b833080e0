-- `print` writes what `render` put, which is within the output.
use mathlib.Core.Path.{sym}
use native.Mathlib.Omega.{arith}
use lib.Seq.{length-take-le}
use Rattle.rendering.proofs.Whole.{put-within}
use Rattle.arcs.proofs.print.Goals as goal

pub slice_bounds-write_all-end : goal.slice_bounds-write_all-end
slice_bounds-write_all-end g c = omega (arith, put-within _ _ c.render.ensures c.in-Ok.is, c.render.auto.out)

pub slice_bounds-write_all-end-in-Ok : goal.slice_bounds-write_all-end-in-Ok
slice_bounds-write_all-end-in-Ok g c =
    sym (length-take-le _ _ (omega (arith, put-within _ _ c.render.ensures c.in-Ok.is, c.render.auto.out)))
