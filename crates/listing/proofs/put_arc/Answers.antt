-- `put_arc` puts two numbers, each with the byte behind it.
use mathlib.Core.Path.{◌∙◌}
use native.Mathlib.Omega.{arith}
use lib.ListN.{length-set}
use Rattle.listing.proofs.Lines.{length-arc_line, arc-put}
use Rattle.listing.proofs.put_arc.Goals as goal

pub put_decimal-middle-requires : goal.put_decimal-middle-requires
put_decimal-middle-requires c = omega (arith, length-arc_line c.args.from c.args.to)

pub bounds-out-middle : goal.bounds-out-middle
bounds-out-middle c =
    omega (
      arith,
      length-arc_line c.args.from c.args.to,
      c.put_decimal-middle.ensures.position,
      c.put_decimal-middle.auto.out,
    )

pub overflow_add-middle : goal.overflow_add-middle
overflow_add-middle c =
    omega (arith, length-arc_line c.args.from c.args.to, c.put_decimal-middle.ensures.position)

pub put_decimal-end-requires : goal.put_decimal-end-requires
put_decimal-end-requires c =
    simp length-set (omega (
      arith,
      length-arc_line c.args.from c.args.to,
      c.put_decimal-middle.ensures.position,
      c.put_decimal-middle.auto.out,
    ))

pub bounds-out-end : goal.bounds-out-end
bounds-out-end c =
    omega (
      arith,
      length-arc_line c.args.from c.args.to,
      c.put_decimal-middle.ensures.position,
      c.put_decimal-end.ensures.position,
      (simp length-set at c.put_decimal-end.auto.out),
      c.put_decimal-middle.auto.out,
    )

pub overflow_add-result : goal.overflow_add-result
overflow_add-result c =
    omega (
      arith,
      length-arc_line c.args.from c.args.to,
      c.put_decimal-middle.ensures.position,
      c.put_decimal-end.ensures.position,
    )

pub shape_of-out : goal.shape_of-out
shape_of-out c =
    simp length-set ((simp length-set at c.put_decimal-end.auto.out) ∙ c.put_decimal-middle.auto.out)

pub returns : goal.returns
returns c =
    arc-put _ _ _ _ c.requires c.put_decimal-middle.ensures c.put_decimal-end.ensures
