-- `frame::tables::whole_length` meets its contract: the widths of the fields whose bit stands are added to the map's own byte.
use native.Mathlib.Omega.{arith}
use Rattle.frame.proofs.Widths.{whole-most, none-added, width_fits, width-added, width-passed, all-added}
use Rattle.frame.proofs.tables.whole_length.Goals as goal
use Rattle.frame.proofs.tables.whole_length.Goals.{then-rest-eq1, else-rest-eq1}

pub loop-bit-init : goal.loop-bit-init
loop-bit-init c = none-added c.args.map

pub overflow_cast-size : goal.overflow_cast-size
overflow_cast-size c =
    let fits = width_fits c.loop-bit-test.true c.loop-bit.invariant c.if-rest-eq1.true in
    omega (arith, c.width_of.ensures, fits, whole-most c.args.map)

pub overflow_add-size : goal.overflow_add-size
overflow_add-size c =
    let fits = width_fits c.loop-bit-test.true c.loop-bit.invariant c.if-rest-eq1.true in
    omega (arith, c.width_of.ensures, fits, whole-most c.args.map)

pub loop-bit-preserved : goal.loop-bit-preserved
loop-bit-preserved c =
    let inside = c.loop-bit-test.true in
    let added = c.loop-bit.invariant in
    elim c.if-rest-eq1.branch [
      | then-rest-eq1 w ↦ rw (w.size-is, w.width_of.ensures) (width-added inside added w.if-rest-eq1.true)
      | else-rest-eq1 w ↦ rw w.size-is (width-passed inside added w.if-rest-eq1.false)
    ]

pub overflow_cast-result : goal.overflow_cast-result
overflow_cast-result c = omega (arith, c.loop-bit.invariant.sum, whole-most c.args.map)

pub returns : goal.returns
returns c = search all-added
