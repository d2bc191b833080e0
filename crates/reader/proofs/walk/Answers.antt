-- `reader::walk` meets its contract.
use native.Mathlib.Omega.{arith}
use Rattle.frame.proofs.Walking.{walk_start, walk-bit, walk-less, walk-fits, walk-taken, walk-passed, walk_end}
use Rattle.reader.proofs.walk.Goals as goal
use Rattle.reader.proofs.walk.Goals.{then-rest-eq1, else-rest-eq1}

pub loop-left-init : goal.loop-left-init
loop-left-init c = rw c.no_fields-fields.ensures (search walk_start)

pub store-fields-requires : goal.store-fields-requires
store-fields-requires c = (search walk-bit, search walk-fits)

pub width_of-at-requires : goal.width_of-at-requires
width_of-at-requires c = search walk-bit

pub overflow_add-at : goal.overflow_add-at
overflow_add-at c =
    omega (arith, c.width_of-at.ensures, walk-fits c.loop-left.invariant c.loop-left-test.true c.if-rest-eq1.true)

pub overflow_add-bit : goal.overflow_add-bit
overflow_add-bit c = omega (arith, walk-bit c.loop-left.invariant c.loop-left-test.true)

pub loop-left-smaller : goal.loop-left-smaller
loop-left-smaller c = search walk-less

pub loop-left-preserved : goal.loop-left-preserved
loop-left-preserved c =
    let w = c.loop-left.invariant in
    let more = c.loop-left-test.true in
    elim c.if-rest-eq1.branch [
      | then-rest-eq1 v ↦
          rw (v.fields-is, v.left-is, v.at-is, v.width_of-at.ensures, v.store-fields.ensures) (walk-taken w more v.if-rest-eq1.true)
      | else-rest-eq1 v ↦
          rw (v.fields-is, v.left-is, v.at-is) (walk-passed w more v.if-rest-eq1.false)
    ]

pub returns : goal.returns
returns c = search walk_end
