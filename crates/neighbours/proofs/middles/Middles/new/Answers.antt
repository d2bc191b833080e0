-- `new` finds Figure 2's middles: its loop stops at the power of two that fits n.
use mathlib.Core.Path.{refl}
use Prim.Native.Nat.{suc}
use native.Mathlib.Omega.{arith}
use Rattle.neighbours.proofs.Branches.{mids-answer}
use Rattle.routing.proofs.Reading.{twice_power, one-row, two-rows}
use Rattle.neighbours.proofs.middles.Middles.new.Goals as goal
use Rattle.neighbours.proofs.middles.Middles.new.Goals.{then-n-half, else-n-half}

pub loop-pen0-preserved : goal.loop-pen0-preserved
loop-pen0-preserved c =
    let w = c.loop-pen0.invariant.power in
    record { power = record { k = suc w.k; power = omega (arith, twice_power w.k); reached = omega (arith, twice_power w.k) }; small = omega arith }

pub invariant_of-result : goal.invariant_of-result
invariant_of-result c = elim c.if-n-half.branch [
  | then-n-half w ↦
      let row = mids-answer (omega arith) c.loop-pen0.invariant.power (omega arith) (one-row (omega arith) (omega arith) refl) in
      rw w.result-is (record { in_range = c.requires; figure = row.figure; below = row.below })
  | else-n-half w ↦
      let row = mids-answer (omega arith) c.loop-pen0.invariant.power (omega arith) (two-rows (omega arith) refl refl) in
      rw w.result-is (record { in_range = c.requires; figure = row.figure; below = row.below })
]
