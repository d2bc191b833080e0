use mathlib.Core.Path.{◌≡◌}
use mathlib.Core.Bool.{◌&&◌}
use lib.ListN.{length, drop}
use Rattle.frame.specs.Writing.{all_between}
use Rattle.rules.proofs.all_between.Given as goal

abbrev pub invariant-loop-byte : goal.invariant-loop-byte
invariant-loop-byte l =
    (length l.fn.lamp ≡ 18) × (all_between l.low l.high l.fn.lamp ≡ (l.fine && all_between l.low l.high (drop l.byte-index l.fn.lamp)))
