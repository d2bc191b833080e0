use mathlib.Core.Path.{◌≡◌}
use Prim.Native.Nat.{◌+◌, ◌*◌, ◌≤◌}
use lib.ListN.{length}
use Rattle.memory.specs.Layout.{queue_size}
use Rattle.memory.specs.Codec.{places_at}
use Rattle.soundness.specs.Inside.Passes.{queue_sound}
use Rattle.soundness.proofs.Passing.{passed, Bounded}
use Rattle.soundness.proofs.queue_sound.Given as goal

abbrev pub invariant-loop-left : goal.invariant-loop-left
invariant-loop-left l = (l.at + queue_size * l.left ≤ length l.memory) × Bounded l.memory l.at l.left
    l.passed × (queue_sound l.settings l.stock l.memory l.count ≡ passed l.settings l.stock l.before l.passed (places_at (λ b. b) queue_size l.memory l.at l.left))

abbrev pub decreases-loop-left : goal.decreases-loop-left
decreases-loop-left l = l.left
