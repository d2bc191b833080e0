use mathlib.Core.Path.{◌≡◌}
use Prim.Native.Nat.{◌+◌, ◌*◌, ◌≤◌}
use lib.ListN.{length}
use Rattle.memory.specs.Layout.{outstanding_size}
use Rattle.memory.specs.Codec.{places_at}
use Rattle.soundness.specs.Inside.Passes.{outstanding_sound}
use Rattle.soundness.proofs.Passing.{all_sent}
use Rattle.soundness.proofs.outstanding_sound.Given as goal

abbrev pub invariant-loop-left : goal.invariant-loop-left
invariant-loop-left l = (l.at + outstanding_size * l.left ≤ length l.memory) × (outstanding_sound l.settings l.memory l.start l.count ≡
    all_sent l.settings (places_at (λ b. b) outstanding_size l.memory l.at l.left))

abbrev pub decreases-loop-left : goal.decreases-loop-left
decreases-loop-left l = l.left
