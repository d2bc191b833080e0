use mathlib.Core.Path.{◌≡◌}
use lib.ListN.{take}
use Rattle.std.specs.List.{flat_map}
use Rattle.buffer.specs.Slice.{write}
use Rattle.buffer.specs.Number.{bytes_of}
use Rattle.buffer.proofs.write_all.Given as goal

abbrev pub invariant-loop-i : goal.invariant-loop-i
invariant-loop-i g l = l.bytes ≡ write l.at (flat_map (λ n. bytes_of g.T.Number.WIDTH (g.T.Number.value n)) (take l.i l.numbers)) l.initial.bytes
