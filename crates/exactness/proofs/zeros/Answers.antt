-- `exactness::zeros` meets its contract.
use mathlib.Core.Path.{◌∙◌, ap}
use mathlib.Core.List.{List}
use Prim.Native.Nat.{ℕ}
use native.Mathlib.Omega.{arith}
use lib.ListN.{drop, replicate, length-drop}
use lib.Seq.{take_all}
use Rattle.memory.specs.Layout.{zeros_at, zeros_size}
use Rattle.buffer.specs.Slice.{part, same_bytes}
use Rattle.exactness.proofs.SameBytes.{pointwise-same}
use Rattle.exactness.proofs.zeros.Goals as goal

pub returns : goal.returns
unfolding part
returns c =
    let zeros : List ℕ = replicate zeros_size 0 in
    let last = take_all zeros_size (drop zeros_at c.args.place.now) (rw length-drop (omega arith)) in
    c.eq.ensures ∙ (pointwise-same c.array_at.result zeros ∙ ap (same_bytes zeros) (c.array_at.ensures ∙ last))
