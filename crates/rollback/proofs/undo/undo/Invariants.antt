use mathlib.Core.Path.{◌≡◌}
use mathlib.Core.List.{List}
use Prim.Native.Nat.{ℕ, ◌≤◌}
use lib.ListN.{length, drop}
use Rattle.memory.specs.Records.{Gateway}
use Rattle.rollback.specs.Inside.Undone.{sent_by_entries, MaySendBack}
use Rattle.rollback.proofs.UndoLaws.{UndoneTo}
use Rattle.rollback.proofs.undo.undo.Given as goal

abbrev pub invariant-loop-left : goal.invariant-loop-left
invariant-loop-left l =
    (l.k ≤ l.left) × (length l.memory ≡ length l.initial.memory)
    × ((before : List ℕ) (g : Gateway) → l.k ≤ length g.queue → MaySendBack before g l.initial.memory l.initial.so_far (sent_by_entries g (drop l.k g.queue)) →
    UndoneTo before g l.memory l.left l.so_far)
