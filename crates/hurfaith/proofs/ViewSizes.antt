-- The answer of a view: its number is below 256, and it writes no more than the record has bytes.
use mathlib.Core.Path.{◌≡◌, ap}
use mathlib.Core.List.{List}
use Prim.Native.Nat.{ℕ, ◌<◌}
use native.Mathlib.Omega.{arith}
use Rattle.buffer.specs.Slice.{Bytes}
use Rattle.packing.specs.Packed.{ReadBackTwo}
use Rattle.packing.proofs.Packing.{read-back-two}
use Rattle.views.specs.Viewing.{ViewAnswer, ViewResult, viewed}
use Rattle.views.proofs.ViewAnswers.{number_small, written-few}

pub view-fits : (reader old_stock : ℕ) (bytes output : List ℕ) → Bytes bytes → {written : List ℕ} {r : ViewAnswer}
    → record { answer = r; output = written } ≡ viewed reader old_stock bytes output → r.written < 72057594037927936
view-fits reader old_stock bytes output b e =
    let same = ap (λ (x : ViewResult). x.answer.written) e in omega (arith, same, written-few reader old_stock bytes output b)

pub view-read-back : (reader old_stock : ℕ) (bytes output : List ℕ)
    → ReadBackTwo (viewed reader old_stock bytes output).answer.number (viewed reader old_stock bytes output).answer.written
view-read-back reader old_stock bytes output = read-back-two _ _ (number_small reader old_stock bytes output)
