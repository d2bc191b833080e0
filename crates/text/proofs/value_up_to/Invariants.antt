use mathlib.Core.Path.{◌≡◌}
use Prim.Native.Nat.{◌≤◌}
use lib.ListN.{take}
use Rattle.text.specs.Decimal.{value}
use Rattle.text.proofs.Digits.{Digits}
use Rattle.text.proofs.value_up_to.Given as goal

abbrev pub invariant-loop-byte : goal.invariant-loop-byte
invariant-loop-byte l = record {
  read : l.value ≡ value (take l.byte-index l.text);
  digits : Digits (take l.byte-index l.text);
  small : l.value ≤ l.most;
}
