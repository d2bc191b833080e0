-- `spelled_number` finds what the text spells: each of its returns is a law of Reading.
use native.Mathlib.Omega.{arith}
use Rattle.text.proofs.Reading.{empty, lone-zero, led-by-zero}
use Rattle.text.proofs.spelled_number.Goals as goal

pub returns-in-empty : goal.returns-in-empty
returns-in-empty c = empty _ _ (omega arith)

pub returns-in-48 : goal.returns-in-48
returns-in-48 c = lone-zero _ _ (omega arith) (omega arith)

pub returns-in-48-2 : goal.returns-in-48-2
returns-in-48-2 c = led-by-zero _ _ (omega arith) (λ h. omega arith)
