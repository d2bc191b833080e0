-- `number_in` reads what the input spells before its line end.
use mathlib.Core.Path.{sym, ◌∙◌}
use native.Mathlib.Omega.{arith}
use Rattle.std.specs.Prelude.{Option, unwrap_or}
use mathlib.Core.Path.{ap}
use Prim.Native.Nat.{ℕ}
use Rattle.rendering.proofs.Input.{number_read, number_below}
use Rattle.rendering.proofs.number_in.Goals as goal

pub returns-in-Some-clause-number : goal.returns-in-Some-clause-number
returns-in-Some-clause-number c =
    ap (λ (o : Option ℕ). unwrap_or o 0) (sym c.in-Some.is) ∙ number_read _ c.without_end.ensures _ c.spelled_number.ensures

pub returns-in-Some-clause-range : goal.returns-in-Some-clause-range
returns-in-Some-clause-range c =
    (omega arith, number_below _ c.without_end.ensures _ c.spelled_number.ensures c.in-Some.is)

pub returns-in_default-clause-number : goal.returns-in_default-clause-number
returns-in_default-clause-number c =
    omega (arith, ap (λ (o : Option ℕ). unwrap_or o 0) c.in-Some.is, number_read _ c.without_end.ensures _ c.spelled_number.ensures)

pub returns-in_default-2-clause-number : goal.returns-in_default-2-clause-number
returns-in_default-2-clause-number c =
    ap (λ (o : Option ℕ). unwrap_or o 0) (sym c.in_default.is) ∙ number_read _ c.without_end.ensures _ c.spelled_number.ensures
