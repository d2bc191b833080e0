-- The settings of the last example.
use Rattle.std.specs.Prelude.{ℕ}
use Rattle.gateway.specs.Examples.{town_hours}
use Rattle.gateway.specs.declared.Opening.{Opening}

-- two gateways, the supplier of both is gateway 1, H = 100
abbrev pub example_opening : ℕ → ℕ → Opening
example_opening own stock = record { n = 2; own = own; supplier = 1; stock = stock; last = 100; q = 512; u = 512; hours = town_hours }
