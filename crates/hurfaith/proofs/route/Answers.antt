-- `route` meets its contract.
use mathlib.Core.Path.{sym, ◌∙◌}
use Rattle.hurfaith.proofs.Routing.{small, route-refused, route-no-room, route-found}
use Rattle.hurfaith.proofs.route.Goals as goal

pub returns-in_err-around : goal.returns-in_err-around
returns-in_err-around c = route-refused _ _ _ _ c.from_residual.ensures.1 (sym c.in_err-around.was ∙ c.neighbours_of.ensures)

pub returns-then-neighbours-lt4 : goal.returns-then-neighbours-lt4
returns-then-neighbours-lt4 c = route-no-room _ _ _ (sym c.in_ok-around.was ∙ c.neighbours_of.ensures) c.if-neighbours-lt4.true

pub number_at-requires : goal.number_at-requires
number_at-requires c = (small _ _ (sym c.in_ok-around.was ∙ c.neighbours_of.ensures)).from_first

pub number_at-requires-2 : goal.number_at-requires-2
number_at-requires-2 c = (small _ _ (sym c.in_ok-around.was ∙ c.neighbours_of.ensures)).from_second

pub number_at-requires-3 : goal.number_at-requires-3
number_at-requires-3 c = (small _ _ (sym c.in_ok-around.was ∙ c.neighbours_of.ensures)).to_first

pub number_at-requires-4 : goal.number_at-requires-4
number_at-requires-4 c = (small _ _ (sym c.in_ok-around.was ∙ c.neighbours_of.ensures)).to_second

pub returns : goal.returns
returns c =
    route-found _ _ _ (sym c.in_ok-around.was ∙ c.neighbours_of.ensures) c.if-neighbours-lt4.false c.number_at.ensures c.number_at-2.ensures
    c.number_at-3.ensures c.number_at-4.ensures c.put_front.ensures
