-- `validity::round_possible` meets its contract.
use Rattle.validity.proofs.Deciding.{round-decided}
use Rattle.validity.proofs.round_possible.Goals as goal

pub returns : goal.returns
returns c =
    round-decided _ _ c.new-middles.ensures c.from_of.ensures c.len.ensures.0 c.to_of.ensures c.len-2.ensures.0 c.arrivals_possible.ensures
