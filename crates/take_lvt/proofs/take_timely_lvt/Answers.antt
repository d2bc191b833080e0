-- `take_lvt::take_timely_lvt` meets its contract.
use Rattle.gateway.proofs.Dispatching.{below, not-below}
use Rattle.take_lvt.proofs.take_timely_lvt.Goals as goal

pub returns-then-message-header : goal.returns-then-message-header
returns-then-message-header c = search below

pub returns : goal.returns
returns c = search not-below
