-- `validity::arrivals_possible` meets its contract.
use Rattle.validity.proofs.Deciding.{idle-none, idle-one-arc, idle-some, counting-some, counting-none, stopped-one-arc, stopped-some}
use Rattle.validity.proofs.arrivals_possible.Goals as goal

pub returns-then-arrived-eq0 : goal.returns-then-arrived-eq0
returns-then-arrived-eq0 c = search (idle-none, idle-some, stopped-some)

pub returns-then-froms-ne2 : goal.returns-then-froms-ne2
returns-then-froms-ne2 c = search (idle-one-arc, idle-some, counting-some, stopped-one-arc, stopped-some)

pub returns-then-arrived-ne0 : goal.returns-then-arrived-ne0
returns-then-arrived-ne0 c = search (idle-one-arc, idle-some, counting-some, stopped-one-arc, stopped-some)

pub returns-then-tos-ne2 : goal.returns-then-tos-ne2
returns-then-tos-ne2 c = search (idle-one-arc, idle-some, counting-some, stopped-one-arc, stopped-some)

pub returns-else-froms-ne2 : goal.returns-else-froms-ne2
returns-else-froms-ne2 c = search (idle-some, stopped-some)

pub returns-else-arrived-ne0 : goal.returns-else-arrived-ne0
returns-else-arrived-ne0 c = search (idle-some, counting-none, stopped-some)

pub returns-else-tos-ne2 : goal.returns-else-tos-ne2
returns-else-tos-ne2 c = search (idle-some, stopped-some)
