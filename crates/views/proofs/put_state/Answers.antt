-- `views::put_state` meets its contract.
use Rattle.buffer.proofs.Writes.{part-between}
use Rattle.views.proofs.put_state.Goals as goal

pub returns-in-Present : goal.returns-in-Present
returns-in-Present c = rw (c.in-Present.is, ← part-between c.args.event.now c.args.from 16) c.copy.ensures
