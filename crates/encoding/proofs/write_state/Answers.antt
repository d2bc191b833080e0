-- `encoding::write_state` meets its contract.
use Rattle.memory.proofs.Stored.{state-row}
use Rattle.encoding.proofs.write_state.Goals as goal

pub returns : goal.returns
returns c = cc (state-row c.args.state)
