-- `header::write_header` meets its contract.
use Rattle.memory.proofs.Stored.{header-stored}
use Rattle.memory.proofs.Tags.{phase-tag}
use Rattle.header.proofs.write_header.Goals as goal

pub returns : goal.returns
returns c =
    header-stored c.args.memory.now c.args.header c.requires (phase-tag c.args.header.round.phase)
    c.write_all.ensures c.write_all-2.ensures c.write_all-3.ensures c.write_state.ensures
