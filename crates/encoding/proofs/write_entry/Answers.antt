-- `encoding::write_entry` meets its contract.
use Rattle.encoding.proofs.Lamps.{entry-lamp}
use Rattle.memory.proofs.Stored.{entry-stored}
use Rattle.memory.proofs.Tags.{mark-tag}
use Rattle.encoding.proofs.write_entry.Goals as goal

pub returns : goal.returns
returns c =
    let size = entry-lamp c.args.entry _ c.well_formed.1.1.0 in search (entry-stored, mark-tag)
