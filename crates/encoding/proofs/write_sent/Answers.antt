-- `encoding::write_sent` meets its contract.
use mathlib.Core.Path.{◌∙◌}
use Rattle.encoding.proofs.Lamps.{sent-lamp}
use Rattle.memory.proofs.Stored.{sent-stored}
use Rattle.memory.proofs.Tags.{cancel-byte}
use Rattle.encoding.proofs.write_sent.Goals as goal

pub returns : goal.returns
returns c =
    let size = sent-lamp c.args.sent _ c.well_formed.1.1.0 in
    let number = c.from.ensures ∙ cancel-byte c.args.sent.cancel in search sent-stored
