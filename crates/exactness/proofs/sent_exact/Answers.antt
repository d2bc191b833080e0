-- `exactness::sent_exact` meets its contract.
use Rattle.std.proofs.Common.{rules}
use Rattle.buffer.proofs.Lent.{bytes-known}
use Rattle.exactness.proofs.ByFields.{sent-whole}
use Rattle.exactness.proofs.sent_exact.Goals as goal

pub returns-then-message_exact : goal.returns-then-message_exact
returns-then-message_exact c =
    let whole = sent-whole c.args.place.now (bytes-known c.args.place.now c.type_inv.place) c.requires.0 c.requires.1 in search rules

pub returns-else-message_exact : goal.returns-else-message_exact
returns-else-message_exact c =
    let whole = sent-whole c.args.place.now (bytes-known c.args.place.now c.type_inv.place) c.requires.0 c.requires.1 in search rules
