-- `hurfaith::hurfaith_view` meets its contract.
use Rattle.buffer.proofs.Lent.{bytes-known}
use Rattle.hurfaith.proofs.ViewSizes.{view-fits}
use Rattle.hurfaith.proofs.hurfaith_view.Goals as goal

pub packed_two-requires : goal.packed_two-requires
packed_two-requires c =
    let bytes = c.args.bytes.now in
    view-fits c.args.reader c.args.old_stock bytes c.args.output.now (bytes-known bytes c.type_inv.bytes) c.in-Ok.ensures
