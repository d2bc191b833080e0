-- `report::differs` meets its contract.
use mathlib.Core.Path.{sym}
use Rattle.buffer.proofs.Lent.{bytes-known}
use Rattle.report.proofs.Again.{read_again}
use Rattle.report.proofs.differs.Goals as goal

pub returns-in-Ok : goal.returns-in-Ok
returns-in-Ok c =
    read_again c.args.item.now (bytes-known c.args.item.now c.type_inv.item) _ (sym c.in-Ok.ensures) c.written_as.ensures.0
