-- `records::event_at` meets its contract.
use Rattle.buffer.proofs.Lent.{bytes-known}
use Rattle.records.proofs.GoodEvents.{lamp-found, restock-found}
use Rattle.records.proofs.event_at.Goals as goal

pub returns-then-good_with_lamp : goal.returns-then-good_with_lamp
returns-then-good_with_lamp c =
    let bytes = c.args.bytes.now in
    let found =
    lamp-found c.args.stock bytes (bytes-known bytes c.type_inv.bytes) c.args.at c.state_size-state.ensures c.if-left-state.true c.good_with_lamp.ensures
    c.if-good_with_lamp.true in
    record { number = found.number; event = found.event }

pub returns-then-good_restock : goal.returns-then-good_restock
returns-then-good_restock c =
    let bytes = c.args.bytes.now in
    let found =
    restock-found c.args.stock bytes (bytes-known bytes c.type_inv.bytes) c.args.at c.state_size-state.ensures c.if-left-state-2.true c.good_restock.ensures
    c.if-good_restock.true in
    record { number = found.number; event = found.event }
