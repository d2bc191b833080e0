-- `records::balance::booked` meets its contract.
use native.Mathlib.Omega.{arith}
use Rattle.buffer.proofs.Lent.{bytes-known}
use Rattle.records.specs.declared.StockField.TheVariants.{Present}
use Rattle.records.proofs.EventParts.{kind-inside}
use Rattle.records.proofs.Booking.{restock-long, restock-booked, lamp-long, request-booked, other-booked}
use Rattle.records.proofs.balance.booked.Goals as goal

pub bounds-event-1 : goal.bounds-event-1
bounds-event-1 c =
    let s = c.args.event.now in
    kind-inside Present s (bytes-known s c.type_inv.event) c.requires.0

pub read-requires : goal.read-requires
read-requires c =
    let s = c.args.event.now in
    omega (arith, lamp-long c.args.book s (bytes-known s c.type_inv.event) c.requires.0 (λ e. omega (arith, e, c.in-1.is)))

pub read-requires-in-3 : goal.read-requires-in-3
read-requires-in-3 c =
    let s = c.args.event.now in
    omega (arith, restock-long c.args.book s (bytes-known s c.type_inv.event) c.requires.0 c.in-3.is)

pub read-requires-in-3-2 : goal.read-requires-in-3-2
read-requires-in-3-2 c =
    let s = c.args.event.now in
    omega (arith, restock-long c.args.book s (bytes-known s c.type_inv.event) c.requires.0 c.in-3.is)

pub read-requires-in_default : goal.read-requires-in_default
read-requires-in_default c =
    let s = c.args.event.now in
    omega (arith, lamp-long c.args.book s (bytes-known s c.type_inv.event) c.requires.0 (λ e. omega (arith, e, c.in_default)))

pub returns-in-1 : goal.returns-in-1
returns-in-1 c =
    let s = c.args.event.now in
    request-booked c.args.book s (bytes-known s c.type_inv.event) c.requires.0 (λ e. omega (arith, e, c.in-1.is)) c.read.ensures c.in-1.is
    c.requested.ensures

pub returns-in-3 : goal.returns-in-3
returns-in-3 c =
    let s = c.args.event.now in
    restock-booked c.args.book s (bytes-known s c.type_inv.event) c.requires.0 c.in-3.is c.read-in-3.ensures c.read-in-3-2.ensures c.restocked.ensures

pub returns-in_default : goal.returns-in_default
returns-in_default c =
    let s = c.args.event.now in
    other-booked c.args.book s (bytes-known s c.type_inv.event) c.requires.0 (λ e. omega (arith, e, c.in_default)) c.read-in_default.ensures
    (λ e. omega arith) c.from.ensures
