-- `views::put_front` meets its contract.
use native.Mathlib.Omega.{arith}
use Rattle.buffer.proofs.Lent.{bytes-known}
use Rattle.buffer.specs.Slice.{part}
use Rattle.records.proofs.EventParts.{kind-inside}
use Rattle.views.proofs.ViewParts.{restock-long, lamp-long, restock-room, quantity-fits, restock-front, head-room, lamp-front}
use Rattle.buffer.proofs.Writes.{length_part}
use borrow.Author.Rules.{rules}
use Rattle.views.proofs.put_front.Goals as goal

pub bounds-event-1 : goal.bounds-event-1
bounds-event-1 c =
    let s = c.args.event.now in
    let b = bytes-known s c.type_inv.event in
    let inside = kind-inside c.args.stock s b c.requires.0 in
    search rules

pub put_head-requires : goal.put_head-requires
put_head-requires c =
    let s = c.args.event.now in
    let b = bytes-known s c.type_inv.event in
    let k = c.if-event-eq-RESTOCK.true in
    let long = restock-long c.args.stock s b c.requires.0 k in
    let room = restock-room c.args.at c.args.output.now s c.requires.1 k long in
    (omega arith, omega arith)

pub slice_bounds-copy-end : goal.slice_bounds-copy-end
slice_bounds-copy-end c =
    let s = c.args.event.now in
    let b = bytes-known s c.type_inv.event in
    let long = restock-long c.args.stock s b c.requires.0 c.if-event-eq-RESTOCK.true in
    omega arith

pub copy-requires : goal.copy-requires
unfolding part
copy-requires c =
    let s = c.args.event.now in
    let b = bytes-known s c.type_inv.event in
    let k = c.if-event-eq-RESTOCK.true in
    let long = restock-long c.args.stock s b c.requires.0 k in
    let fits = quantity-fits c.args.at c.args.output.now s c.requires.1 k long c.put_head.ensures in
    omega (arith, length_part s 8 2 (omega arith))

pub returns-then-event-eq-RESTOCK : goal.returns-then-event-eq-RESTOCK
unfolding part
returns-then-event-eq-RESTOCK c =
    let s = c.args.event.now in
    let b = bytes-known s c.type_inv.event in
    let k = c.if-event-eq-RESTOCK.true in
    let long = restock-long c.args.stock s b c.requires.0 k in
    restock-front c.args.at c.args.output.now s c.requires.1 k long c.put_head.ensures c.copy.ensures

pub put_head-requires-2 : goal.put_head-requires-2
put_head-requires-2 c =
    let s = c.args.event.now in
    let b = bytes-known s c.type_inv.event in
    let k = c.if-event-eq-RESTOCK.false in
    let long = lamp-long c.args.stock s b c.requires.0 k in
    let room = head-room c.args.at c.args.output.now s c.requires.1 k long in
    (omega arith, omega arith)

pub returns : goal.returns
returns c =
    let s = c.args.event.now in
    let b = bytes-known s c.type_inv.event in
    let k = c.if-event-eq-RESTOCK.false in
    let long = lamp-long c.args.stock s b c.requires.0 k in
    lamp-front c.args.at c.args.output.now s c.requires.1 k long c.put_head-2.ensures
