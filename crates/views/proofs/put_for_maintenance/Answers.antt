-- `views::put_for_maintenance` meets its contract.
use native.Mathlib.Omega.{arith}
use Rattle.buffer.proofs.Lent.{bytes-known}
use Rattle.buffer.specs.Slice.{part}
use Rattle.records.proofs.EventParts.{kind-inside}
use Rattle.views.proofs.ViewParts.{restock-long, maintenance-restock, lamp-long, maintenance-lamp}
use Rattle.views.proofs.ViewParts.{front-room, front-put, lamp-room, lamp-fits, lamp-length, lamp-put}
use Rattle.buffer.proofs.Writes.{length_part}
use borrow.Author.Rules.{rules}
use Rattle.views.proofs.put_for_maintenance.Goals as goal

pub bounds-event-1 : goal.bounds-event-1
bounds-event-1 c =
    let s = c.args.event.now in
    let b = bytes-known s c.type_inv.event in
    let inside = kind-inside c.args.stock s b c.requires.0 in
    search rules

pub put_head-requires : goal.put_head-requires
put_head-requires c =
    let s = c.args.event.now in
    let b = bytes-known s c.type_inv.event in
    let k = c.if-event-eq-RESTOCK.true in
    let long = restock-long c.args.stock s b c.requires.0 k in
    let is = maintenance-restock c.args.stock s b c.requires.0 k in
    let room = front-room c.args.at 3 c.args.output.now s _ is (omega arith) c.requires.1 in
    (omega arith, omega arith)

pub returns-then-event-eq-RESTOCK : goal.returns-then-event-eq-RESTOCK
returns-then-event-eq-RESTOCK c =
    let s = c.args.event.now in
    let b = bytes-known s c.type_inv.event in
    let k = c.if-event-eq-RESTOCK.true in
    let long = restock-long c.args.stock s b c.requires.0 k in
    let is = maintenance-restock c.args.stock s b c.requires.0 k in
    front-put c.args.at 3 c.args.output.now s _ is (omega arith) c.put_head.ensures

pub put_head-requires-2 : goal.put_head-requires-2
put_head-requires-2 c =
    let s = c.args.event.now in
    let b = bytes-known s c.type_inv.event in
    let k = c.if-event-eq-RESTOCK.false in
    let long = lamp-long c.args.stock s b c.requires.0 k in
    let is = maintenance-lamp c.args.stock s b c.requires.0 k in
    let room = lamp-room c.args.at c.args.output.now s _ is long c.requires.1 in
    (omega arith, omega arith)

pub slice_bounds-copy-end : goal.slice_bounds-copy-end
slice_bounds-copy-end c =
    let s = c.args.event.now in
    let b = bytes-known s c.type_inv.event in
    let long = lamp-long c.args.stock s b c.requires.0 c.if-event-eq-RESTOCK.false in
    omega arith

pub copy-requires : goal.copy-requires
unfolding part
copy-requires c =
    let s = c.args.event.now in
    let b = bytes-known s c.type_inv.event in
    let k = c.if-event-eq-RESTOCK.false in
    let long = lamp-long c.args.stock s b c.requires.0 k in
    let is = maintenance-lamp c.args.stock s b c.requires.0 k in
    let fits = lamp-fits c.args.at c.args.output.now s _ is long c.requires.1 c.put_head-2.ensures in
    omega (arith, length_part s 9 18 (omega arith))

pub bounds-event-8 : goal.bounds-event-8
bounds-event-8 c =
    let s = c.args.event.now in
    let b = bytes-known s c.type_inv.event in
    let k = c.if-event-eq-RESTOCK.false in
    let long = lamp-long c.args.stock s b c.requires.0 k in
    search rules

pub bounds-output-at : goal.bounds-output-at
unfolding part
bounds-output-at c =
    let s = c.args.event.now in
    let b = bytes-known s c.type_inv.event in
    let k = c.if-event-eq-RESTOCK.false in
    let long = lamp-long c.args.stock s b c.requires.0 k in
    let is = maintenance-lamp c.args.stock s b c.requires.0 k in
    let room = lamp-room c.args.at c.args.output.now s _ is long c.requires.1 in
    let same = lamp-length c.args.at c.args.output.now s _ is long c.requires.1 c.put_head-2.ensures c.copy.ensures in
    search rules

pub shape_of-output : goal.shape_of-output
unfolding part
shape_of-output c =
    let s = c.args.event.now in
    let b = bytes-known s c.type_inv.event in
    let k = c.if-event-eq-RESTOCK.false in
    let long = lamp-long c.args.stock s b c.requires.0 k in
    let is = maintenance-lamp c.args.stock s b c.requires.0 k in
    let same = lamp-length c.args.at c.args.output.now s _ is long c.requires.1 c.put_head-2.ensures c.copy.ensures in
    search (same, rules)

pub returns : goal.returns
unfolding part
returns c =
    let s = c.args.event.now in
    let b = bytes-known s c.type_inv.event in
    let k = c.if-event-eq-RESTOCK.false in
    let long = lamp-long c.args.stock s b c.requires.0 k in
    let is = maintenance-lamp c.args.stock s b c.requires.0 k in
    lamp-put c.args.at c.args.output.now s _ is long c.requires.1 c.put_head-2.ensures c.copy.ensures
