-- `views::put_for_purchasing` meets its contract.
use Rattle.buffer.proofs.Lent.{bytes-known}
use Rattle.views.proofs.ViewParts.{state-inside, front-and-state, front_fits, state-fits, purchasing-put}
use borrow.Author.Rules.{rules}
use Rattle.views.proofs.put_for_purchasing.Goals as goal

pub put_front-front-requires : goal.put_front-front-requires
put_front-front-requires c =
    let s = c.args.event.now in
    let b = bytes-known s c.type_inv.event in
    let is = front-and-state c.args.stock s b c.requires.0 in
    let long = state-inside c.args.stock s b c.requires.0 in
    (c.requires.0, front_fits c.args.stock c.args.at c.args.output.now s _ is long c.requires.1)

pub put_state-requires : goal.put_state-requires
put_state-requires c =
    let s = c.args.event.now in
    let b = bytes-known s c.type_inv.event in
    let is = front-and-state c.args.stock s b c.requires.0 in
    let long = state-inside c.args.stock s b c.requires.0 in
    state-fits c.args.stock c.args.at c.args.output.now s _ is long c.requires.1 c.put_front-front.ensures

pub overflow_add-result : goal.overflow_add-result
overflow_add-result c =
    let s = c.args.event.now in
    let b = bytes-known s c.type_inv.event in
    let is = front-and-state c.args.stock s b c.requires.0 in
    let long = state-inside c.args.stock s b c.requires.0 in
    let fits = state-fits c.args.stock c.args.at c.args.output.now s _ is long c.requires.1 c.put_front-front.ensures in
    search rules

pub returns : goal.returns
returns c =
    let s = c.args.event.now in
    let b = bytes-known s c.type_inv.event in
    let is = front-and-state c.args.stock s b c.requires.0 in
    let long = state-inside c.args.stock s b c.requires.0 in
    purchasing-put c.args.stock c.args.at c.args.output.now s _ is long c.requires.1 c.put_front-front.ensures c.put_state.ensures
