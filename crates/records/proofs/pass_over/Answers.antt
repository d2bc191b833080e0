-- `records::pass_over` meets its contract.
use mathlib.Core.Path.{refl}
use native.Mathlib.Omega.{arith}
use Rattle.buffer.proofs.Lent.{bytes-known}
use Rattle.refusal.proofs.Numbers.{refusal-some}
use Rattle.records.proofs.PassedEvents.{pass-end, pass-refused, pass-later, pass-inside, pass-turn}
use Rattle.records.proofs.pass_over.Goals as goal

pub returns-in-Err : goal.returns-in-Err
returns-in-Err c =
    let bytes = c.args.bytes.now in
    let known = bytes-known bytes c.type_inv.bytes in
    let loop = c.loop-at in
    pass-refused c.args.stock c.args.weights bytes c.requires known loop.weight loop.at loop.invariant c.loop-at-test.true c.in-Err.ensures.number
    (refusal-some c.in-Err.refusal)

pub loop-at-smaller : goal.loop-at-smaller
loop-at-smaller c =
    let bytes = c.args.bytes.now in
    let known = bytes-known bytes c.type_inv.bytes in
    let loop = c.loop-at in
    let later =
    pass-later c.args.stock c.args.weights bytes c.requires known loop.weight loop.at loop.invariant c.loop-at-test.true c.in-Ok.ensures.number refl
    c.in-Ok.ensures.event c.of-weight.ensures in
    let inside =
    pass-inside c.args.stock c.args.weights bytes c.requires known loop.weight loop.at loop.invariant c.loop-at-test.true c.in-Ok.ensures.number refl
    c.in-Ok.ensures.event c.of-weight.ensures in
    omega arith

pub loop-at-preserved : goal.loop-at-preserved
loop-at-preserved c =
    let bytes = c.args.bytes.now in
    let known = bytes-known bytes c.type_inv.bytes in
    let loop = c.loop-at in
    pass-turn c.args.stock c.args.weights bytes c.requires known loop.weight loop.at loop.invariant c.loop-at-test.true c.in-Ok.ensures.number refl
    c.in-Ok.ensures.event c.of-weight.ensures

pub returns : goal.returns
returns c =
    let bytes = c.args.bytes.now in
    let loop = c.loop-at in
    pass-end c.args.stock c.args.weights bytes c.requires (bytes-known bytes c.type_inv.bytes) loop.weight loop.at loop.invariant c.loop-at-test.false
