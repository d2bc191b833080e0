-- `announce::announce` meets its contract.
use native.Mathlib.Omega.{arith}
use Rattle.buffer.proofs.Lent.{bytes-known}
use Rattle.announce.proofs.Announcing.{two-small, announce-room, changed-long, announce-none, announce-done}
use Rattle.announce.proofs.announce.Goals as goal

pub length_in_round-requires : goal.length_in_round-requires
length_in_round-requires c = c.requires.1

pub overflow_mul-written : goal.overflow_mul-written
overflow_mul-written c =
    record { fits = two-small c.args.kind _ c.len.ensures.1 c.length_in_round.ensures }

pub returns-then-output-written : goal.returns-then-output-written
returns-then-output-written c =
    announce-none _ _ c.requires.0 (bytes-known c.args.memory.now c.slice_known-1.given) _ _ _ _ c.len.ensures.0
    c.length_in_round.ensures c.if-output-written.true

pub write_header-requires : goal.write_header-requires
write_header-requires c =
    let z = changed-long _ _ c.requires.0 in omega arith

pub put_each-requires : goal.put_each-requires
put_each-requires c =
    announce-room _ _ c.requires.0 (bytes-known c.args.memory.now c.slice_known-1.given) _ _ _
    c.args.output.now c.len.ensures.0 c.length_in_round.ensures c.if-output-written.false

pub returns : goal.returns
returns c =
    announce-done _ _ c.requires.0 (bytes-known c.args.memory.now c.slice_known-1.given) _ _ _ _ c.len.ensures.0
    c.length_in_round.ensures c.if-output-written.false c.write_header.ensures
    c.put_each.ensures
