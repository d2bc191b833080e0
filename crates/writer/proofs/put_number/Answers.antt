-- `writer::put_number` meets its contract.
use mathlib.Core.Path.{ap}
use mathlib.Core.Bool.{not}
use native.Mathlib.Omega.{arith}
use Rattle.buffer.proofs.Numbers.{length-bytes_of}
use Rattle.frame.proofs.Output.{field-absent, field_room, field_put}
use Rattle.writer.proofs.put_number.Goals as goal

pub returns-then-not-stands : goal.returns-then-not-stands
returns-then-not-stands g c = search field-absent

pub write-requires : goal.write-requires
write-requires g c = search (field_room, length-bytes_of)

pub overflow_add-result : goal.overflow_add-result
overflow_add-result g c =
    let size = length-bytes_of g.T.Number.WIDTH (g.T.Number.value c.args.number) in
    let room = field_room c.args.map c.args.bit c.stands.ensures c.args.at c.args.out.now _ (ap not c.if-not-stands.false) size c.requires.2 in
    omega (arith, room)

pub returns : goal.returns
returns g c = rw c.requires.1 (search (field_put, length-bytes_of))
