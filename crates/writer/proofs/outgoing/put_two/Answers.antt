-- `writer::outgoing::put_two` meets its contract.
use native.Mathlib.Omega.{arith}
use lib.ListN.{length-append}
use Rattle.std.proofs.Common.{rules, ap}
use Rattle.buffer.proofs.Putting.{puts-more, puts-length}
use Rattle.writer.specs.declared.outgoing.Writer.{Writer}
use Rattle.writer.proofs.outgoing.put_two.Goals as goal

pub put_next-requires-2 : goal.put_next-requires-2
put_next-requires-2 c =
    let room = rw length-append at c.requires in
    let at_first = ap (λ (w : Writer). w.at) c.put_next.ensures in
    let kept = puts-length (omega arith) (record { position = at_first; output = ap (λ (w : Writer). w.output.now) c.put_next.ensures }) in
    omega arith

pub returns : goal.returns
returns c =
    let room = rw length-append at c.requires in
    puts-more (omega arith)
    (record { position = ap (λ (w : Writer). w.at) c.put_next.ensures; output = ap (λ (w : Writer). w.output.now) c.put_next.ensures })
    (record { position = ap (λ (w : Writer). w.at) c.put_next-2.ensures; output = search rules })
