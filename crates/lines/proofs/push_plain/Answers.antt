-- `lines::push_plain` meets its contract.
use Rattle.std.proofs.Common.{◌≤◌, arith, replicate, length, length-take-le, sym}
use Rattle.lines.proofs.Written.{written-within}
use Rattle.lines.proofs.push_plain.Goals as goal

pub slice_bounds-frame-end : goal.slice_bounds-frame-end
slice_bounds-frame-end g c = omega (arith, written-within c.frame_if.result (replicate 28 0) c.in-Ok.ensures)

pub slice_bounds-put-end : goal.slice_bounds-put-end
slice_bounds-put-end g c =
    let within : c.in-Ok.count ≤ length c.write.new.out = omega (arith, written-within c.frame_if.result (replicate 28 0) c.in-Ok.ensures) in
    sym (length-take-le c.in-Ok.count c.write.new.out within)
