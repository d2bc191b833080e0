-- `lamp::lamp_or_reason` meets its contract.
use mathlib.Core.Path.{refl, sym, ap}
use Rattle.std.specs.Prelude.{is_ok}
use Rattle.buffer.specs.Slice.{part}
use Rattle.frame.specs.Reasons.{read_number}
use Rattle.frame.specs.Lamps.{with_lamp, lamp_place}
use Rattle.frame.proofs.Accepted.{lamp-inside}
use Rattle.lamp.proofs.lamp_or_reason.Goals as goal

pub slice_bounds-result-end : goal.slice_bounds-result-end
slice_bounds-result-end c =
    let carried = c.in_ok-read_where.ensures with_lamp (λ f b p. p.1) in
    lamp-inside _ (sym (ap is_ok carried))

pub returns : goal.returns
unfolding part lamp_place
returns c =
    let carried = c.in_ok-read_where.ensures with_lamp (λ f b p. p.1) in
    (rw (sym (ap is_ok carried)) (record { place = refl; bytes = refl }), sym (ap read_number carried))
