-- `frame::tables::map_of` meets its contract.
use native.Mathlib.Omega.{arith}
use Rattle.model.specs.Messages.{kind_number}
use Rattle.frame.proofs.Output.{map-plain, map-sense}
use Rattle.frame.proofs.Presence.{map-small}
use Rattle.frame.proofs.tables.map_of.Goals as goal

pub returns-then-sense_number-eq0 : goal.returns-then-sense_number-eq0
returns-then-sense_number-eq0 c = search map-plain

pub overflow_add-result : goal.overflow_add-result
overflow_add-result c =
    let kind = c.args.frame.message.kind in
    let plain = rw c.kind_number.ensures at c.map_of_kind-plain.ensures in
    omega (arith, map-small (kind_number kind))

pub returns : goal.returns
returns c = search map-sense
