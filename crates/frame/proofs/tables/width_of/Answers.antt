-- `frame::tables::width_of` meets its contract: the constant holds the widths of the definition.
use mathlib.Core.Path.{◌≡◌}
use Rattle.frame.proofs.Walking.{last_bit}
use Rattle.frame.proofs.tables.width_of.Goals as goal

pub returns-in_default : goal.returns-in_default
returns-in_default c =
    let last : c.args.bit ≡ 7 = search last_bit in
    rw last
