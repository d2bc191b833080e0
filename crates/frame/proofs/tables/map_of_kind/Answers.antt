-- `frame::tables::map_of_kind` meets its contract.
use Rattle.std.proofs.Common.{rules}
use Rattle.frame.specs.Kinds.{map_of_kind}
use Rattle.frame.proofs.tables.map_of_kind.Goals as goal

pub returns : goal.returns
unfolding map_of_kind
returns c = search rules
