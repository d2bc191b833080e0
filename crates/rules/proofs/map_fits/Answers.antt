-- `rules::map_fits` meets its contract.
use native.Mathlib.Omega.{arith}
use Rattle.frame.proofs.Presence.{map-small}
use Rattle.rules.proofs.map_fits.Goals as goal

pub overflow_add-result : goal.overflow_add-result
overflow_add-result c = omega (arith, map-small c.args.kind)
