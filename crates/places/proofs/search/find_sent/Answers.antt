-- `places::search::find_sent` meets its contract.
use native.Mathlib.Nat.{zero-add, add-zero, sub-zero}
use Rattle.std.proofs.Common.{rules}
use Rattle.gateway.specs.Taking.{is_sent}
use Rattle.places.proofs.search.find_sent.Goals as goal

pub returns : goal.returns
returns c = rw (zero-add, add-zero, sub-zero) at (c.first.ensures (is_sent c.args.cancel c.args.message) (λ e r h. search rules))
