-- `places::search::cancel_of` meets its contract.
use native.Mathlib.Nat.{zero-add, sub-zero}
use Rattle.std.proofs.Common.{rules}
use Rattle.gateway.specs.Taking.{is_cancel_of}
use Rattle.places.proofs.search.cancel_of.Goals as goal

pub returns : goal.returns
returns c = rw (zero-add, sub-zero) at (c.first.ensures (is_cancel_of c.args.message) (λ e r h. search rules))
