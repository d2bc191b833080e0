-- `places::least::least_outstanding` meets its contract.
use mathlib.Core.Path.{sym, ◌∙◌}
use Rattle.std.proofs.Common.{rules}
use Rattle.places.proofs.LeastHours.{sent-least}
use Rattle.places.proofs.least.least_outstanding.Goals as goal

pub returns : goal.returns
returns c = c.least.ensures (λ x. x.message.hour) (λ x r h. search rules) ∙ sym (sent-least _)
