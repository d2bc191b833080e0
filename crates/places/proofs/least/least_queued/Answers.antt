-- `places::least::least_queued` meets its contract.
use mathlib.Core.Path.{sym, ◌∙◌}
use Rattle.std.proofs.Common.{rules}
use Rattle.places.specs.Inside.Searching.{due_hour}
use Rattle.places.proofs.LeastHours.{queued-least}
use Rattle.places.proofs.least.least_queued.Goals as goal

pub returns : goal.returns
returns c = c.least.ensures due_hour (λ x r h. search rules) ∙ sym (queued-least _)
