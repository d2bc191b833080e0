-- `render` puts the listing of the number that the input gives, or 8.
use mathlib.Core.Path.{◌∙◌}
use borrow.Author.Rules.{rules}
use Rattle.rendering.proofs.Whole.{rendering-is}
use Rattle.rendering.proofs.render.Goals as goal

pub returns-in-Some : goal.returns-in-Some
returns-in-Some c = c.render_listing.ensures ∙ rendering-is _ _ (search rules)

pub returns-in-None : goal.returns-in-None
returns-in-None c = c.render_refusal.ensures ∙ rendering-is _ _ (search rules)
