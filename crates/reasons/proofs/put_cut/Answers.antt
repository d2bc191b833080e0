-- `reasons::put_cut` meets its contract.
use native.Mathlib.Omega.{arith}
use mathlib.Core.Path.{◌∙◌}
use Rattle.text.specs.Letters.{codes}
use Rattle.reasons.proofs.Putting.{cut-put}
use Rattle.reasons.proofs.put_cut.Goals as goal

pub returns : goal.returns
unfolding codes
returns c =
    let number = c.from.ensures ∙ c.number.ensures in
    (cut-put _ _ (omega arith) c.put_field-behind_number.ensures number c.put_words.ensures, omega arith)
