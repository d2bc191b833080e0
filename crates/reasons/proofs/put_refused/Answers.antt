-- `reasons::put_refused` meets its contract.
use native.Mathlib.Omega.{arith}
use mathlib.Core.Path.{◌∙◌}
use Rattle.reasons.proofs.Putting.{number_put}
use Rattle.reasons.specs.Words.{refused_text}
use Rattle.reasons.proofs.put_refused.Goals as goal

pub returns-in-Some : goal.returns-in-Some
returns-in-Some c =
    let number = c.from.ensures ∙ c.number.ensures in
    let put = number_put _ _ (omega arith) c.put_field-behind_number.ensures _ number c.words_of.ensures.words c.put_words.ensures in
    (rw c.in-Some.is put, omega arith)

pub returns-in-None : goal.returns-in-None
unfolding refused_text
returns-in-None c = (rw c.in-None.is c.put_field.ensures.0, omega arith)
