-- `rules::well_formed` meets its contract.
use mathlib.Core.Path.{sym, ◌∙◌, ap}
use lib.Dec.{eqb}
use Rattle.frame.proofs.Values.{value-numbers}
use Rattle.refusal.proofs.Numbers.{number-ok}
use Rattle.rules.proofs.well_formed.Goals as goal

pub returns : goal.returns
returns c =
    c.is_ok.ensures.value ∙ number-ok c.value_refusal.result ∙ ap (λ n. eqb n 0) c.value_refusal.ensures
    ∙ sym (value-numbers.formed c.args.frame)
