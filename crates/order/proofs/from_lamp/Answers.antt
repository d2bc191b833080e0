-- `order::from_lamp` meets its contract.
use mathlib.Core.Path.{◌≡◌, sym, ◌∙◌}
use Rattle.std.specs.Ordering.{ordering_then}
use borrow.Author.Rules.{rules}
use Rattle.model.specs.EventOrder.{compared}
use Rattle.model.proofs.Arrays.{lamp-length}
use Rattle.model.proofs.Comparing.{then-with, compared-append}
use Rattle.model.proofs.Keys.{back}
use Rattle.order.proofs.from_lamp.Goals as goal

pub returns : goal.returns
unfolding compared
returns c =
    let a = c.args.a in
    let b = c.args.b in
    let whole : c.then_with.result ≡ ordering_then c.cmp.result (compared (back a) (back b)) =
    then-with c.cmp.result c.then_with.result (compared (back a) (back b)) (λ p. search rules) c.then_with.ensures
    in
    whole
    ∙ rw c.cmp.ensures (sym (compared-append a.lamp b.lamp (back a) (back b) (lamp-length a _ c.well_formed.0 ∙ sym (lamp-length b _ c.well_formed.1.0))))
