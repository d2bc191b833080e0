-- `order::compare` meets its contract.
use mathlib.Core.Path.{sym, ◌∙◌}
use mathlib.Core.List.{◌++◌}
use Rattle.model.specs.EventOrder.{compared}
use Rattle.model.proofs.Comparing.{then-decided, then-open}
use Rattle.model.proofs.Keys.{back, from-front}
use Rattle.order.proofs.compare.Goals as goal

pub returns-then-is_ne : goal.returns-then-is_ne
returns-then-is_ne c =
    let a = c.args.a in
    let b = c.args.b in
    let rest = compared (a.lamp ++ back a) (b.lamp ++ back b) in
    sym (then-decided c.before_lamp-first.result rest (sym c.is_ne.ensures ∙ c.if-is_ne.true))
    ∙ rw c.before_lamp-first.ensures (from-front a b)

pub returns : goal.returns
returns c =
    c.from_lamp.ensures ∙ sym (then-open c.before_lamp-first.result _ (sym c.is_ne.ensures ∙ c.if-is_ne.false))
    ∙ rw c.before_lamp-first.ensures (from-front c.args.a c.args.b)
