-- `order::before_lamp` meets its contract.
use mathlib.Core.Path.{sym, ◌∙◌}
use Rattle.std.specs.Ordering.{ordering_then, nat_cmp}
use Rattle.model.specs.Messages.{origin_of}
use Rattle.model.specs.EventOrder.{rank}
use Rattle.model.proofs.Comparing.{then-decided, then-open}
use Rattle.model.proofs.Keys.{by-first}
use Rattle.order.proofs.before_lamp.Goals as goal

pub returns-then-is_ne : goal.returns-then-is_ne
returns-then-is_ne c =
    let a = c.args.a in let b = c.args.b in
    let rest = ordering_then (nat_cmp (rank a.kind) (rank b.kind)) (nat_cmp (origin_of a.kind) (origin_of b.kind)) in
    sym (then-decided c.cmp-hours.result rest (sym c.is_ne.ensures ∙ c.if-is_ne.true))
    ∙ rw c.cmp-hours.ensures (by-first a.hour (rank a.kind) (origin_of a.kind) b.hour (rank b.kind) (origin_of b.kind))

pub returns : goal.returns
returns c =
    let a = c.args.a in let b = c.args.b in
    let ranks = rw (c.rank.ensures, c.rank-2.ensures) at c.cmp.ensures in
    let origins = rw (c.origin_of.ensures, c.origin_of-2.ensures) at c.cmp-2.ensures in
    c.then.ensures ∙ rw (ranks, origins)
    (sym (then-open c.cmp-hours.result _ (sym c.is_ne.ensures ∙ c.if-is_ne.false))
    ∙ rw c.cmp-hours.ensures (by-first a.hour (rank a.kind) (origin_of a.kind) b.hour (rank b.kind) (origin_of b.kind)))
