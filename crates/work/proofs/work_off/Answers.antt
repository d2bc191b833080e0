-- `work::work_off` meets its contract.
use mathlib.Core.Path.{sym, ◌∙◌}
use Rattle.buffer.proofs.Lent.{bytes-known}
use Rattle.work.proofs.SeveralEvents.{at_first, ready, one_more, may-stop, stops-early, may-end, ends}
use Rattle.work.proofs.work_off.Goals as goal

pub loop-count-init : goal.loop-count-init
loop-count-init c = at_first c.args.output.now c.requires (bytes-known c.args.memory.now c.type_inv.memory) c.args.budget

pub work_one-turn-requires : goal.work_one-turn-requires
work_one-turn-requires c = ready c.loop-count.invariant

pub finish-requires : goal.finish-requires
finish-requires c =
    may-stop c.loop-count.invariant c.loop-count-test.true c.work_one-turn.ensures

pub returns-then-is_some : goal.returns-then-is_some
returns-then-is_some c =
    stops-early c.loop-count.invariant c.loop-count-test.true c.work_one-turn.ensures c.requires
    (sym c.is_some.ensures ∙ c.if-is_some.true)
    c.finish.ensures

pub loop-count-preserved : goal.loop-count-preserved
loop-count-preserved c =
    one_more c.loop-count.invariant c.loop-count-test.true c.work_one-turn.ensures (sym c.is_some.ensures ∙ c.if-is_some.false)

pub finish-requires-2 : goal.finish-requires-2
finish-requires-2 c = may-end c.loop-count.invariant c.loop-count-test.false

pub returns : goal.returns
returns c =
    ends c.loop-count.invariant c.loop-count-test.false c.requires c.finish-2.ensures
