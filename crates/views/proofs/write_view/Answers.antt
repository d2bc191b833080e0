-- `views::write_view` meets its contract.
use mathlib.Core.Path.{refl, ap}
use Rattle.records.specs.Inside.Walking.{events_left}
use Rattle.views.proofs.Writing.{write-start, write-end, next-taken, next-room, write-turn}
use borrow.Author.Rules.{rules}
use Rattle.views.proofs.write_view.Goals as goal

pub loop-event-init : goal.loop-event-init
loop-event-init c = (
  write-start c.args.reader c.args.stock c.args.bytes.now c.args.output.now c.requires.0
      (ap events_left c.into_iter-event-iterator.ensures.into_iter_gives),
  refl,
)

pub put_event-position-requires : goal.put_event-position-requires
put_event-position-requires c =
    let p = c.loop-event.invariant.0 in
    let e = c.in-Some.ensures.steps in
    (next-taken _ _ _ _ _ _ p e, next-room _ _ _ _ _ _ p e c.requires.1)

pub loop-event-preserved : goal.loop-event-preserved
loop-event-preserved c =
    (write-turn _ _ _ _ _ _ c.loop-event.invariant.0 c.in-Some.ensures.steps c.requires.1 c.put_event-position.ensures, search rules)

pub returns : goal.returns
returns c = write-end _ _ _ _ _ _ c.loop-event.invariant.0 c.in-None.ensures.steps.0
