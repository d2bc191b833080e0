-- `take_cancel::take_cancel` meets its contract.
use mathlib.Core.Path.{refl}
use native.Mathlib.Omega.{arith}
use Rattle.gateway.proofs.Dispatching.{below, not-below}
use Rattle.take_cancel.proofs.CancelTakings.{cancel-waits, last-below, last-struck}
use Rattle.places.proofs.Found.{place-behind, none-behind}
use Rattle.gateway.proofs.Knowing.{sizes}
use Rattle.take_cancel.proofs.take_cancel.Goals as goal

pub returns-then-message-header : goal.returns-then-message-header
returns-then-message-header c = below _ _ _ c.requires.0 _ _ c.if-message-header.true

pub last_equal-requires : goal.last_equal-requires
last_equal-requires c = let z = sizes _ _ c.requires.0 in omega (arith, z.long, z.queued)

pub enter_cancel-requires : goal.enter_cancel-requires
enter_cancel-requires c = c.requires

pub returns-in-None : goal.returns-in-None
returns-in-None c =
    not-below c.args.memory.now c.args.output.now _ c.requires.0 _ _ c.if-message-header.false (cancel-waits
    c.args.memory.now c.args.output.now _ c.requires.0 _ _ refl
    (none-behind _ c.in-None.ensures) c.enter_cancel.ensures)

pub strike_out-requires : goal.strike_out-requires
strike_out-requires c = (
  c.requires.0,
  last-below c.args.memory.now c.args.output.now _ c.requires.0 _ _
      (place-behind _ c.in-Some.ensures),
  c.requires.1,
  c.requires.2,
)

pub returns-in-Some : goal.returns-in-Some
returns-in-Some c =
    not-below c.args.memory.now c.args.output.now _ c.requires.0 _ _ c.if-message-header.false (last-struck
    c.args.memory.now c.args.output.now _ c.requires.0 _ _ (place-behind _ c.in-Some.ensures)
    c.strike_out.ensures)
