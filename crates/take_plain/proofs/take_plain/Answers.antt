-- `take_plain::take_plain` meets its contract.
use mathlib.Core.Path.{refl}
use native.Mathlib.Omega.{arith}
use Rattle.gateway.proofs.Dispatching.{below, not-below}
use Rattle.take_plain.proofs.PlainTakings.{meets, enters}
use Rattle.places.proofs.Found.{place-found, place-inside, place-none}
use Rattle.gateway.proofs.Knowing.{sizes}
use Rattle.take_plain.proofs.take_plain.Goals as goal

pub returns-then-message-header : goal.returns-then-message-header
returns-then-message-header c = below _ _ _ c.requires.0 _ _ c.if-message-header.true

pub cancel_of-requires : goal.cancel_of-requires
cancel_of-requires c = let z = sizes _ _ c.requires.0 in omega (arith, z.long, z.queued)

pub meet_cancel-requires : goal.meet_cancel-requires
meet_cancel-requires c =
    (c.requires.0, place-inside _ _ c.in-Some.ensures, c.requires.1.lamp, c.requires.2)

pub returns-in-Some : goal.returns-in-Some
returns-in-Some c =
    not-below c.args.memory.now c.args.output.now _ c.requires.0 _ _ c.if-message-header.false (meets
    c.args.memory.now c.args.output.now _ c.requires.0 _ _ (place-found _ _ c.in-Some.ensures) (place-inside _ _ c.in-Some.ensures)
    c.meet_cancel.ensures)

pub returns-in-None : goal.returns-in-None
returns-in-None c =
    not-below c.args.memory.now c.args.output.now _ c.requires.0 _ _ c.if-message-header.false (enters
    c.args.memory.now c.args.output.now _ c.requires.0 _ _ refl (place-none _ _ c.in-None.ensures)
    c.enter_plain.ensures)
