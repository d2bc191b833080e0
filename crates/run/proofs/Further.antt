-- The claims beyond demand 3.
use mathlib.Core.Path.{◌≡◌, sym, ◌∙◌}
use borrow.Author.Tests.{ne_eqb}
use Rattle.memory.specs.Codec.{decode}
use Rattle.gateway.specs.Calls.{taken, started, committed}
use Rattle.run.specs.World.{World, Call, works, takes, starts, commits, sets_up, opening_world, after_call, after_calls}
use Rattle.run.specs.Further.{OnlyForRoom, SameRecords, DoesNothing, NothingChanged}
use Rattle.run.specs.WhatWaits.{LedgersHold}
use Rattle.run.specs.RoundsEnd.{EndedAreClosed, AllTakenIsCompleted}
use Rattle.run.proofs.FigureGraph.{figure_graph}
use Rattle.run.proofs.Ledgers.{follows_same}
use Rattle.run.proofs.RoundCounters.{ended-closed}
use Rattle.run.proofs.RefusedCalls.{refused-frame, refused-start, refused-commit, refused-set-up, idle-work}
use Rattle.run.proofs.FramesInTurn.{taken-or-room}
use Rattle.run.proofs.UpdatesUnderWay.{none-is-completed, completed-has-none}
use Rattle.run.proofs.Theorem.{claimed, reached-both}

-- the records of two runs that are whole
pub same-records : SameRecords
same-records n last setups lent lent' forecast forecast' calls calls' h h' i l due nothing due' nothing' =
    (claimed n last setups lent forecast calls h).whole i l due nothing
    ∙ sym ((claimed n last setups lent' forecast' calls' h').whole i l due' nothing')

-- a call that is refused, or work that does no event
pub nothing-changed : NothingChanged
nothing-changed n last setups lent forecast calls h c d = by_call c d
  where
    w : World
    w = after_calls n (opening_world setups lent) calls

    by_call : (c : Call) → DoesNothing n w c → after_call n w c ≡ w
    by_call (works i b output) d =
        idle-work n w i b output ((reached-both n last setups lent forecast calls h).both.bytes i d.0) d.1
    by_call (takes i frame output) d = refused-frame n w i frame output (ne_eqb (taken (w.memories i) frame output).answer.number 0 d)
    by_call (starts i output) d = refused-start n w i output (ne_eqb (started (w.memories i) output).answer.number 0 d)
    by_call (commits i output) d = refused-commit n w i output (ne_eqb (committed (w.memories i) output).answer.number 0 d)
    by_call (sets_up i opening list) d = refused-set-up n w i opening list d

-- a frame under way at its addressee
pub only-for-room : OnlyForRoom
only-for-room n last setups lent forecast calls h c under output = taken-or-room n forecast.some last setups (reached-both n last setups
    lent forecast calls h).both c under output

-- the ledgers and the queues that the memories hold
pub ledgers-hold : LedgersHold
ledgers-hold n last setups lent forecast calls h i l =
    let w = after_calls n (opening_world setups lent) calls in
    follows_same n last setups (decode (w.memories i)).queue (w.ledgers i) ((reached-both n last setups lent forecast calls h).both.beside.ledgers i l)

-- the rounds that are closed
pub ended-are-closed : EndedAreClosed
ended-are-closed n last setups lent forecast calls h =
    let k = reached-both n last setups lent forecast calls h in
    ended-closed (figure_graph n forecast.some) (after_calls n (opening_world setups lent) calls).rounds k.world.rounds k.both.rounds.counted

-- and those of them that are completed
pub all-taken-is-completed : AllTakenIsCompleted
all-taken-is-completed n last setups lent forecast calls h t closed =
    let b = (reached-both n last setups lent forecast calls h).both in (
      none-is-completed n forecast.some last setups b t closed,
      completed-has-none n forecast.some last setups b t closed,
    )
