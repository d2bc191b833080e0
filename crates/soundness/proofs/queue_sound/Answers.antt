-- `soundness::queue_sound` meets its contract.
use native.Mathlib.Omega.{arith}
use Rattle.buffer.proofs.Lent.{bytes-known}
use Rattle.soundness.proofs.Passing.{brought-few, bounded-start, bounded-enough, bounded-turn, bounded-end, queue-start, queue-place, queue-entry, queue-turn, queue-end}
use Rattle.std.proofs.lemmas.Bool.{not_from_true}
use Rattle.soundness.proofs.queue_sound.Goals as goal

pub loop-left-init : goal.loop-left-init
loop-left-init c =
    let few = brought-few c.args.memory.now c.args.count (bytes-known c.args.memory.now c.type_inv.memory) c.requires.1
    c.requires.2 in
    (omega arith, bounded-start _ _ few, queue-start _ _ _ _ few c.entry_of-before.ensures)

pub returns-then-not-entry_exact : goal.returns-then-not-entry_exact
returns-then-not-entry_exact c = search queue-place

pub returns-then-not-entry_fits : goal.returns-then-not-entry_fits
returns-then-not-entry_fits c = search queue-entry

pub pass-passed-requires : goal.pass-passed-requires
pass-passed-requires c =
    let inv = c.loop-left.invariant in bounded-enough _ _ _ _ inv.1 c.loop-left-test.true _ c.entry_of-entry.ensures

pub loop-left-preserved : goal.loop-left-preserved
loop-left-preserved c =
    let inv = c.loop-left.invariant in (
      omega arith,
      bounded-turn _ _ _ _ inv.1 c.loop-left-test.true _ c.entry_of-entry.ensures c.pass-passed.ensures,
      queue-turn _ _ _ _ _ _ _ inv.2 c.loop-left-test.true c.entry_of-entry.ensures c.entry_exact.ensures (not_from_true _ c.if-not-entry_exact.false)
          c.entry_fits.ensures (not_from_true _ c.if-not-entry_fits.false) c.pass-passed.ensures,
    )

pub stocks_fit-requires : goal.stocks_fit-requires
stocks_fit-requires c = let inv = c.loop-left.invariant in (bounded-end _ _ _ _ inv.1, inv.1.pending)

pub returns : goal.returns
returns c =
    let inv = c.loop-left.invariant in queue-end _ _ _ _ _ _ _ inv.2 c.loop-left-test.false c.stocks_fit.ensures
