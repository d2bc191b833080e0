-- `rollback::undo::undo` meets its contract.
use mathlib.Core.Path.{refl}
use mathlib.Core.List.{[]}
use native.Mathlib.Omega.{arith}
use Rattle.memory.specs.Codec.{entry_of}
use Rattle.effects.proofs.PlacedLaws.{placed-count}
use Rattle.rollback.proofs.UndoLaws.{undo-start, between-here, may_here, undo-turn, undo-end}
use borrow.Author.Rules.{rules}
use Rattle.rollback.proofs.undo.undo.Goals as goal

pub loop-left-init : goal.loop-left-init
loop-left-init c =
    let n = placed-count c.requires.3.placed in (omega (arith, c.requires.2), refl, λ before g low may. undo-start low may refl)

pub undo_place-so_far-requires : goal.undo_place-so_far-requires
undo_place-so_far-requires c =
    let p = c.requires in
    let u = c.loop-left.invariant.2 p.0 p.1 p.2 p.3 in (
      p.0,
      _,
      _,
      _,
      _,
      between-here p.2 p.3 c.loop-left-test.true u (entry_of []),
      may_here p.2 p.3
          c.loop-left-test.true u (entry_of []),
    )

pub loop-left-preserved : goal.loop-left-preserved
loop-left-preserved c = (
  omega (arith, c.loop-left-test.true),
  search rules,
  λ before g low may.
      let u = c.loop-left.invariant.2 before g low may in
      undo-turn low may c.loop-left-test.true u (entry_of [])
      (c.undo_place-so_far.ensures before _ _ _ _ (between-here low may c.loop-left-test.true u (entry_of [])) (may_here
      low may c.loop-left-test.true u (entry_of []))),
)

pub returns : goal.returns
returns c = λ before g low may. undo-end low may c.loop-left.invariant.0 c.loop-left-test.false (c.loop-left.invariant.2 before g low may)
