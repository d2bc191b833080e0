-- `places::search::last` meets its contract.
use Rattle.places.proofs.Positions.{last-passed, last_found, last_none}
use Rattle.places.proofs.Found.{before-place, before-none}
use Rattle.places.proofs.search.last.Goals as goal

pub returns-then-test : goal.returns-then-test
returns-then-test g c = λ f t. before-place (last_found _ f _ _ _ _ _ c.loop-k-test.true (c.loop-k.invariant f t) c.place_at.ensures (t _ _ c.test.ensures) c.if-test.true) c.loop-k-test.true

pub loop-k-preserved : goal.loop-k-preserved
loop-k-preserved g c = λ f t. last-passed _ f _ _ _ _ _ c.loop-k-test.true (c.loop-k.invariant f t) c.place_at.ensures (t _ _ c.test.ensures) c.if-test.false

pub returns : goal.returns
returns g c = λ f t. before-none (last_none _ f _ _ _ _ _ c.loop-k-test.false (c.loop-k.invariant f t))
