-- `places::search::first` meets its contract.
use native.Mathlib.Omega.{arith}
use Rattle.places.proofs.Positions.{search-passed, search-found}
use Rattle.places.proofs.Found.{at-place}
use Rattle.places.proofs.search.first.Goals as goal

pub returns-then-test : goal.returns-then-test
returns-then-test g c = λ f t. at-place (search-found _ f _ _ _ _ _ c.loop-k.k (omega arith) (c.loop-k.invariant f t) c.place_at.ensures (t _ _ c.test.ensures) c.if-test.true) (omega arith)

pub loop-k-preserved : goal.loop-k-preserved
loop-k-preserved g c = λ f t. search-passed _ f _ _ _ _ _ c.loop-k.k (omega arith) (c.loop-k.invariant f t) c.place_at.ensures (t _ _ c.test.ensures) c.if-test.false
