-- `places::least::least` meets its contract.
use mathlib.Core.Path.{refl}
use native.Mathlib.Omega.{arith}
use Rattle.places.proofs.LeastHours.{least_start, least-turn, least-end}
use Rattle.places.proofs.least.least.Goals as goal

pub loop-k-init : goal.loop-k-init
loop-k-init g c = (omega arith, λ f t. least_start _ f _ _ _ _ _ refl)

pub loop-k-preserved : goal.loop-k-preserved
loop-k-preserved g c = (
  omega arith,
  λ f t. least-turn _ f _ _ _ _ _ c.loop-k.k c.loop-k.least (omega arith) (c.loop-k.invariant.1 f t) c.place_at.ensures (t _ _ c.hour.ensures) c.min-least.ensures,
)

pub returns : goal.returns
returns g c = λ f t. least-end _ f _ _ _ _ _ c.loop-k.k c.loop-k.least (omega arith) c.loop-k.invariant.0 (c.loop-k.invariant.1 f t)
