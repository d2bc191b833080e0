-- `places::changes::remove` meets its contract.
use mathlib.Core.Path.{◌≡◌, ap}
use Prim.Native.Nat.{ℕ, ◌+◌, ◌-◌, ◌*◌}
use native.Mathlib.Omega.{arith}
use Rattle.places.proofs.changes.remove.Goals as goal

pub move_within-requires : goal.move_within-requires
move_within-requires g c =
    let size = g.P.Place.SIZE in
    let behind : ℕ = c.args.count - c.args.k - 1 in
    let e : c.args.count ≡ c.args.k + 1 + behind = omega arith in
    let d : size * c.args.count ≡ size * (c.args.k + 1 + behind) = ap (λ (n : ℕ). size * n) e in
    rw (c.SIZE.ensures, c.SIZE-2.ensures, c.SIZE-3.ensures) (omega (arith, d, c.requires.inside), omega (arith, d, c.requires.inside))
