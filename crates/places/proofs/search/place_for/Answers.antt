-- `places::search::place_for` meets its contract.
use mathlib.Core.Path.{refl}
use native.Mathlib.Nat.{zero-add, sub-zero}
use Rattle.std.proofs.Common.{rules}
use Rattle.gateway.specs.Taking.{is_later}
use Rattle.places.proofs.Found.{place-or-behind}
use Rattle.places.proofs.Positions.{place-within}
use Rattle.places.proofs.search.place_for.Goals as goal

pub returns : goal.returns
returns c =
    let e = rw (zero-add, sub-zero) at (c.first-found.ensures (is_later c.args.message) (λ e r h. search rules)) in
    place-or-behind c.args.queued _ c.unwrap_or.ensures e (place-within c.args.queued c.args.message c.args.memory.now refl)
