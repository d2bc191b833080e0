-- `records::balance::balance` meets its contract.
use mathlib.Core.Path.{refl}
use mathlib.Core.Logic.{⊎_elim}
use Rattle.records.proofs.Booking.{too_much, too_long, in-range}
use Rattle.records.proofs.balance.balance.Goals as goal

pub returns-then-opening-gt-MOST_OPENING_STOCK : goal.returns-then-opening-gt-MOST_OPENING_STOCK
returns-then-opening-gt-MOST_OPENING_STOCK c =
    let opening = c.args.opening in
    let bytes = c.args.bytes.now in
    ⊎_elim (λ h. too_much opening bytes h refl) (λ h. too_long opening bytes h.0 h.1 refl) c.then-opening-gt-MOST_OPENING_STOCK.either

pub returns : goal.returns
returns c = search in-range
