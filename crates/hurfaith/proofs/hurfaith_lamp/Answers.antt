-- `hurfaith::hurfaith_lamp` meets its contract.
use mathlib.Core.Path.{refl, sym, ◌∙◌, ap}
use Rattle.frame.specs.Reasons.{read_number}
use Rattle.frame.proofs.FormNumbers.{number-some}
use Rattle.hurfaith.proofs.LampPlaces.{lamp-answered, lamp-refused}
use Rattle.hurfaith.proofs.hurfaith_lamp.Goals as goal

pub returns-in-Ok : goal.returns-in-Ok
returns-in-Ok c = lamp-answered c.args.frame (sym c.in-Ok.ensures.1) refl c.packed.ensures

pub returns-in-Err : goal.returns-in-Err
returns-in-Err c =
    let number = c.number.ensures ∙ sym (ap read_number c.in-Err.ensures) in
    lamp-refused c.args.frame number (λ z. number-some c.in-Err.reason (sym c.number.ensures ∙ z)) c.packed-in-Err.ensures
