-- `decimal_length` counts the digits by the power of ten.
use native.Mathlib.Omega.{arith}
use Rattle.text.proofs.Putting.{digits-counted}
use Rattle.text.proofs.decimal_length.Goals as goal

pub returns : goal.returns
returns c =
    let e = c.unwrap_or.ensures in
    let log = c.checked_ilog10.ensures in
    rw e (digits-counted _ c.checked_ilog10.result (omega arith) log.none log.power_le log.next_power_gt)
