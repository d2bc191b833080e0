-- `validity::sent_valid` meets its contract.
use Rattle.memory.specs.Validity.{sent_valid}
use Rattle.lists.proofs.BoolLaws.{and_both}
use Rattle.memory.proofs.Chains.{refuted, granted, left-fails, right-fails, last-decides, fails}
use Rattle.validity.proofs.sent_valid.Goals as goal

pub returns-then-not-storable : goal.returns-then-not-storable
unfolding sent_valid
returns-then-not-storable c = search (refuted, granted, left-fails, right-fails, and_both, last-decides, fails) depth 9

pub returns-then-not-has_lamp : goal.returns-then-not-has_lamp
unfolding sent_valid
returns-then-not-has_lamp c =
    let lamp = rw c.kind_number.ensures at c.has_lamp.ensures in
    search (refuted, granted, left-fails, right-fails, and_both, last-decides, fails) depth 9

pub returns : goal.returns
unfolding sent_valid
returns c =
    let lamp = rw c.kind_number.ensures at c.has_lamp.ensures in
    search (granted, and_both, last-decides) depth 9
