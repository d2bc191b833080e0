-- `validity::storable` meets its contract.
use Rattle.memory.specs.Validity.{storable}
use Rattle.validity.proofs.Deciding.{formed-as}
use Rattle.lists.proofs.BoolLaws.{and_both}
use Rattle.memory.proofs.Chains.{refuted, granted, left-fails, right-fails, last-decides, fails, above, within}
use Rattle.validity.proofs.storable.Goals as goal

pub returns-then-kind_number-gt3 : goal.returns-then-kind_number-gt3
unfolding storable
returns-then-kind_number-gt3 c = search (refuted, granted, left-fails, right-fails, and_both, last-decides, fails, above, within) depth 9

pub returns-then-not-well_formed : goal.returns-then-not-well_formed
unfolding storable
returns-then-not-well_formed c = search (refuted, granted, left-fails, right-fails, and_both, last-decides, fails, above, within, formed-as) depth 9

pub returns-then-not-numbers_below : goal.returns-then-not-numbers_below
unfolding storable
returns-then-not-numbers_below c = search (refuted, granted, left-fails, right-fails, and_both, last-decides, fails, above, within) depth 9

pub returns : goal.returns
unfolding storable
returns c = search (granted, and_both, last-decides, within, formed-as) depth 9
