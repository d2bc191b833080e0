-- `validity::entry_valid` meets its contract.
use borrow.Author.Tests.{eq-eqb, ne_eqb}
use Rattle.memory.specs.Validity.{entry_valid}
use Rattle.validity.proofs.Deciding.{stored-as}
use Rattle.lists.proofs.BoolLaws.{and_both}
use Rattle.memory.proofs.Chains.{refuted, granted, told, left-fails, right-fails, last-decides, either-holds, other-decides, fails, holds}
use Rattle.validity.proofs.entry_valid.Goals as goal

pub returns-then-not-storable : goal.returns-then-not-storable
unfolding entry_valid
returns-then-not-storable c = search (refuted, granted, left-fails, right-fails, and_both, last-decides, fails, told, stored-as, other-decides, ne_eqb) depth 9

pub returns-then-message-settings : goal.returns-then-message-settings
unfolding entry_valid
returns-then-message-settings c = search (refuted, granted, left-fails, right-fails, and_both, last-decides, fails, told, ne_eqb) depth 9

pub returns-then-is_processed : goal.returns-then-is_processed
unfolding entry_valid
returns-then-is_processed c = search (refuted, granted, and_both, last-decides, told, stored-as, holds, either-holds, eq-eqb) depth 9

pub returns : goal.returns
unfolding entry_valid
returns c = search (refuted, granted, and_both, last-decides, told, stored-as, other-decides, eq-eqb) depth 9
