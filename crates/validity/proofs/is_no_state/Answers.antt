-- `validity::is_no_state` meets its contract.
use borrow.Author.Tests.{eq-eqb, ne_eqb}
use Rattle.lists.proofs.BoolLaws.{and_both}
use Rattle.memory.proofs.Chains.{left-fails, right-fails, last-decides, fails}
use Rattle.memory.proofs.Chains.{left-fails, right-fails, last-decides, fails}
use Rattle.validity.proofs.is_no_state.Goals as goal

pub returns-then-state-ne0 : goal.returns-then-state-ne0
returns-then-state-ne0 c = search (left-fails, right-fails, and_both, last-decides, fails, eq-eqb, ne_eqb) depth 9

pub returns-then-state-ne0-2 : goal.returns-then-state-ne0-2
returns-then-state-ne0-2 c = search (left-fails, right-fails, and_both, last-decides, fails, eq-eqb, ne_eqb) depth 9

pub returns-then-state-ne0-3 : goal.returns-then-state-ne0-3
returns-then-state-ne0-3 c = search (left-fails, right-fails, and_both, last-decides, fails, eq-eqb, ne_eqb) depth 9

pub returns : goal.returns
returns c = search (and_both, last-decides, eq-eqb) depth 9
