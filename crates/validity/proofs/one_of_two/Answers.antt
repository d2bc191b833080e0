-- `validity::one_of_two` meets its contract.
use borrow.Author.Tests.{lt-leb, le-leb}
use Rattle.memory.proofs.Chains.{left-fails, last-decides, fails}
use Rattle.memory.proofs.Chains.{left-fails, last-decides, fails}
use Rattle.validity.proofs.one_of_two.Goals as goal

pub returns-then-arrived-lt1 : goal.returns-then-arrived-lt1
returns-then-arrived-lt1 c = search (left-fails, last-decides, fails, lt-leb, le-leb) depth 9

pub returns : goal.returns
returns c = search (last-decides, le-leb) depth 9
