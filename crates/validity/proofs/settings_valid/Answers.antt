-- `validity::settings_valid` meets its contract.
use borrow.Author.Tests.{lt-leb, le-leb, le-ltb}
use Rattle.memory.specs.Validity.{settings_valid}
use Rattle.lists.proofs.BoolLaws.{and_both}
use Rattle.memory.proofs.Chains.{left-fails, right-fails, last-decides, fails, byte-within}
use Rattle.validity.proofs.settings_valid.Goals as goal

pub returns-then-settings-lt1 : goal.returns-then-settings-lt1
unfolding settings_valid
returns-then-settings-lt1 c = search (left-fails, right-fails, and_both, last-decides, fails, byte-within, lt-leb, le-leb, le-ltb) depth 9

pub returns-then-settings : goal.returns-then-settings
unfolding settings_valid
returns-then-settings c = search (left-fails, right-fails, and_both, last-decides, fails, lt-leb, le-leb, le-ltb) depth 9

pub returns-then-settings-2 : goal.returns-then-settings-2
unfolding settings_valid
returns-then-settings-2 c = search (left-fails, right-fails, and_both, last-decides, fails, lt-leb, le-leb, le-ltb) depth 9

pub returns-then-settings-ge4294967295 : goal.returns-then-settings-ge4294967295
unfolding settings_valid
returns-then-settings-ge4294967295 c = search (left-fails, right-fails, and_both, last-decides, fails, lt-leb, le-leb, le-ltb) depth 9

pub returns-then-settings-lt1-2 : goal.returns-then-settings-lt1-2
unfolding settings_valid
returns-then-settings-lt1-2 c = search (left-fails, right-fails, and_both, last-decides, fails, lt-leb, le-leb, le-ltb) depth 9

pub returns-then-settings-gt512 : goal.returns-then-settings-gt512
unfolding settings_valid
returns-then-settings-gt512 c = search (left-fails, right-fails, and_both, last-decides, fails, lt-leb, le-leb, le-ltb) depth 9

pub returns-then-settings-lt1-3 : goal.returns-then-settings-lt1-3
unfolding settings_valid
returns-then-settings-lt1-3 c = search (left-fails, right-fails, and_both, last-decides, fails, lt-leb, le-leb, le-ltb) depth 9

pub returns-then-settings-gt512-2 : goal.returns-then-settings-gt512-2
unfolding settings_valid
returns-then-settings-gt512-2 c = search (left-fails, right-fails, and_both, last-decides, fails, lt-leb, le-leb, le-ltb) depth 10

pub returns : goal.returns
unfolding settings_valid
returns c = search (and_both, last-decides, byte-within, le-leb) depth 10
