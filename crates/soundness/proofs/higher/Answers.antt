-- `soundness::higher` meets its contract.
use Rattle.soundness.proofs.Passing.{none-saved, now-highest, still-highest}
use Rattle.soundness.proofs.higher.Goals as goal

pub returns-then-not-is_processed : goal.returns-then-not-is_processed
returns-then-not-is_processed c = search none-saved

pub returns-then-passed-saved : goal.returns-then-passed-saved
returns-then-passed-saved c = search now-highest

pub returns : goal.returns
returns c = search still-highest
