-- `soundness::added_if` meets its contract.
use Rattle.soundness.proofs.Passing.{one_more, none_more}
use Rattle.soundness.proofs.added_if.Goals as goal

pub returns-then-more : goal.returns-then-more
returns-then-more c = search one_more

pub returns : goal.returns
returns c = search none_more
