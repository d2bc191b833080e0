-- `soundness::entry_fits` meets its contract.
use Rattle.soundness.specs.Inside.Passes.{entry_accepted}
use Rattle.memory.proofs.Chains.{refuted, granted, struck, cleared, left-fails, right-fails, last-decides, fails}
use Rattle.soundness.proofs.entry_fits.Goals as goal

pub returns-then-not-entry_valid : goal.returns-then-not-entry_valid
unfolding entry_accepted
returns-then-not-entry_valid c = search (refuted, left-fails, fails) depth 9

pub returns-then-processed_behind : goal.returns-then-processed_behind
unfolding entry_accepted
returns-then-processed_behind c = search (left-fails, right-fails, fails, struck) depth 9

pub returns : goal.returns
unfolding entry_accepted
returns c = search (granted, last-decides, cleared) depth 9
