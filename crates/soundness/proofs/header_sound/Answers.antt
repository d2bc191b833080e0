-- `soundness::header_sound` meets its contract.
use Rattle.soundness.proofs.ByParts.{settings-refused, too_short, no-phase, too-many-queued, header-decided}
use Rattle.soundness.proofs.header_sound.Goals as goal

pub returns-then-not-settings_valid : goal.returns-then-not-settings_valid
returns-then-not-settings_valid c = search settings-refused

pub returns-then-memory-size_for : goal.returns-then-memory-size_for
returns-then-memory-size_for c = search too_short

pub returns-then-memory-gt2 : goal.returns-then-memory-gt2
returns-then-memory-gt2 c = search no-phase

pub returns-then-header-settings : goal.returns-then-header-settings
returns-then-header-settings c = search too-many-queued

pub returns : goal.returns
returns c = let pre = c.requires in search header-decided
