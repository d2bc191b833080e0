-- `soundness::outstanding_sound` meets its contract.
use native.Mathlib.Omega.{arith}
use Rattle.soundness.proofs.Passing.{outstanding-passed, sent-place, sent-refused, sent-turn, sent-end}
use Rattle.soundness.proofs.outstanding_sound.Goals as goal

pub loop-left-init : goal.loop-left-init
loop-left-init c = (omega arith, search outstanding-passed)

pub returns-then-not-sent_exact : goal.returns-then-not-sent_exact
returns-then-not-sent_exact c = search sent-place

pub returns-then-not-sent_valid : goal.returns-then-not-sent_valid
returns-then-not-sent_valid c = search sent-refused

pub loop-left-preserved : goal.loop-left-preserved
loop-left-preserved c = (omega arith, search sent-turn)

pub returns : goal.returns
returns c = search sent-end
