-- `effects::send::note` meets its contract.
use mathlib.Core.Logic.{inl, inr}
use Rattle.effects.proofs.Stores.{with-note}
use Rattle.effects.proofs.send.note.Goals as goal

pub returns-in-Counting : goal.returns-in-Counting
returns-in-Counting c = with-note c.args.hour c.args.round _ (rw c.in-Counting.is c.min.ensures)

pub returns-in-Idle : goal.returns-in-Idle
returns-in-Idle c = with-note c.args.hour c.args.round _ (elim c.in-Idle.is [ inl e ↦ rw e | inr e ↦ rw e ])
