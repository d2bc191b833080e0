-- `announce::receivers::children` meets its contract.
use native.Mathlib.Omega.{arith}
use Rattle.announce.proofs.Neighbours.{no-child, one-child, two-children}
use Rattle.announce.proofs.receivers.children.Goals as goal

pub returns-then-n-left : goal.returns-then-n-left
returns-then-n-left c = search no-child

pub returns-then-n-left-2 : goal.returns-then-n-left-2
returns-then-n-left-2 c = search one-child

pub returns-else-n-left-2 : goal.returns-else-n-left-2
returns-else-n-left-2 c = two-children _ _ (omega arith)
