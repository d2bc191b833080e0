-- `announce::receivers::bit_of` meets its contract.
use native.Mathlib.Omega.{arith}
use Rattle.announce.proofs.Neighbours.{at, bit-first, bit-second, bit-none}
use Rattle.announce.proofs.receivers.bit_of.Goals as goal

pub returns-then-eq : goal.returns-then-eq
returns-then-eq c = (bit-first _ _ (at c.args.k c.args.among 0 c.get.ensures c.eq.ensures c.if-eq.true), omega arith)

pub returns-then-eq-2 : goal.returns-then-eq-2
returns-then-eq-2 c =
    (bit-second _ _ (at c.args.k c.args.among 0 c.get.ensures c.eq.ensures c.if-eq.false) (at c.args.k c.args.among 1 c.get-else-eq.ensures c.eq-else-eq.ensures c.if-eq-2.true), omega arith)

pub returns-else-eq-2 : goal.returns-else-eq-2
returns-else-eq-2 c =
    (bit-none _ _ (at c.args.k c.args.among 0 c.get.ensures c.eq.ensures c.if-eq.false) (at c.args.k c.args.among 1 c.get-else-eq.ensures c.eq-else-eq.ensures c.if-eq-2.false), omega arith)
