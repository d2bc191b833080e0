-- `writer::put_head` meets its contract.
use borrow.Author.Rules.{rules}
use lib.ListN.{length-set}
use native.Mathlib.Omega.{arith}
use Rattle.frame.proofs.Output.{head-put}
use Rattle.writer.proofs.put_head.Goals as goal

pub bounds-out-kind_at : goal.bounds-out-kind_at
bounds-out-kind_at c = simp length-set (omega arith)

pub bounds-out-from_at : goal.bounds-out-from_at
bounds-out-from_at c = simp length-set (omega arith)

pub bounds-out-to_at : goal.bounds-out-to_at
bounds-out-to_at c = simp length-set (omega arith)

pub returns : goal.returns
returns c =
    let args = c.args in
    head-put args.map args.message args.at args.out.now (search rules) c.kind_number.ensures (search rules)
    (search rules) (search rules) (omega arith) (omega arith) (omega arith)
