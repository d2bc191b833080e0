-- `put_decimal` puts the decimal text: what it calls itself for, and one digit more. The measure is the number.
use native.Mathlib.Omega.{arith}
use Rattle.text.proofs.Putting.{length-small, length_more, put_small, put-more}
use Rattle.text.proofs.+put_decimal.Goals as goal
use Rattle.text.proofs.+put_decimal.Goals.{then-n-lt10, else-n-lt10}

pub put_decimal-last-requires : goal.put_decimal-last-requires
put_decimal-last-requires t c = (omega arith, omega (arith, length_more c.args.n (omega arith)))

pub bounds-out-last : goal.bounds-out-last
bounds-out-last t c = elim c.if-n-lt10.branch [
  | then-n-lt10 w ↦ omega (arith, length-small c.args.n w.if-n-lt10.true)
  | else-n-lt10 w ↦ omega (arith, length_more c.args.n w.if-n-lt10.false, w.put_decimal-last.ensures.position)
]

pub overflow_add-result : goal.overflow_add-result
overflow_add-result t c = elim c.if-n-lt10.branch [
  | then-n-lt10 w ↦ omega (arith, length-small c.args.n w.if-n-lt10.true)
  | else-n-lt10 w ↦ omega (arith, length_more c.args.n w.if-n-lt10.false, w.put_decimal-last.ensures.position)
]

pub returns : goal.returns
returns t c = elim c.if-n-lt10.branch [
  | then-n-lt10 w ↦ rw (w.out-is, w.last-is) (put_small _ _ _ c.requires w.if-n-lt10.true)
  | else-n-lt10 w ↦ rw (w.out-is, w.last-is) (put-more _ _ _ c.requires w.if-n-lt10.false w.put_decimal-last.ensures)
]
