-- `text::put_field` meets its contract.
use native.Mathlib.Omega.{arith}
use lib.ListN.{length-set}
use Rattle.text.proofs.Putting.{few-digits, field_put}
use Rattle.text.proofs.put_field.Goals as goal

pub put_decimal-end-requires : goal.put_decimal-end-requires
put_decimal-end-requires c = omega (arith, few-digits c.args.number (omega arith))

pub bounds-out-end : goal.bounds-out-end
bounds-out-end c = omega (arith, few-digits c.args.number (omega arith))

pub overflow_add-result : goal.overflow_add-result
overflow_add-result c = omega (arith, few-digits c.args.number (omega arith))

pub shape_of-out : goal.shape_of-out
shape_of-out c = simp length-set (omega arith)

pub returns : goal.returns
returns c = (search (field_put, arith), omega (arith, few-digits c.args.number (omega arith)))
