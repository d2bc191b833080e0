-- `put_field` puts a word and then a number.
use native.Mathlib.Omega.{arith}
use mathlib.Core.Path.{refl}
use Rattle.buffer.proofs.Putting.{puts-more}
use Rattle.listing.proofs.put_field.Goals as goal

pub copy-requires : goal.copy-requires
copy-requires c = omega arith

pub put_decimal-requires : goal.put_decimal-requires
put_decimal-requires c = omega (arith, c.copy.auto.bytes)

pub returns : goal.returns
returns c =
    puts-more (omega arith) (record { position = refl; output = c.copy.ensures }) c.put_decimal.ensures
