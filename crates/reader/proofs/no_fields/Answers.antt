-- `reader::no_fields` meets its contract.
use Rattle.frame.specs.Reasons.{values_of}
use Rattle.buffer.specs.Number.{number_of}
use mathlib.Core.Path.{refl}
use Rattle.reader.proofs.no_fields.Goals as goal

pub returns : goal.returns
unfolding values_of number_of
returns c = refl
