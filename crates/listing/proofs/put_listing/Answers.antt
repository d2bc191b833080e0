-- `put_listing` puts the first line and then the lines of the arcs.
use native.Mathlib.Omega.{arith}
use mathlib.Core.Path.{refl}
use Rattle.buffer.proofs.Putting.{puts-more}
use Rattle.listing.proofs.put_listing.Goals as goal

pub returns : goal.returns
returns c =
    (puts-more (omega arith) c.put_first_line-next.ensures (record {
      position = refl;
      output = c.put_arcs.ensures;
    })).output
