use Rattle.frame.specs.Layout.{whole_length}
use Rattle.frame.proofs.Widths.{ComesTo}
use Rattle.frame.proofs.tables.whole_length.Given as goal

abbrev pub invariant-loop-bit : goal.invariant-loop-bit
invariant-loop-bit l = ComesTo (whole_length l.map) l.size l.rest l.bit
