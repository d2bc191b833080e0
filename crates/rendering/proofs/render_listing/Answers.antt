-- `render_listing` counts, and puts all where there is room.
use native.Mathlib.Omega.{arith}
use Rattle.rendering.proofs.Whole.{listing-fits, listing-short, listing-put}
use Rattle.rendering.proofs.render_listing.Goals as goal

pub put_listing-requires : goal.put_listing-requires
put_listing-requires c =
    listing-fits _ c.requires.0 c.new-middles.ensures c.totals-totals.ensures _ (omega (arith, c.first_length.ensures, c.arcs_length.ensures))
    c.if-out-length.false

pub returns-then-out-length : goal.returns-then-out-length
returns-then-out-length c =
    listing-short _ c.requires.0 c.new-middles.ensures c.totals-totals.ensures _ (omega (arith, c.first_length.ensures, c.arcs_length.ensures))
    c.if-out-length.true

pub returns : goal.returns
returns c =
    listing-put _ c.requires.0 c.new-middles.ensures c.totals-totals.ensures _ (omega (arith, c.first_length.ensures, c.arcs_length.ensures))
    c.if-out-length.false c.put_listing.ensures
