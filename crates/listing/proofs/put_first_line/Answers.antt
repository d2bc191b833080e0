-- `put_first_line` puts three fields and a line end.
use native.Mathlib.Omega.{arith}
use mathlib.Core.Path.{◌∙◌}
use lib.ListN.{length-set, length-append}
use Rattle.text.specs.Decimal.{decimal}
use Rattle.listing.specs.Output.{nodes_word, arcs_word, round_word}
use Rattle.listing.proofs.Lines.{length-first_line, first-put}
use Rattle.listing.proofs.put_first_line.Goals as goal

pub put_field-nodes_end-requires : goal.put_field-nodes_end-requires
put_field-nodes_end-requires c =
    omega (
      arith,
      length-first_line c.args.n c.args.totals.arcs c.args.totals.messages,
      length-append nodes_word (decimal
          c.args.n),
      length-append arcs_word (decimal c.args.totals.arcs),
      length-append round_word (decimal c.args.totals.messages),
    )

pub put_field-arcs_end-requires : goal.put_field-arcs_end-requires
put_field-arcs_end-requires c =
    omega (
      arith,
      length-first_line c.args.n c.args.totals.arcs c.args.totals.messages,
      length-append nodes_word (decimal
          c.args.n),
      length-append arcs_word (decimal c.args.totals.arcs),
      length-append round_word (decimal c.args.totals.messages),
      c.put_field-nodes_end.ensures.position,
      c.put_field-nodes_end.auto.out,
    )

pub put_field-end-requires : goal.put_field-end-requires
put_field-end-requires c =
    omega (
      arith,
      length-first_line c.args.n c.args.totals.arcs c.args.totals.messages,
      length-append nodes_word (decimal
          c.args.n),
      length-append arcs_word (decimal c.args.totals.arcs),
      length-append round_word (decimal c.args.totals.messages),
      c.put_field-nodes_end.ensures.position,
      c.put_field-nodes_end.auto.out,
      c.put_field-arcs_end.ensures.position,
      c.put_field-arcs_end.auto.out,
    )

pub bounds-out-end : goal.bounds-out-end
bounds-out-end c =
    omega (
      arith,
      length-first_line c.args.n c.args.totals.arcs c.args.totals.messages,
      length-append nodes_word (decimal
          c.args.n),
      length-append arcs_word (decimal c.args.totals.arcs),
      length-append round_word (decimal c.args.totals.messages),
      c.put_field-nodes_end.ensures.position,
      c.put_field-nodes_end.auto.out,
      c.put_field-arcs_end.ensures.position,
      c.put_field-arcs_end.auto.out,
      c.put_field-end.ensures.position,
      c.put_field-end.auto.out,
    )

pub overflow_add-result : goal.overflow_add-result
overflow_add-result c =
    omega (
      arith,
      length-first_line c.args.n c.args.totals.arcs c.args.totals.messages,
      length-append nodes_word (decimal
          c.args.n),
      length-append arcs_word (decimal c.args.totals.arcs),
      length-append round_word (decimal c.args.totals.messages),
      c.put_field-nodes_end.ensures.position,
      c.put_field-arcs_end.ensures.position,
      c.put_field-end.ensures.position,
    )

pub shape_of-out : goal.shape_of-out
shape_of-out c =
    simp length-set (c.put_field-end.auto.out ∙ c.put_field-arcs_end.auto.out ∙ c.put_field-nodes_end.auto.out)

pub returns : goal.returns
returns c =
    first-put _ _ _ _ c.requires c.put_field-nodes_end.ensures c.put_field-arcs_end.ensures
    c.put_field-end.ensures
