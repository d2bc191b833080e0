-- `report::put_content` meets its contract.
use native.Mathlib.Omega.{arith}
use Rattle.report.proofs.Fields.{content-put}
use Rattle.report.proofs.put_content.Goals as goal

pub returns : goal.returns
returns c = (
  content-put _ _ c.args.frame c.requires c.origin_of.ensures c.put_field-behind_origin.ensures
      c.quantity_of.ensures c.put_field-behind_quantity.ensures c.sense_number.ensures
      c.put_field.ensures,
  omega (
    arith,
    c.put_field-behind_origin.ensures,
    c.put_field-behind_quantity.ensures,
    c.put_field.ensures,
  ),
)
