-- `report::put_route` meets its contract.
use native.Mathlib.Omega.{arith}
use Rattle.report.proofs.Fields.{route-put}
use Rattle.report.proofs.put_route.Goals as goal

pub returns : goal.returns
returns c = (
  route-put _ _ c.args.message c.requires c.kind_number.ensures c.put_field-behind_kind.ensures
      c.put_field-behind_from.ensures c.put_field-behind_to.ensures c.put_field.ensures,
  omega (
    arith,
    c.put_field-behind_kind.ensures,
    c.put_field-behind_from.ensures,
    c.put_field-behind_to.ensures,
    c.put_field.ensures,
  ),
)
