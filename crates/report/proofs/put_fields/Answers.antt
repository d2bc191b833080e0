-- `report::put_fields` meets its contract.
use native.Mathlib.Omega.{arith}
use Rattle.report.proofs.Fields.{fields-put}
use Rattle.report.proofs.put_fields.Goals as goal

pub returns : goal.returns
returns c = (
  fields-put _ _ c.args.frame c.requires c.put_route-behind_route.ensures c.put_content.ensures,
  omega (arith, c.put_route-behind_route.ensures, c.put_content.ensures),
)
