-- What is known of lead times that are in their range: each is at least 1 and at most 1,000,000.
use mathlib.Core.Path.{◌≡◌}
use mathlib.Core.Bool.{true}
use Prim.Native.Nat.{◌≤◌}
use borrow.Author.Tests.{leb-true}
use Rattle.lists.proofs.BoolLaws.{and_left, and_right}
use Rattle.model.specs.Doing.{lead_times_valid}
use Rattle.model.specs.Claims.{AtLeastOne}
use Rattle.model.specs.declared.LeadTimes.{LeadTimes}

-- each of the hours is at most 1,000,000
pub record AtMost (t : LeadTimes) : Type 0 where
  pub request : t.request ≤ 1000000
  pub delivery : t.delivery ≤ 1000000
  pub life : t.life ≤ 1000000

module _ (t : LeadTimes) (valid : lead_times_valid t ≡ true) where
  pub at_least_one : AtLeastOne t
  unfolding lead_times_valid
  at_least_one = record {
    request = leb-true 1 t.request (search (and_left, and_right) depth 9);
    delivery = leb-true 1 t.delivery (search (and_left, and_right) depth 9);
    life = leb-true 1 t.life (search (and_left, and_right) depth 9);
  }

  pub at_most : AtMost t
  unfolding lead_times_valid
  at_most = record {
    request = leb-true t.request 1000000 (search (and_left, and_right) depth 9);
    delivery = leb-true t.delivery 1000000 (search (and_left, and_right) depth 9);
    life = leb-true t.life 1000000 (search (and_left, and_right) depth 9);
  }
