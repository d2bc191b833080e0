-- What the tests of the lead times' range come to, one after the other.
use mathlib.Core.Path.{◌≡◌, sym, ◌∙◌, ap}
use mathlib.Core.Bool.{Bool, true, false, not, ◌&&◌}
use Prim.Native.Nat.{ℕ, ◌<◌, ◌≤◌}
use lib.Dec.{leb}
use borrow.Author.Tests.{lt-leb, le-leb, not-true, not-false}
use Rattle.model.specs.Doing.{hours_in_range, lead_times_valid}
use Rattle.model.specs.declared.LeadTimes.{LeadTimes}

-- the tests of one lead time
module _ (hours : ℕ) where
  pub too_few : hours < 1 → false ≡ hours_in_range hours
  too_few h = ap (λ b. b && leb hours 1000000) (sym (lt-leb 1 hours h))

  pub most-decides : {r : Bool} → 1 ≤ hours → r ≡ leb hours 1000000 → r ≡ hours_in_range hours
  most-decides h e = e ∙ ap (λ b. b && leb hours 1000000) (sym (le-leb 1 hours h))

-- and of all three
module _ (t : LeadTimes) {a : Bool} (request : a ≡ hours_in_range t.request) where
  pub request-out : not a ≡ true → false ≡ lead_times_valid t
  unfolding lead_times_valid
  request-out h = rw (← request, not-true a h)

  module _ (first : not a ≡ false) {b : Bool} (delivery : b ≡ hours_in_range t.delivery) where
    pub delivery-out : not b ≡ true → false ≡ lead_times_valid t
    unfolding lead_times_valid
    delivery-out h = rw (← request, not-false a first, ← delivery, not-true b h)

    pub life-decides : not b ≡ false → {r : Bool} → r ≡ hours_in_range t.life → r ≡ lead_times_valid t
    unfolding lead_times_valid
    life-decides second e = e ∙ rw (← request, not-false a first, ← delivery, not-false b second)
