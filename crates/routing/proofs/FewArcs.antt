-- Figure 2 gives a gateway at most two to hear from and at most two to tell.
use Prim.Native.Nat.{ℕ, ◌≤◌, ◌<◌}
use mathlib.Core.Path.{◌≡◌, refl}
use mathlib.Core.List.{List, [], ◌∷◌}
use native.Mathlib.Omega.{arith}
use lib.ListN.{length, get_or}
use Rattle.routing.specs.AtMostTwo.{listed, at_most_two}
use Rattle.routing.specs.Arcs.{from, to, mid0, mid1}
use Rattle.routing.proofs.Shape.{From, To, from_some, to_some, Split}
use Rattle.routing.proofs.Reading.{from_is, to_is, mids}

-- at most two gateways below N
pub record TwoBelow (N : ℕ) (l : List ℕ) : Type 0 where
  pub two : length l ≤ 2
  pub first : get_or l 0 0 < N
  pub second : get_or l 1 0 < N

from-two : {N A B i : ℕ} {l : List ℕ} → i < N → From N A B i l → TwoBelow N l
from-two h (From.root z) = record { two = omega arith; first = omega arith; second = omega arith }
from-two h (From.parent p a) = record { two = omega arith; first = omega arith; second = omega arith }
from-two h (From.two p a b) = record { two = omega arith; first = omega arith; second = omega arith }
from-two h (From.one p a b) = record { two = omega arith; first = omega arith; second = omega arith }
from-two h (From.across p a b) = record { two = omega arith; first = omega arith; second = omega arith }

to-two : {N A B i : ℕ} {l : List ℕ} → Split N A B → To N A B i l → TwoBelow N l
to-two s (To.root z) = record { two = omega arith; first = omega arith; second = omega arith }
to-two s (To.parent p b) = record { two = omega arith; first = omega arith; second = omega arith }
to-two s (To.two p b a) = record { two = omega arith; first = omega arith; second = omega arith }
to-two s (To.one p b a) = record { two = omega arith; first = omega arith; second = omega arith }
to-two s (To.across p b a) = record { two = omega arith; first = omega arith; second = omega arith }

pub from-few : (N i : ℕ) → i < N → TwoBelow N (from N i)
from-few N i h =
    let some = from_some N (mid0 N) (mid1 N) i h in
    rw (from_is N i h some.1) (from-two h some.1)

pub to-few : (N i : ℕ) → i < N → TwoBelow N (to N i)
to-few N i h =
    let some = to_some N (mid0 N) (mid1 N) i h in
    rw (to_is N i h some.1) (to-two (mids N i (omega arith)).split some.1)

-- a list of at most two by its first two
pub first-two-of : (l : List ℕ) → length l ≤ 2 → listed (at_most_two l) ≡ l
first-two-of [] h = refl
first-two-of (x ∷ []) h = refl
first-two-of (x ∷ y ∷ []) h = refl
first-two-of (x ∷ y ∷ z ∷ l) h = absurd (omega arith)
