-- The graphs of one, two and four gateways, for the examples.
use mathlib.Core.List.{List, [], ◌∷◌}
use mathlib.Core.Path.{◌≡◌, refl}
use Prim.Native.Nat.{ℕ, zero, suc, ◌+◌, ◌≤◌, ◌<◌}
use native.Mathlib.Decide.{ℕ_discrete}
use native.Mathlib.Omega.{arith}
use lib.ListN.{length}
use Rattle.lists.specs.Lists.{tally, matches, count}
use Rattle.lists.specs.Families.{sum}
use Rattle.lists.proofs.ListLaws.{matches-other}
use Rattle.round_steps.specs.Arcs.{Graph, times, arc_count, round_messages}

-- one gateway has no arc
unfoldable pub single : Graph
unfolding tally count
single =
    record {
      last = 0;
      to = λ i. [];
      from = λ j. [];
      matched = λ i j. refl;
      once = λ i j. omega arith;
      upward = λ i j c. absurd (omega arith);
      heard = λ j p l. absurd (omega arith);
      told = λ i l. absurd (omega arith);
      few = λ i. omega arith;
    }

-- two gateways: 0 to 1
unfoldable pub to_of_two : ℕ → List ℕ
to_of_two zero = 1 ∷ []
to_of_two (suc i) = []

unfoldable pub from_of_two : ℕ → List ℕ
from_of_two zero = []
from_of_two (suc zero) = 0 ∷ []
from_of_two (suc (suc j)) = []

pub matched_of_two : (i j : ℕ) → times j (to_of_two i) ≡ times i (from_of_two j)
unfolding tally matches count ℕ_discrete to_of_two from_of_two
matched_of_two zero zero = refl
matched_of_two zero (suc zero) = refl
matched_of_two zero (suc (suc j)) = omega (arith, matches-other ℕ_discrete {a = suc (suc j)} {b = 1} (omega arith))
matched_of_two (suc i) zero = refl
matched_of_two (suc i) (suc zero) = omega (arith, matches-other ℕ_discrete {a = suc i} {b = 0} (omega arith))
matched_of_two (suc i) (suc (suc j)) = refl

pub once_of_two : (i j : ℕ) → times j (to_of_two i) ≤ 1
unfolding tally matches count ℕ_discrete to_of_two from_of_two
once_of_two zero zero = omega arith
once_of_two zero (suc zero) = omega arith
once_of_two zero (suc (suc j)) = omega (arith, matches-other ℕ_discrete {a = suc (suc j)} {b = 1} (omega arith))
once_of_two (suc i) j = omega arith

pub upward_of_two : (i j : ℕ) → 1 ≤ times j (to_of_two i) → (i < j) × (j ≤ 1)
unfolding tally matches count ℕ_discrete to_of_two from_of_two
upward_of_two zero zero c = absurd (omega arith)
upward_of_two zero (suc zero) c = omega arith
upward_of_two zero (suc (suc j)) c = absurd (omega (arith, matches-other ℕ_discrete {a = suc (suc j)} {b = 1} (omega arith)))
upward_of_two (suc i) j c = absurd (omega arith)

pub heard_of_two : (j : ℕ) → 0 < j → j ≤ 1 → (i : ℕ) × (1 ≤ times i (from_of_two j))
unfolding tally matches count ℕ_discrete to_of_two from_of_two
heard_of_two zero p l = absurd (omega arith)
heard_of_two (suc zero) p l = (0, omega arith)
heard_of_two (suc (suc j)) p l = absurd (omega arith)

pub told_of_two : (i : ℕ) → i < 1 → (j : ℕ) × (1 ≤ times j (to_of_two i))
unfolding tally matches count ℕ_discrete to_of_two from_of_two
told_of_two zero l = (1, omega arith)
told_of_two (suc i) l = absurd (omega arith)

pub few_of_two : (i : ℕ) → length (from_of_two i) + length (to_of_two i) ≤ 3
unfolding to_of_two from_of_two
few_of_two zero = omega arith
few_of_two (suc zero) = omega arith
few_of_two (suc (suc i)) = omega arith

unfoldable pub two : Graph
two =
    record {
      last = 1;
      to = to_of_two;
      from = from_of_two;
      matched = matched_of_two;
      once = once_of_two;
      upward = upward_of_two;
      heard = heard_of_two;
      told = told_of_two;
      few = few_of_two;
    }

-- four gateways: 0 to 1, 0 to 2, 1 to 3, 2 to 3
unfoldable pub to_of_four : ℕ → List ℕ
to_of_four zero = 1 ∷ 2 ∷ []
to_of_four (suc zero) = 3 ∷ []
to_of_four (suc (suc zero)) = 3 ∷ []
to_of_four (suc (suc (suc i))) = []

unfoldable pub from_of_four : ℕ → List ℕ
from_of_four zero = []
from_of_four (suc zero) = 0 ∷ []
from_of_four (suc (suc zero)) = 0 ∷ []
from_of_four (suc (suc (suc zero))) = 1 ∷ 2 ∷ []
from_of_four (suc (suc (suc (suc j)))) = []

pub matched_of_four : (i j : ℕ) → times j (to_of_four i) ≡ times i (from_of_four j)
unfolding tally matches count ℕ_discrete to_of_four from_of_four
matched_of_four zero zero = refl
matched_of_four zero (suc zero) = refl
matched_of_four zero (suc (suc zero)) = refl
matched_of_four zero (suc (suc (suc zero))) = refl
matched_of_four zero (suc (suc (suc (suc j)))) = omega (
  arith,
  matches-other ℕ_discrete {a = suc (suc (suc (suc j)))} {b = 1} (omega arith),
  matches-other ℕ_discrete {a = suc (suc (suc (suc j)))} {b = 2} (omega arith),
)
matched_of_four (suc zero) zero = refl
matched_of_four (suc zero) (suc zero) = refl
matched_of_four (suc zero) (suc (suc zero)) = refl
matched_of_four (suc zero) (suc (suc (suc zero))) = refl
matched_of_four (suc zero) (suc (suc (suc (suc j)))) = omega (arith, matches-other ℕ_discrete {a = suc (suc (suc (suc j)))} {b = 3} (omega arith))
matched_of_four (suc (suc zero)) zero = refl
matched_of_four (suc (suc zero)) (suc zero) = refl
matched_of_four (suc (suc zero)) (suc (suc zero)) = refl
matched_of_four (suc (suc zero)) (suc (suc (suc zero))) = refl
matched_of_four (suc (suc zero)) (suc (suc (suc (suc j)))) = omega (arith, matches-other ℕ_discrete {a = suc (suc (suc (suc j)))} {b = 3} (omega arith))
matched_of_four (suc (suc (suc i))) zero = refl
matched_of_four (suc (suc (suc i))) (suc zero) = omega (arith, matches-other ℕ_discrete {a = suc (suc (suc i))} {b = 0} (omega arith))
matched_of_four (suc (suc (suc i))) (suc (suc zero)) = omega (arith, matches-other ℕ_discrete {a = suc (suc (suc i))} {b = 0} (omega arith))
matched_of_four (suc (suc (suc i))) (suc (suc (suc zero))) = omega (
  arith,
  matches-other ℕ_discrete {a = suc (suc (suc i))} {b = 1} (omega
      arith),
  matches-other ℕ_discrete {a = suc (suc (suc i))} {b = 2} (omega arith),
)
matched_of_four (suc (suc (suc i))) (suc (suc (suc (suc j)))) = refl

pub once_of_four : (i j : ℕ) → times j (to_of_four i) ≤ 1
unfolding tally matches count ℕ_discrete to_of_four from_of_four
once_of_four zero zero = omega arith
once_of_four zero (suc zero) = omega arith
once_of_four zero (suc (suc zero)) = omega arith
once_of_four zero (suc (suc (suc zero))) = omega arith
once_of_four zero (suc (suc (suc (suc j)))) = omega (
  arith,
  matches-other ℕ_discrete {a = suc (suc (suc (suc j)))} {b = 1} (omega arith),
  matches-other ℕ_discrete {a = suc (suc (suc (suc j)))} {b = 2} (omega arith),
)
once_of_four (suc zero) zero = omega arith
once_of_four (suc zero) (suc zero) = omega arith
once_of_four (suc zero) (suc (suc zero)) = omega arith
once_of_four (suc zero) (suc (suc (suc zero))) = omega arith
once_of_four (suc zero) (suc (suc (suc (suc j)))) = omega (arith, matches-other ℕ_discrete {a = suc (suc (suc (suc j)))} {b = 3} (omega arith))
once_of_four (suc (suc zero)) zero = omega arith
once_of_four (suc (suc zero)) (suc zero) = omega arith
once_of_four (suc (suc zero)) (suc (suc zero)) = omega arith
once_of_four (suc (suc zero)) (suc (suc (suc zero))) = omega arith
once_of_four (suc (suc zero)) (suc (suc (suc (suc j)))) = omega (arith, matches-other ℕ_discrete {a = suc (suc (suc (suc j)))} {b = 3} (omega arith))
once_of_four (suc (suc (suc i))) j = omega arith

pub upward_of_four : (i j : ℕ) → 1 ≤ times j (to_of_four i) → (i < j) × (j ≤ 3)
unfolding tally matches count ℕ_discrete to_of_four from_of_four
upward_of_four zero zero c = absurd (omega arith)
upward_of_four zero (suc zero) c = omega arith
upward_of_four zero (suc (suc zero)) c = omega arith
upward_of_four zero (suc (suc (suc zero))) c = absurd (omega arith)
upward_of_four zero (suc (suc (suc (suc j)))) c = absurd (omega (
  arith,
  matches-other ℕ_discrete {a = suc (suc (suc (suc j)))} {b = 1} (omega
      arith),
  matches-other ℕ_discrete {a = suc (suc (suc (suc j)))} {b = 2} (omega arith),
))
upward_of_four (suc zero) zero c = absurd (omega arith)
upward_of_four (suc zero) (suc zero) c = absurd (omega arith)
upward_of_four (suc zero) (suc (suc zero)) c = absurd (omega arith)
upward_of_four (suc zero) (suc (suc (suc zero))) c = omega arith
upward_of_four (suc zero) (suc (suc (suc (suc j)))) c = absurd (omega (arith, matches-other ℕ_discrete {a = suc (suc (suc (suc j)))} {b = 3} (omega arith)))
upward_of_four (suc (suc zero)) zero c = absurd (omega arith)
upward_of_four (suc (suc zero)) (suc zero) c = absurd (omega arith)
upward_of_four (suc (suc zero)) (suc (suc zero)) c = absurd (omega arith)
upward_of_four (suc (suc zero)) (suc (suc (suc zero))) c = omega arith
upward_of_four (suc (suc zero)) (suc (suc (suc (suc j)))) c = absurd (omega (arith, matches-other ℕ_discrete {a = suc (suc (suc (suc j)))} {b = 3} (omega arith)))
upward_of_four (suc (suc (suc i))) j c = absurd (omega arith)

pub heard_of_four : (j : ℕ) → 0 < j → j ≤ 3 → (i : ℕ) × (1 ≤ times i (from_of_four j))
unfolding tally matches count ℕ_discrete to_of_four from_of_four
heard_of_four zero p l = absurd (omega arith)
heard_of_four (suc zero) p l = (0, omega arith)
heard_of_four (suc (suc zero)) p l = (0, omega arith)
heard_of_four (suc (suc (suc zero))) p l = (1, omega arith)
heard_of_four (suc (suc (suc (suc j)))) p l = absurd (omega arith)

pub told_of_four : (i : ℕ) → i < 3 → (j : ℕ) × (1 ≤ times j (to_of_four i))
unfolding tally matches count ℕ_discrete to_of_four from_of_four
told_of_four zero l = (1, omega arith)
told_of_four (suc zero) l = (3, omega arith)
told_of_four (suc (suc zero)) l = (3, omega arith)
told_of_four (suc (suc (suc i))) l = absurd (omega arith)

pub few_of_four : (i : ℕ) → length (from_of_four i) + length (to_of_four i) ≤ 3
unfolding to_of_four from_of_four
few_of_four zero = omega arith
few_of_four (suc zero) = omega arith
few_of_four (suc (suc zero)) = omega arith
few_of_four (suc (suc (suc zero))) = omega arith
few_of_four (suc (suc (suc (suc i)))) = omega arith

unfoldable pub four : Graph
four =
    record {
      last = 3;
      to = to_of_four;
      from = from_of_four;
      matched = matched_of_four;
      once = once_of_four;
      upward = upward_of_four;
      heard = heard_of_four;
      told = told_of_four;
      few = few_of_four;
    }

-- the messages of a whole round
messages-of-one : round_messages single ≡ 0
unfolding round_messages arc_count sum single
messages-of-one = refl

messages-of-two : round_messages two ≡ 3
unfolding round_messages arc_count sum two to_of_two
messages-of-two = refl

messages-of-four : round_messages four ≡ 11
unfolding round_messages arc_count sum four to_of_four
messages-of-four = refl
