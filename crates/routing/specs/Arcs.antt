-- The arcs of N gateways by Figure 2, their count, the messages of a round, and what holds of them.
use Rattle.std.specs.Prelude.{◌≡◌, ◌↔◌, ◌⊎◌, Bool, true, cond, List, [], ◌∷◌, ◌++◌, map, ℕ, zero, suc, ◌+◌, ◌*◌, ◌-◌, ◌^◌, ◌≤◌, ◌<◌, ltb, length, ℤ, pos, nat_abs, ◌-ℤ◌}
use Rattle.std.specs.Int.Signed.{quot_z}
use Rattle.lists.specs.Families.{sum}
use Rattle.lists.specs.Lists.{◌∈◌, Ascending}
use Rattle.routing.specs.Figure2.{Config, widen, gvtcfg}

-- Figure 2 at gateway i of N.
abbrev pub figure2 : (N i : ℕ) → Config
figure2 N i = gvtcfg (pos N) (pos i)

-- The gateways that gateway i hears from, in Figure 2's order.
unfoldable pub from : (N i : ℕ) → List ℕ
from N i = map nat_abs (figure2 N i).from

-- The gateways that gateway i tells, in Figure 2's order.
unfoldable pub to : (N i : ℕ) → List ℕ
to N i = map nat_abs (figure2 N i).to

-- Figure 2's pen0 after its loop, for at most so many turns.
abbrev pub loop_end : (N turns : ℕ) → ℤ
loop_end N turns = widen turns (quot_z (pos N -ℤ pos 1) (pos 2)) (pos 1)

-- Whether the two trees share the bottom row, by Figure 2; the same at every gateway.
unfoldable pub shared : (N : ℕ) → Bool
shared N = (figure2 N 0).row.shared

-- Figure 2's last values of Mid0 and Mid1, the same at every gateway.
unfoldable pub mid0 : (N : ℕ) → ℕ
mid0 N = nat_abs (figure2 N 0).row.Mid0

unfoldable pub mid1 : (N : ℕ) → ℕ
mid1 N = nat_abs (figure2 N 0).row.Mid1

-- An arc goes from its first gateway to its second.
abbrev pub Arc : Type 0
Arc = ℕ × ℕ

-- The arcs that leave the first n gateways, by from and then to.
unfoldable pub arcs_of_first : (N n : ℕ) → List Arc
arcs_of_first N zero = []
arcs_of_first N (suc i) = arcs_of_first N i ++ map (λ (j : ℕ). (i, j)) (to N i)

-- All arcs of N gateways.
unfoldable pub arcs : ℕ → List Arc
arcs N = arcs_of_first N N

-- The number of arcs.
unfoldable pub arc_count : ℕ → ℕ
arc_count N = sum N (λ (i : ℕ). length (to N i))

-- The gateway k as a list, if it is below N.
abbrev pub if_below : (N k : ℕ) → List ℕ
if_below N k = cond (ltb k N) (k ∷ []) []

-- The gateways that i sends Updates on to: 2i + 1 and 2i + 2 where below N.
unfoldable pub children : (N i : ℕ) → List ℕ
children N i = if_below N (2 * i + 1) ++ if_below N (2 * i + 2)

-- The messages of a round: each gateway sends a Start along its to, an Lvt along its from, and its Updates.
unfoldable pub round_messages : ℕ → ℕ
round_messages N = sum N (λ (i : ℕ). length (to N i) + length (from N i) + length (children N i))

-- By from and then to.
abbrev pub Before : Arc → Arc → Type 0
Before a b = (a.0 < b.0) ⊎ ((a.0 ≡ b.0) × (a.1 < b.1))

-- What holds of the arcs of N gateways.
pub record Laws (N : ℕ) : Type 0 where
  -- N turns are enough for Figure 2's loop: more change nothing
  pub ended : (more : ℕ) → loop_end N (N + more) ≡ loop_end N N
  -- Figure 2 gives no number below 0
  pub natural : (i : ℕ) → i < N → (map pos (from N i) ≡ (figure2 N i).from) × (map pos (to N i) ≡ (figure2 N i).to)
  -- i tells j exactly if j hears from i
  pub symmetric : (i j : ℕ) → i < N → j < N → (j ∈ to N i) ↔ (i ∈ from N j)
  -- each arc goes from a lower to a higher number, below N
  pub upward : (i j : ℕ) → i < N → j ∈ to N i → (i < j) × (j < N)
  pub upward_from : (i j : ℕ) → j < N → i ∈ from N j → i < j
  -- no arc is there twice: to ascends and from descends
  pub once_to : (i : ℕ) → i < N → Ascending ◌<◌ (to N i)
  pub once_from : (i : ℕ) → i < N → Ascending (λ x y. y < x) (from N i)
  -- the list of arcs has all of them, by from and then to
  pub complete : (i j : ℕ) → ((i, j) ∈ arcs N) ↔ ((i < N) × (j ∈ to N i))
  pub ordered : Ascending Before (arcs N)
  -- only 0 hears from none, and only N − 1 tells none
  pub first : (i : ℕ) → i < N → (from N i ≡ []) ↔ (i ≡ 0)
  pub last : (i : ℕ) → i < N → (to N i ≡ []) ↔ (i + 1 ≡ N)
  -- at most three arcs at a gateway
  pub three : (i : ℕ) → i < N → length (from N i) + length (to N i) ≤ 3
  -- the count is that of the list; a round takes an arc once each way and an Update to each gateway but 0, in all fewer than 4N
  pub counted : arc_count N ≡ length (arcs N)
  pub round : round_messages N ≡ 2 * arc_count N + (N - 1)
  pub bounded : round_messages N < 4 * N
  -- the trees share the bottom row exactly for N from 2^(k+1) − 1 to 3 × 2^k − 2
  pub sharing : (i : ℕ) → ((figure2 N i).row.shared ≡ true) ↔ ((k : ℕ) × (2 ^ (k + 1) ≤ N + 1) × (N + 2 ≤ 3 * 2 ^ k))
