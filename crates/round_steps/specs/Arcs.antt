-- The arcs that a round goes along, known by their laws alone, and the tree that its result goes down.
use Rattle.std.specs.Prelude.{List, ◌≡◌, ℕ, suc, ◌+◌, ◌*◌, ◌≤◌, ◌<◌, length}
use Rattle.std.proofs.Math.Decide.{ℕ_discrete}
use Rattle.routing.specs.Arcs.{children}
use Rattle.lists.specs.Lists.{count}
use Rattle.lists.specs.Families.{sum}

-- how often n stands in a list
abbrev pub times : ℕ → List ℕ → ℕ
times n l = count ℕ_discrete n l

-- The gateways are 0 to last. A Start goes from i to each of `to i`, an Lvt from j to each of `from j`.
pub record Graph : Type 0 where
  pub last : ℕ
  pub to : ℕ → List ℕ
  pub from : ℕ → List ℕ
  -- j is in `to i` exactly if i is in `from j`
  pub matched : (i j : ℕ) → times j (to i) ≡ times i (from j)
  -- no arc twice
  pub once : (i j : ℕ) → times j (to i) ≤ 1
  -- an arc goes from a lower to a higher gateway
  pub upward : (i j : ℕ) → 1 ≤ times j (to i) → (i < j) × (j ≤ last)
  -- only 0 hears from none
  pub heard : (j : ℕ) → 0 < j → j ≤ last → (i : ℕ) × (1 ≤ times i (from j))
  -- only the last tells none
  pub told : (i : ℕ) → i < last → (j : ℕ) × (1 ≤ times j (to i))
  -- a gateway has at most three arcs
  pub few : (i : ℕ) → length (from i) + length (to i) ≤ 3

-- there is an arc from i to j
abbrev pub Arc : Graph → ℕ → ℕ → Type 0
Arc G i j = 1 ≤ times j (G.to i)

-- the number of arcs
unfoldable pub arc_count : Graph → ℕ
arc_count G = sum (suc G.last) (λ i. length (G.to i))

-- the messages of a whole round: a Start and an Lvt for each arc, an Update for each gateway but 0
unfoldable pub round_messages : Graph → ℕ
round_messages G = 2 * arc_count G + G.last

-- i sends Updates on to j
abbrev pub Child : ℕ → ℕ → ℕ → Type 0
Child last i j = 1 ≤ times j (children (suc last) i)
