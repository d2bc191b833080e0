-- How many Starts, Lvts and Updates of each kind are under way.
use mathlib.Core.Bool.{cond}
use mathlib.Core.List.{List, map}
use mathlib.Core.Path.{◌≡◌}
use mathlib.Core.Logic.{◌≢◌}
use Prim.Native.Nat.{ℕ}
use native.Mathlib.Decide.{ℕ_discrete}
use native.Mathlib.Omega.{arith}
use lib.Dec.{eqb}
use Rattle.lists.specs.Lists.{tally, matches, count}
use Rattle.lists.proofs.ListLaws.{tally-none, tally-map, tally-agree, matches-equal, matches-other, all-every}
use Rattle.lists.proofs.FamilyLaws.{Same, same, other, same?}
use Rattle.round_steps.specs.Arcs.{times}
use Rattle.round_steps.specs.RoundSteps.{RoundFrame, start, lvt, update}

-- 1 if both are equal, else 0
unfoldable pub both : ℕ → ℕ → ℕ → ℕ → ℕ
both a b i j = cond (eqb i a) (matches ℕ_discrete b j) 0

-- 1 for a Start from a to b
unfoldable pub start_on : ℕ → ℕ → RoundFrame → ℕ
start_on a b (start i j t) = both a b i j
start_on a b (lvt i j t h) = 0
start_on a b (update i j t h) = 0

-- 1 for an Lvt from b to a
unfoldable pub lvt_on : ℕ → ℕ → RoundFrame → ℕ
lvt_on a b (start i j t) = 0
lvt_on a b (lvt j i t h) = both b a j i
lvt_on a b (update i j t h) = 0

-- 1 for an Update of round s to b
unfoldable pub update_to : ℕ → ℕ → RoundFrame → ℕ
update_to s b (start i j t) = 0
update_to s b (lvt i j t h) = 0
update_to s b (update i j t h) = both s b t j

both_first : (a b i j : ℕ) → i ≡ a → both a b i j ≡ matches ℕ_discrete b j
unfolding both
both_first a b i j p = go (same? i a)
  where
    go : Same i a → both a b i j ≡ matches ℕ_discrete b j
    go (same q e) = rw e
    go (other k e) = absurd (k p)

both-not-first : (a b i j : ℕ) → i ≢ a → both a b i j ≡ 0
unfolding both
both-not-first a b i j n = go (same? i a)
  where
    go : Same i a → both a b i j ≡ 0
    go (same q e) = absurd (n q)
    go (other k e) = rw e

pub both_is : (a b i j : ℕ) → i ≡ a → j ≡ b → both a b i j ≡ 1
both_is a b i j p q = omega (arith, both_first a b i j p, matches-equal ℕ_discrete {a = b} {b = j} (omega arith))

pub both-not : (a b i j : ℕ) → (i ≡ a → j ≢ b) → both a b i j ≡ 0
both-not a b i j n = go (same? i a)
  where
    go : Same i a → both a b i j ≡ 0
    go (same p e) = omega (arith, both_first a b i j p, matches-other ℕ_discrete {a = b} {b = j} (λ q. n p (omega arith)))
    go (other k e) = both-not-first a b i j k

-- frames that a list of receivers is sent, each with i first: they count for i alone, each receiver as often as listed
module _ (w : ℕ → ℕ → RoundFrame → ℕ) (f : ℕ → RoundFrame) (i : ℕ) (e : (a b j : ℕ) → w a b (f j) ≡ both a b i j) where
  pub sent-not-first : (a b : ℕ) (l : List ℕ) → i ≢ a → tally (w a b) (map f l) ≡ 0
  sent-not-first a b l n =
      omega (
        arith,
        tally-map (w a b) f l,
        tally-none (λ j. w a b (f j)) (all-every (λ j. omega (arith, e a b j, both-not-first a b i j n)) l),
      )

  pub sent-first : (a b : ℕ) (l : List ℕ) → i ≡ a → tally (w a b) (map f l) ≡ times b l
  unfolding count
  sent-first a b l p =
      omega (
        arith,
        tally-map (w a b) f l,
        tally-agree (λ j. w a b (f j)) (matches ℕ_discrete b) l (λ j. omega (arith, e a b j, both_first a b i j p)),
      )

-- frames of another kind do not count
pub sent-none : (w : RoundFrame → ℕ) (f : ℕ → RoundFrame) (l : List ℕ) → ((j : ℕ) → w (f j) ≡ 0) → tally w (map f l) ≡ 0
sent-none w f l z = omega (arith, tally-map w f l, tally-none (λ j. w (f j)) (all-every z l))
