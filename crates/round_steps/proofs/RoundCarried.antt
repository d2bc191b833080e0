-- What every frame under way carries: it goes along an arc or to a child, with its round's tag and its sender's mark.
use mathlib.Core.List.{List, map}
use mathlib.Core.Path.{◌≡◌, refl, ap}
use mathlib.Core.Logic.{◌≢◌}
use Prim.Native.Nat.{ℕ, suc, ◌≤◌, ◌<◌}
use native.Mathlib.Decide.{ℕ_discrete}
use native.Mathlib.Omega.{arith}
use Rattle.routing.specs.Arcs.{children}
use Rattle.lists.specs.Lists.{All, Insert}
use Rattle.lists.specs.Families.{change}
use Rattle.lists.proofs.ListLaws.{all-member, all-taken, all-image, all_map, tally-insert, count-all, all-count}
use Rattle.lists.proofs.FamilyLaws.{change-off}
use Rattle.round_steps.specs.Arcs.{Graph, Arc, Child, times}
use Rattle.round_steps.specs.RoundSteps.{idle, finished, RoundFrame, start, lvt, update}
use Rattle.round_steps.proofs.RoundFrames.{start_on, lvt_on, both_is}
use Rattle.round_steps.proofs.RoundArcs.{fresh, begun, back, StateOf, ArcStates}

pub data Carried (G : Graph) (st mk : ℕ → ℕ) (tag : ℕ) : RoundFrame → Type 0 where
  a-start : {i j t : ℕ} → Arc G i j → t ≡ tag → Carried G st mk tag (start i j t)
  an-lvt : {i j t v : ℕ} → Arc G i j → st j ≡ finished → v ≡ mk j → t ≡ tag → Carried G st mk tag (lvt j i t v)
  an-update : {i j t v : ℕ} → Child G.last i j → t < tag → Carried G st mk tag (update i j t v)

module _ {G : Graph} {st mk : ℕ → ℕ} {tag i j t : ℕ} where
  pub of-start : Carried G st mk tag (start i j t) → (Arc G i j) × (t ≡ tag)
  of-start (a-start c e) = (c, e)

  pub of-lvt : {v : ℕ} → Carried G st mk tag (lvt j i t v) → (Arc G i j) × (st j ≡ finished) × (v ≡ mk j) × (t ≡ tag)
  of-lvt (an-lvt c s e d) = (c, s, e, d)

  pub of-update : {v : ℕ} → Carried G st mk tag (update i j t v) → (Child G.last i j) × (t < tag)
  of-update (an-update c l) = (c, l)

-- every element of a list stands in it
pub all-times : (l : List ℕ) → All (λ j. 1 ≤ times j l) l
all-times l = count-all ℕ_discrete l (λ j h. h)

-- what is checked of each of `to i`, or of `from j`, holds along each arc from i, or to j
pub all-to : {P : ℕ → Type 0} (G : Graph) (i : ℕ) → All P (G.to i) → (k : ℕ) → Arc G i k → P k
all-to G i h k c = all-count ℕ_discrete k h c

pub all_from : {P : ℕ → Type 0} (G : Graph) (j : ℕ) → All P (G.from j) → (k : ℕ) → Arc G k j → P k
all_from G j h k c = all-count ℕ_discrete k h (omega (arith, G.matched k j))

module _ (G : Graph) (st mk : ℕ → ℕ) (tag : ℕ) where
  -- a change that leaves the finished gateways as they are
  pub carried_on : (st' mk' : ℕ → ℕ) → ((j : ℕ) → st j ≡ finished → (st' j ≡ finished) × (mk' j ≡ mk j))
      → (f : RoundFrame) → Carried G st mk tag f → Carried G st' mk' tag f
  carried_on st' mk' k f (a-start c e) = a-start c e
  carried_on st' mk' k f (an-lvt {j = j} {v = v} c s e d) = an-lvt {v = v} c (k j s).0 (omega (arith, (k j s).1)) d
  carried_on st' mk' k f (an-update c e) = an-update c e

  -- such a change at one gateway that is not finished
  pub change-unfinished : (i s v : ℕ) → st i ≢ finished → (j : ℕ) → st j ≡ finished
      → (change i s st j ≡ finished) × (change i v mk j ≡ mk j)
  change-unfinished i s v n j p =
      let m : i ≢ j = λ e. n (omega (arith, ap st e)) in
      omega (arith, change-off i s st j m, change-off i v mk j m)

  pub starts-carried : (i : ℕ) → All (Carried G st mk tag) (map (λ j. start i j tag) (G.to i))
  starts-carried i = all-image (λ j. start i j tag) (all_map (λ j c. a-start c refl) (all-times (G.to i)))

  pub lvts-carried : (j : ℕ) → st j ≡ finished → All (Carried G st mk tag) (map (λ i. lvt j i tag (mk j)) (G.from j))
  lvts-carried j p =
      all-image (λ i. lvt j i tag (mk j))
      (all_map (λ i c. an-lvt (omega (arith, G.matched i j)) p refl refl) (all-times (G.from j)))

  pub updates-carried : (j t v : ℕ) → t < tag → All (Carried G st mk tag) (map (λ k. update j k t v) (children (suc G.last) j))
  updates-carried j t v l =
      all-image (λ k. update j k t v) (all_map (λ k c. an-update c l) (all-times (children (suc G.last) j)))

  -- at the close no Start and no Lvt is under way
  module _ (ar : ℕ → ℕ → ℕ) (fr : List RoundFrame) (h : ArcStates G st mk ar fr) (z : (a b : ℕ) → Arc G a b → ar a b ≡ 2) where
    closed_on : (f : RoundFrame) (rest : List RoundFrame) → Insert f rest fr → Carried G st mk tag f
        → Carried G (λ i. idle) mk (suc tag) f
    unfolding start_on lvt_on
    closed_on f rest x (a-start {i = i} {j = j} c e) = absurd (go (h i j c))
      where
        go : StateOf G st mk ar fr i j → ⊥
        go (fresh l) = omega (arith, z i j c)
        go (begun l) = omega (arith, z i j c)
        go (back l) = omega (arith, tally-insert (start_on i j) x, both_is i j i j refl refl)
    closed_on f rest x (an-lvt {i = i} {j = j} c s e d) = absurd (go (h i j c))
      where
        go : StateOf G st mk ar fr i j → ⊥
        go (fresh l) = omega (arith, z i j c)
        go (begun l) = omega (arith, z i j c)
        go (back l) = omega (arith, tally-insert (lvt_on i j) x, both_is j i j i refl refl)
    closed_on f rest x (an-update {t = t} c e) = an-update {t = t} c (omega arith)

    pub carried-close : All (Carried G st mk tag) fr → All (Carried G (λ i. idle) mk (suc tag)) fr
    carried-close a = all-member fr (λ f rest x. closed_on f rest x (all-taken x a))
