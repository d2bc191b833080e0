-- Laws of the arcs and of the tree of Updates: arcs counted at both ends, one parent each, messages of a whole round.
use mathlib.Core.Bool.{Bool, true, false}
use mathlib.Core.List.{List, [], ◌∷◌}
use mathlib.Core.Path.{◌≡◌, refl, subst}
use Prim.Native.Nat.{ℕ, zero, suc, ◌+◌, ◌*◌, ◌-◌, ◌/◌, ◌≤◌, ◌<◌, min}
use native.Mathlib.Decide.{ℕ_discrete}
use native.Mathlib.Omega.{arith}
use lib.Dec.{ltb, ltb→lt, nltb→le}
use lib.ListN.{length, length-append}
use Rattle.routing.specs.Arcs.{if_below, children}
use Rattle.lists.specs.Lists.{All, cons, matches, count, tally}
use Rattle.lists.specs.Families.{change, sum}
use Rattle.lists.proofs.ListLaws.{matches-equal, matches-other, count-append}
use Rattle.lists.proofs.FamilyLaws.{Same, same, other, same?, Changed, at, off, change?, sum-agree, sum-add, sum-swap, sum-change, sum-at-most, sum-constant}
use Rattle.round_steps.specs.Arcs.{Graph, Child, times, arc_count, round_messages}
use Rattle.round_steps.proofs.RoundCarried.{all-times}

-- j is the gateway n of the list, or does not stand in it
data InIfGateway (last n j : ℕ) : Type 0 where
  is-it : (n ≡ j) × (n ≤ last) × (times j (if_below (suc last) n) ≡ 1) → InIfGateway last n j
  is-not-it : times j (if_below (suc last) n) ≡ 0 → InIfGateway last n j

in-if_gateway? : (last n j : ℕ) → InIfGateway last n j
unfolding count tally
in-if_gateway? last n j = go (ltb n (suc last)) refl (same? n j)
  where
    go : (b : Bool) → ltb n (suc last) ≡ b → Same n j → InIfGateway last n j
    go true e (same p d) = is-it (p, omega (arith, ltb→lt n (suc last) (rw e tt)), rw e (omega (arith, matches-equal ℕ_discrete {a = j} {b = n} (omega arith))))
    go true e (other p d) = is-not-it (rw e (omega (arith, matches-other ℕ_discrete {a = j} {b = n} (omega arith))))
    go false e d = is-not-it (rw e)

in-if_gateway : (last n j : ℕ) → n ≡ j → j ≤ last → times j (if_below (suc last) n) ≡ 1
unfolding count tally
in-if_gateway last n j p l = go (ltb n (suc last)) refl
  where
    go : (b : Bool) → ltb n (suc last) ≡ b → times j (if_below (suc last) n) ≡ 1
    go true e = rw e (omega (arith, matches-equal ℕ_discrete {a = j} {b = n} (omega arith)))
    go false e = absurd (omega (arith, nltb→le n (suc last) (rw e tt)))

length-if_gateway : (last n : ℕ) → length (if_below (suc last) n) ≡ min 1 (suc last - n)
length-if_gateway last n = go (ltb n (suc last)) refl
  where
    go : (b : Bool) → ltb n (suc last) ≡ b → length (if_below (suc last) n) ≡ min 1 (suc last - n)
    go true e = rw e (omega (arith, ltb→lt n (suc last) (rw e tt)))
    go false e = rw e (omega (arith, nltb→le n (suc last) (rw e tt)))

-- j is a child of i, or not
pub data ChildOf (last i j : ℕ) : Type 0 where
  child : (2 * i + 1 ≤ j) × (j ≤ 2 * i + 2) × (j ≤ last) × (times j (children (suc last) i) ≡ 1) → ChildOf last i j
  no-child : times j (children (suc last) i) ≡ 0 → ChildOf last i j

pub child? : (last i j : ℕ) → ChildOf last i j
unfolding children
child? last i j = go (in-if_gateway? last (2 * i + 1) j) (in-if_gateway? last (2 * i + 2) j)
  where
    whole : times j (children (suc last) i) ≡ times j (if_below (suc last) (2 * i + 1)) + times j (if_below (suc last) (2 * i + 2))
    whole = count-append ℕ_discrete j (if_below (suc last) (2 * i + 1)) (if_below (suc last) (2 * i + 2))

    go : InIfGateway last (2 * i + 1) j → InIfGateway last (2 * i + 2) j → ChildOf last i j
    go (is-it p) (is-it q) = absurd (omega arith)
    go (is-it p) (is-not-it q) = child (omega (arith, whole))
    go (is-not-it p) (is-it q) = child (omega (arith, whole))
    go (is-not-it p) (is-not-it q) = no-child (omega (arith, whole))

-- a gateway but 0 has a parent before it
parent : (last j : ℕ) → 0 < j → j ≤ last → (i : ℕ) × (i < j) × Child last i j
unfolding children
parent last j p l = (i, omega arith, go (same? (2 * i + 1) j))
  where
    i : ℕ
    i = (j - 1) / 2

    whole : times j (children (suc last) i) ≡ times j (if_below (suc last) (2 * i + 1)) + times j (if_below (suc last) (2 * i + 2))
    whole = count-append ℕ_discrete j (if_below (suc last) (2 * i + 1)) (if_below (suc last) (2 * i + 2))

    go : Same (2 * i + 1) j → Child last i j
    go (same e d) = omega (arith, whole, in-if_gateway last (2 * i + 1) j e l)
    go (other n d) = omega (arith, whole, in-if_gateway last (2 * i + 2) j (omega arith) l)

-- what 0 has, and each child of one that has it, every gateway has
module _ (last : ℕ) (p : ℕ → Type 0) (first : p 0) (onward : (i j : ℕ) → Child last i j → p i → p j) where
  from-parents-to : (n j : ℕ) → j ≤ n → j ≤ last → p j
  from-parents-to zero j m l = subst p (omega arith) first
  from-parents-to (suc n) j m l = go (same? 0 j) (λ i. from-parents-to n i)
    where
      go : Same 0 j → ((i : ℕ) → i ≤ n → i ≤ last → p i) → p j
      go (same e d) ih = subst p e first
      go (other k d) ih =
          let (i, b, c) = parent last j (omega arith) l in
          onward i j c (ih i (omega arith) (omega arith))

  pub from-parents : (j : ℕ) → j ≤ last → p j
  from-parents j l = from-parents-to j j (omega arith) l

-- all gateways but 0 are children of one
children-sum : (last n : ℕ) → sum n (λ i. length (children (suc last) i)) ≡ min (2 * n) last
unfolding sum children
children-sum last zero = omega arith
children-sum last (suc n) =
    omega (
      arith,
      children-sum last n,
      length-append (if_below (suc last) (2 * n + 1)) (if_below (suc last) (2 * n + 2)),
      length-if_gateway last (2 * n + 1),
      length-if_gateway last (2 * n + 2),
    )

pub all-children : (last : ℕ) → sum (suc last) (λ i. length (children (suc last) i)) ≡ last
all-children last = omega (arith, children-sum last (suc last))

-- a list's length, counted by the numbers in it
length-times : (n : ℕ) (l : List ℕ) → ((k : ℕ) → 1 ≤ times k l → k < n) → sum n (λ k. times k l) ≡ length l
unfolding count tally
length-times n [] h = omega (arith, sum-constant n 0)
length-times n (m ∷ l) h =
    omega (arith, sum-add n (λ k. matches ℕ_discrete k m) (λ k. times k l), length-times n l (λ k p. h k (omega arith)), once-m)
  where
    agrees : (k : ℕ) → Changed {A = ℕ} m 1 (λ j. 0) k → matches ℕ_discrete k m ≡ change m 1 (λ j. 0) k
    agrees k (at p e) = omega (arith, matches-equal ℕ_discrete {a = k} {b = m} (omega arith))
    agrees k (off p e) = omega (arith, matches-other ℕ_discrete {a = k} {b = m} (omega arith))

    once-m : sum n (λ k. matches ℕ_discrete k m) ≡ 1
    once-m =
        omega (
          arith,
          sum-agree n (λ k. matches ℕ_discrete k m) (change m 1 (λ j. 0)) (λ k q. agrees k (change? m 1 (λ j. 0) k)),
          sum-change n m 1 (λ j. 0) (λ k x. x) (h m (omega (arith, matches-equal ℕ_discrete {a = m} {b = m} refl))),
          sum-constant n 0,
        )

module _ (G : Graph) where
  -- each arc is counted once at its sender and once at its receiver
  pub arcs-at-receivers : sum (suc G.last) (λ j. length (G.from j)) ≡ arc_count G
  unfolding arc_count
  arcs-at-receivers =
      omega (
        arith,
        sum-agree (suc G.last) (λ i. sum (suc G.last) (λ j. times j (G.to i))) (λ i. length (G.to i))
            (λ i l. length-times (suc G.last) (G.to i) (λ j c. omega (arith, (G.upward i j c).1))),
        sum-agree (suc G.last) (λ j. sum (suc G.last) (λ i. times j (G.to i))) (λ j. length (G.from j)) (λ j l. at-receiver j),
        sum-swap (suc G.last) (suc G.last) (λ i j. times j (G.to i)),
      )
    where
      at-receiver : (j : ℕ) → sum (suc G.last) (λ i. times j (G.to i)) ≡ length (G.from j)
      at-receiver j =
          omega (
            arith,
            sum-agree (suc G.last) (λ i. times j (G.to i)) (λ i. times i (G.from j)) (λ i l. G.matched i j),
            length-times (suc G.last) (G.from j)
                (λ i c. let (u, v) = G.upward i j (omega (arith, G.matched i j)) in omega arith),
          )

  -- gateway 0 hears from none
  pub none-to-0 : length (G.from 0) ≡ 0
  none-to-0 = go (G.from 0) (λ i c. omega (arith, (G.upward i 0 (omega (arith, G.matched i 0))).0))
    where
      go : (l : List ℕ) → ((i : ℕ) → 1 ≤ times i l → ⊥) → length l ≡ 0
      go [] h = refl
      go (m ∷ l) h = absurd (h m (first (all-times (m ∷ l))))
        where
          first : All (λ j. 1 ≤ times j (m ∷ l)) (m ∷ l) → 1 ≤ times m (m ∷ l)
          first (cons a b) = a

  -- a whole round takes fewer than four messages a gateway
  pub round-below : round_messages G < 4 * suc G.last
  unfolding round_messages arc_count
  round-below =
      omega (
        arith,
        sum-at-most (suc G.last) (λ i. length (G.from i) + length (G.to i)) (λ i. 3) (λ i l. G.few i),
        sum-add (suc G.last) (λ i. length (G.from i)) (λ i. length (G.to i)),
        sum-constant (suc G.last) 3,
        arcs-at-receivers,
      )
