-- Figure 2's arcs as a graph of the theory.
use mathlib.Core.Path.{◌≡◌, refl, sym, ◌∙◌, ap, subst}
use mathlib.Core.Bool.{Bool, true, false, cond}
use mathlib.Core.List.Memᴰ.{head as here}
use mathlib.Core.List.Memᴰ.{tail as there}
use mathlib.Core.List.{List, [], ◌∷◌}
use Prim.Native.Nat.{ℕ, suc, ◌+◌, ◌*◌, ◌-◌, ◌≤◌, ◌<◌}
use native.Mathlib.Omega.{arith}
use native.Mathlib.Decide.{dec_lt, ℕ_discrete}
use lib.Dec.{ltb, ltb→lt, nltb→le}
use lib.ListN.{length}
use Rattle.lists.specs.Lists.{◌∈◌, Ascending, none, more, matches, count, tally}
use Rattle.lists.specs.Families.{sum}
use Rattle.lists.proofs.FamilyLaws.{sum-agree}
use Rattle.lists.proofs.ListLaws.{matches-equal, matches-other}
use Rattle.routing.specs.Arcs.{from, to, Laws}
use Rattle.routing.specs.Arcs
use Rattle.routing.proofs.Theorems.{laws}
use Rattle.round_steps.specs.Arcs.{Graph, times, arc_count, round_messages}

-- how often a number stands in a list, and that it is an element
pub times-member : (k : ℕ) (l : List ℕ) → 1 ≤ times k l → k ∈ l
unfolding count tally
times-member k [] h = absurd (omega arith)
times-member k (x ∷ l) h = go (ℕ_discrete k x) (times-member k l)
  where
    go : Dec (k ≡ x) → (1 ≤ times k l → k ∈ l) → k ∈ (x ∷ l)
    go (yes e) rest = here e
    go (no e) rest = there (rest (omega (arith, matches-other ℕ_discrete {a = k} {b = x} e)))

pub member-times : (k : ℕ) (l : List ℕ) → k ∈ l → 1 ≤ times k l
unfolding count tally
member-times k (x ∷ l) (here e) = omega (arith, matches-equal ℕ_discrete {a = k} {b = x} e)
member-times k (x ∷ l) (there m) = omega (arith, member-times k l m)
member-times k [] x' = elim x' [ ]

-- in a list where none is beside itself, each stands once
ascending-once : {R : ℕ → ℕ → Type 0} → ((x : ℕ) → R x x → ⊥) → (k : ℕ) {l : List ℕ} → Ascending R l → times k l ≤ 1
unfolding count tally
ascending-once irr k none = omega arith
ascending-once {R} irr k (more {x = x} {xs = xs} f a) = go (ℕ_discrete k x) (dec_lt 0 (times k xs)) (ascending-once irr k a)
  where
    go : Dec (k ≡ x) → Dec (0 < times k xs) → times k xs ≤ 1 → matches ℕ_discrete k x + times k xs ≤ 1
    go (yes e) (yes h) t = absurd (irr k (subst (λ (y : ℕ). R y k) (sym e) (f k (times-member k xs h))))
    go (yes e) (no h) t = omega (arith, matches-equal ℕ_discrete {a = k} {b = x} e)
    go (no e) h t = omega (arith, matches-other ℕ_discrete {a = k} {b = x} e)

-- a number below n, or not, with what the test says
pub data Inside (n i : ℕ) : Type 0 where
  below : i < n → ltb i n ≡ true → Inside n i
  beyond : n ≤ i → ltb i n ≡ false → Inside n i

pub inside? : (n i : ℕ) → Inside n i
inside? n i = go (ltb i n) refl
  where
    go : (b : Bool) → ltb i n ≡ b → Inside n i
    go true e = below (ltb→lt i n (rw e tt)) e
    go false e = beyond (nltb→le i n (rw e tt)) e

module _ (n : ℕ) (some : 1 ≤ n) where
  pub arc_laws : Laws n
  arc_laws = laws n some

  -- Figure 2's lists, empty for numbers that are no gateway
  unfoldable pub tells : ℕ → List ℕ
  tells i = cond (ltb i n) (to n i) []

  unfoldable pub hears : ℕ → List ℕ
  hears i = cond (ltb i n) (from n i) []

  pub tells_is : (i : ℕ) → i < n → tells i ≡ to n i
  unfolding tells
  tells_is i h = go (inside? n i)
    where
      go : Inside n i → cond (ltb i n) (to n i) [] ≡ to n i
      go (below l e) = rw e
      go (beyond l e) = absurd (omega arith)

  pub hears-is : (i : ℕ) → i < n → hears i ≡ from n i
  unfolding hears
  hears-is i h = go (inside? n i)
    where
      go : Inside n i → cond (ltb i n) (from n i) [] ≡ from n i
      go (below l e) = rw e
      go (beyond l e) = absurd (omega arith)

  -- j is told by i
  told-member : (i j : ℕ) → 1 ≤ times j (tells i) → (i < n) × (j ∈ to n i)
  unfolding tells count tally
  told-member i j h = go (inside? n i) h
    where
      go : Inside n i → 1 ≤ times j (cond (ltb i n) (to n i) []) → (i < n) × (j ∈ to n i)
      go (below l e) c = (l, times-member j (to n i) (rw e at c))
      go (beyond l e) c = absurd (omega (arith, (rw e at c)))

  heard-member : (i j : ℕ) → 1 ≤ times i (hears j) → (j < n) × (i ∈ from n j)
  unfolding hears count tally
  heard-member i j h = go (inside? n j) h
    where
      go : Inside n j → 1 ≤ times i (cond (ltb j n) (from n j) []) → (j < n) × (i ∈ from n j)
      go (below l e) c = (l, times-member i (from n j) (rw e at c))
      go (beyond l e) c = absurd (omega (arith, (rw e at c)))

  pub tells-once : (i j : ℕ) → times j (tells i) ≤ 1
  unfolding tells count tally
  tells-once i j = go (inside? n i)
    where
      go : Inside n i → times j (cond (ltb i n) (to n i) []) ≤ 1
      go (below l e) = rw e (ascending-once (λ x h. omega arith) j (arc_laws.once_to i l))
      go (beyond l e) = rw e (omega arith)

  hears-once : (i j : ℕ) → times i (hears j) ≤ 1
  unfolding hears count tally
  hears-once i j = go (inside? n j)
    where
      go : Inside n j → times i (cond (ltb j n) (from n j) []) ≤ 1
      go (below l e) = rw e (ascending-once (λ x h. omega arith) i (arc_laws.once_from j l))
      go (beyond l e) = rw e (omega arith)

  pub upwards : (i j : ℕ) → 1 ≤ times j (tells i) → (i < j) × (j < n)
  upwards i j c = let (l, m) = told-member i j c in arc_laws.upward i j l m

  pub there_and_back : (i j : ℕ) → times j (tells i) ≡ times i (hears j)
  there_and_back i j = go (dec_lt 0 (times j (tells i))) (dec_lt 0 (times i (hears j)))
    where
      back : 1 ≤ times j (tells i) → 1 ≤ times i (hears j)
      back c =
          let (l, m) = told-member i j c in
          let (u, v) = arc_laws.upward i j l m in
          rw (hears-is j v) (member-times i (from n j) ((arc_laws.symmetric i j l v).0 m))

      forth : 1 ≤ times i (hears j) → 1 ≤ times j (tells i)
      forth c =
          let (l, m) = heard-member i j c in
          let u = arc_laws.upward_from i j l m in
          let v : i < n = omega arith in
          rw (tells_is i v) (member-times j (to n i) ((arc_laws.symmetric i j v l).1 m))

      go : Dec (0 < times j (tells i)) → Dec (0 < times i (hears j)) → times j (tells i) ≡ times i (hears j)
      go (yes a) (yes b) = omega (arith, tells-once i j, hears-once i j)
      go (yes a) (no b) = absurd (b (back a))
      go (no a) (yes b) = absurd (a (forth b))
      go (no a) (no b) = omega arith

  -- a list that is not empty has an element
  pub someone : (l : List ℕ) → (l ≡ [] → ⊥) → (k : ℕ) × (k ∈ l)
  someone [] h = absurd (h refl)
  someone (x ∷ l) h = (x, here refl)

  -- a gateway has at most three arcs
  pub few-arcs : (i : ℕ) → length (hears i) + length (tells i) ≤ 3
  unfolding hears tells
  few-arcs i = go (inside? n i)
    where
      go : Inside n i → length (cond (ltb i n) (from n i) []) + length (cond (ltb i n) (to n i) []) ≤ 3
      go (below l e) = rw e (arc_laws.three i l)
      go (beyond l e) = rw e (omega arith)

  abbrev pub figure_graph : Graph
  figure_graph =
      record {
        last = n - 1;
        to = tells;
        from = hears;
        matched = there_and_back;
        once = tells-once;
        upward = λ i j c. let (u, v) = upwards i j c in (u, omega arith);
        heard =
            λ j p l.
            let h : j < n = omega arith in
            let (i, m) = someone (from n j) (λ e. omega (arith, (arc_laws.first j h).0 e)) in
            (i, rw (hears-is j h) (member-times i (from n j) m));
        told =
            λ i l.
            let h : i < n = omega arith in
            let (j, m) = someone (to n i) (λ e. omega (arith, (arc_laws.last i h).0 e)) in
            (j, rw (tells_is i h) (member-times j (to n i) m));
        few = few-arcs;
      }

  pub same-arc-count : arc_count figure_graph ≡ Arcs.arc_count n
  unfolding arc_count Arcs.arc_count
  same-arc-count =
      let all : suc (n - 1) ≡ n = omega arith in
      ap (λ m. sum m (λ i. length (tells i))) all
      ∙ sum-agree n (λ i. length (tells i)) (λ i. length (to n i)) (λ i l. ap length (tells_is i l))

  pub same-round-messages : round_messages figure_graph ≡ 2 * Arcs.arc_count n + (n - 1)
  unfolding round_messages
  same-round-messages = omega (arith, same-arc-count)
