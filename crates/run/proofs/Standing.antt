-- Where the gateways stand in a round: what their memories keep of it, and what the theory says of the same gateways.
use mathlib.Core.Path.{◌≡◌, refl, sym, ◌∙◌, ap, subst}
use mathlib.Core.Logic.{◌≢◌}
use mathlib.Core.Bool.{Bool}
use Prim.Native.Nat.{ℕ, suc, ◌+◌, ◌≤◌, ◌<◌, min}
use native.Mathlib.Omega.{arith}
use lib.Dec.{eqb}
use Rattle.lists.specs.Families.{change, put}
use Rattle.lists.proofs.FamilyLaws.{Changed, at, off, change?, change-at, change-off, Put, put?, put-at, put-off}
use Rattle.memory.specs.declared.Round.{Round}
use Rattle.memory.specs.declared.Phase.{Phase}
use Rattle.memory.specs.declared.Phase.TheVariants.{Idle, Counting, Stopped}
use Rattle.gateway.specs.Rounds.{bit_of}
use Rattle.gateway.specs.Effects.{lowered_in}
use Rattle.round_steps.specs.Arcs.{Graph, Arc}
use Rattle.round_steps.specs.RoundSteps.{idle, counting, stopped, finished, noted}
use Rattle.run.proofs.ArrivalBits.{bits_of, how_many, alike, one_more, none_in}

-- the Starts that have come to i, and the Lvts
module _ (G : Graph) (ar : ℕ → ℕ → ℕ) (i : ℕ) where
  abbrev pub start_in : ℕ → Bool
  start_in k = eqb (ar k i) 1

  abbrev pub lvt_in : ℕ → Bool
  lvt_in k = eqb (ar i k) 2

  abbrev pub start_bits : ℕ
  start_bits = bits_of start_in (G.from i)

  abbrev pub lvt_bits : ℕ
  lvt_bits = bits_of lvt_in (G.to i)

-- a first Start along an arc leaves the Lvts that have come
pub lvts-after-start : (G : Graph) (ar : ℕ → ℕ → ℕ) (i j : ℕ) → ar i j ≡ 0 → (k x : ℕ) → lvt_in G (put i j 1 ar) k x ≡ lvt_in G ar k x
lvts-after-start G ar i j z k x = go (put? i j 1 ar k x)
  where
    go : Put i j 1 ar k x → lvt_in G (put i j 1 ar) k x ≡ lvt_in G ar k x
    go (at p q e) = rw (e, ← p, ← q, z) refl
    go (off n e) = rw e refl

-- an Lvt to i leaves those that have come to others, and adds one
pub lvts-elsewhere : (G : Graph) (ar : ℕ → ℕ → ℕ) (i j k : ℕ) → i ≢ k → (x : ℕ) → lvt_in G (put i j 2 ar) k x ≡ lvt_in G ar k x
lvts-elsewhere G ar i j k n x = ap (λ (y : ℕ). eqb y 2) (put-off i j 2 ar k x (λ p. absurd (n p)))

pub lvts-here : (G : Graph) (ar : ℕ → ℕ → ℕ) (i j : ℕ) → Arc G i j → ar i j ≡ 1
    → (lvt_bits G ar i + bit_of j (G.to i) ≡ lvt_bits G (put i j 2 ar) i)
    × (suc (how_many (lvt_in G ar i) (G.to i)) ≡ how_many (lvt_in G (put i j 2 ar) i) (G.to i))
lvts-here G ar i j c z =
    one_more (lvt_in G ar i) (lvt_in G (put i j 2 ar) i) j (ap (λ (y : ℕ). eqb y 2) z)
    (ap (λ (y : ℕ). eqb y 2) (put-at i j 2 ar i j refl refl))
    (λ x n. ap (λ (y : ℕ). eqb y 2) (sym (put-off i j 2 ar i x (λ p. n))))
    (G.to i) (omega (arith, G.once i j))

-- Gateway i's phase, arrivals and note. In memory one that has sent its Lvts and one that has not begun are the same.
pub data Standing (G : Graph) (st mk : ℕ → ℕ) (ar : ℕ → ℕ → ℕ) (i : ℕ) (phase : Phase) (arrived note : ℕ) : Type 0 where
  is-idle : phase ≡ Idle → st i ≡ idle → arrived ≡ start_bits G ar i → Standing G st mk ar i phase arrived note
  is-finished : phase ≡ Idle → st i ≡ finished → arrived ≡ 0 → Standing G st mk ar i phase arrived note
  is-counting : phase ≡ Counting → st i ≡ counting → arrived ≡ lvt_bits G ar i → note ≡ mk i → Standing G st mk ar i phase arrived note
  is-stopped : phase ≡ Stopped → st i ≡ stopped → arrived ≡ lvt_bits G ar i → note ≡ mk i → Standing G st mk ar i phase arrived note

abbrev pub StandingAt : Graph → (ℕ → ℕ) → (ℕ → ℕ) → (ℕ → ℕ → ℕ) → ℕ → Round → Type 0
StandingAt G st mk ar i r = Standing G st mk ar i r.phase r.arrived r.note

-- all gateways
abbrev pub Standings : Graph → (ℕ → ℕ) → (ℕ → ℕ) → (ℕ → ℕ → ℕ) → (ℕ → Round) → Type 0
Standings G st mk ar rs = (i : ℕ) → i ≤ G.last → StandingAt G st mk ar i (rs i)

-- the round of a phase, with what arrived and the note
abbrev pub round_of : Phase → ℕ → ℕ → Round
round_of p a v = record { phase = p; arrived = a; note = v }

module _ {G : Graph} {st mk st' mk' : ℕ → ℕ} {ar ar' : ℕ → ℕ → ℕ} where
  -- a gateway of which a step changes nothing that its memory keeps
  unchanged : {i : ℕ} {p : Phase} {a v : ℕ} → Standing G st mk ar i p a v → st' i ≡ st i → mk' i ≡ mk i
      → (st i ≡ idle → start_bits G ar' i ≡ start_bits G ar i) → (st i ≢ idle → lvt_bits G ar' i ≡ lvt_bits G ar i)
      → Standing G st' mk' ar' i p a v
  unchanged (is-idle e s b) d m x y = is-idle e (d ∙ s) (b ∙ sym (x s))
  unchanged (is-finished e s b) d m x y = is-finished e (d ∙ s) b
  unchanged (is-counting e s b n) d m x y = is-counting e (d ∙ s) (b ∙ sym (y (omega arith))) (n ∙ sym m)
  unchanged (is-stopped e s b n) d m x y = is-stopped e (d ∙ s) (b ∙ sym (y (omega arith))) (n ∙ sym m)

module _ (G : Graph) (st mk : ℕ → ℕ) (ar : ℕ → ℕ → ℕ) (rs : ℕ → Round) (h : Standings G st mk ar rs) where
  -- what a step at i comes to: i is in a new round, the others are where they were
  at_one : (st' mk' : ℕ → ℕ) (ar' : ℕ → ℕ → ℕ) (i : ℕ) (r : Round) → StandingAt G st' mk' ar' i r
      → ((k : ℕ) → k ≤ G.last → i ≢ k → StandingAt G st' mk' ar' k (rs k)) → Standings G st' mk' ar' (change i r rs)
  at_one st' mk' ar' i r new old k l = go (change? i r rs k)
    where
      go : Changed i r rs k → StandingAt G st' mk' ar' k (change i r rs k)
      go (at p e) = rw e (subst (λ (j : ℕ). StandingAt G st' mk' ar' j r) p new)
      go (off n e) = rw e (old k l n)

  -- gateway i begins
  pub begin-standings : (i v : ℕ) → ((k : ℕ) → Arc G i k → ar i k ≡ 0)
      → Standings G (change i counting st) (change i v mk) ar (change i (round_of Counting 0 v) rs)
  begin-standings i v fresh =
      at_one (change i counting st) (change i v mk) ar i (round_of Counting 0 v)
      (is-counting refl (change-at i counting st i refl)
      (sym (none_in (lvt_in G ar i) (G.to i) (λ k c. ap (λ (x : ℕ). eqb x 2) (fresh k c))).0) (sym (change-at i v mk i refl)))
      (λ k l n. unchanged (h k l) (change-off i counting st k n) (change-off i v mk k n) (λ s. refl) (λ s. refl))

  -- gateway i stops
  pub stop-standings : (i v : ℕ) → i ≤ G.last → st i ≡ counting
      → Standings G (change i stopped st) (change i (min (mk i) v) mk) ar (change i (round_of Stopped (rs i).arrived (min (rs i).note v)) rs)
  stop-standings i v l s =
      at_one (change i stopped st) (change i (min (mk i) v) mk) ar i (round_of Stopped (rs i).arrived (min (rs i).note v))
      (go (h i l))
      (λ k m n. unchanged (h k m) (change-off i stopped st k n) (change-off i (min (mk i) v) mk k n) (λ s. refl) (λ s. refl))
    where
      go : StandingAt G st mk ar i (rs i)
          → Standing G (change i stopped st) (change i (min (mk i) v) mk) ar i Stopped (rs i).arrived (min (rs i).note v)
      go (is-idle e d b) = absurd (omega arith)
      go (is-finished e d b) = absurd (omega arith)
      go (is-counting e d b n) =
          is-stopped refl (change-at i stopped st i refl) b (omega (arith, change-at i (min (mk i) v) mk i refl))
      go (is-stopped e d b n) = absurd (omega arith)

  -- gateway j sends its Lvts
  pub finish-standings : (j v : ℕ) → Standings G (change j finished st) mk ar (change j (round_of Idle 0 v) rs)
  finish-standings j v =
      at_one (change j finished st) mk ar j (round_of Idle 0 v)
      (is-finished refl (change-at j finished st j refl) refl)
      (λ k m n. unchanged (h k m) (change-off j finished st k n) refl (λ s. refl) (λ s. refl))

  -- the round is closed: every gateway but 0 has sent its Lvts
  pub close-standings : (v : ℕ) → ((j : ℕ) → 0 < j → j ≤ G.last → st j ≡ finished)
      → Standings G (λ i. idle) mk (λ i j. 0) (change 0 (round_of Idle 0 v) rs)
  close-standings v all =
      at_one (λ i. idle) mk (λ i j. 0) 0 (round_of Idle 0 v) (is-idle refl refl (sym (no-starts 0)))
      (λ k m n. go k (all k (omega arith) m) (h k m))
    where
      no-starts : (k : ℕ) → start_bits G (λ i j. 0) k ≡ 0
      no-starts k = (none_in (start_in G (λ i j. 0) k) (G.from k) (λ x c. refl)).0

      go : (k : ℕ) → st k ≡ finished → StandingAt G st mk ar k (rs k) → StandingAt G (λ i. idle) mk (λ i j. 0) k (rs k)
      go k f (is-idle e d b) = absurd (omega arith)
      go k f (is-finished e d b) = is-idle e refl (omega (arith, no-starts k))
      go k f (is-counting e d b n) = absurd (omega arith)
      go k f (is-stopped e d b n) = absurd (omega arith)

  -- gateway i sends a message or cancel of hour t
  pub lower-standings : (i t : ℕ) → i ≤ G.last
      → Standings G st (change i (noted (st i) (mk i) t) mk) ar
      (change i (round_of (rs i).phase (rs i).arrived (lowered_in (rs i).phase (rs i).note t)) rs)
  unfolding noted
  lower-standings i t l =
      at_one st (change i (noted (st i) (mk i) t) mk) ar i
      (round_of (rs i).phase (rs i).arrived (lowered_in (rs i).phase (rs i).note t))
      (go (h i l))
      (λ k m n. unchanged (h k m) refl (change-off i (noted (st i) (mk i) t) mk k n) (λ s. refl) (λ s. refl))
    where
      at_i : change i (noted (st i) (mk i) t) mk i ≡ noted (st i) (mk i) t
      at_i = change-at i (noted (st i) (mk i) t) mk i refl

      go : StandingAt G st mk ar i (rs i)
          → Standing G st (change i (noted (st i) (mk i) t) mk) ar i (rs i).phase (rs i).arrived (lowered_in (rs i).phase (rs i).note t)
      go (is-idle e d b) = is-idle e d b
      go (is-finished e d b) = is-finished e d b
      go (is-counting e d b n) = is-counting e d b (rw (e, n, at_i, d) refl)
      go (is-stopped e d b n) = is-stopped e d b (rw (e, n, at_i, d) refl)

  -- gateway j takes the Start from i, which is the first along this arc
  pub hear-standings : (i j : ℕ) → j ≤ G.last → Arc G i j → st j ≡ idle → ar i j ≡ 0
      → Standings G st mk (put i j 1 ar) (change j (round_of Idle ((rs j).arrived + bit_of i (G.from j)) (rs j).note) rs)
  hear-standings i j l c s z =
      at_one st mk (put i j 1 ar) j (round_of Idle ((rs j).arrived + bit_of i (G.from j)) (rs j).note)
      (go (h j l))
      (λ k m n. unchanged (h k m) refl refl (λ s. elsewhere k n) (λ s. as_before k))
    where
      one : (x : ℕ) → i ≢ x → start_in G ar j x ≡ start_in G (put i j 1 ar) j x
      one x n = ap (λ (y : ℕ). eqb y 1) (sym (put-off i j 1 ar x j (λ p. absurd (n p))))

      go : StandingAt G st mk ar j (rs j) → Standing G st mk (put i j 1 ar) j Idle ((rs j).arrived + bit_of i (G.from j)) (rs j).note
      go (is-idle e d b) =
          is-idle refl d
          (omega (
            arith,
            (one_more (start_in G ar j) (start_in G (put i j 1 ar) j) i (ap (λ (y : ℕ). eqb y 1) z)
                (ap (λ (y : ℕ). eqb y 1) (put-at i j 1 ar i j refl refl)) one (G.from j) (omega (arith, G.matched i j, G.once i j))).0,
          ))
      go (is-finished e d b) = absurd (omega arith)
      go (is-counting e d b n) = absurd (omega arith)
      go (is-stopped e d b n) = absurd (omega arith)

      elsewhere : (k : ℕ) → j ≢ k → start_bits G (put i j 1 ar) k ≡ start_bits G ar k
      elsewhere k n =
          (alike (start_in G (put i j 1 ar) k) (start_in G ar k) (G.from k)
          (λ x m. ap (λ (y : ℕ). eqb y 1) (put-off i j 1 ar x k (λ p. n)))).0

      as_before : (k : ℕ) → lvt_bits G (put i j 1 ar) k ≡ lvt_bits G ar k
      as_before k =
          (alike (lvt_in G (put i j 1 ar) k) (lvt_in G ar k) (G.to k) (λ x m. lvts-after-start G ar i j z k x)).0

  -- gateway i, which has stopped, takes the Lvt of hour t from j, which has finished; it is the first along this arc
  pub lvt-standings : (j i t : ℕ) → i ≤ G.last → Arc G i j → st i ≡ stopped → st j ≡ finished → ar i j ≡ 1
      → Standings G st (change i (min (mk i) t) mk) (put i j 2 ar)
      (change i (round_of Stopped ((rs i).arrived + bit_of j (G.to i)) (min (rs i).note t)) rs)
  lvt-standings j i t l c s f z =
      at_one st (change i (min (mk i) t) mk) (put i j 2 ar) i
      (round_of Stopped ((rs i).arrived + bit_of j (G.to i)) (min (rs i).note t))
      (go (h i l))
      (λ k m n. unchanged (h k m) refl (change-off i (min (mk i) t) mk k n) (λ s. elsewhere k (λ e. omega (arith, ap st e))) (λ s. as_before k n))
    where
      go : StandingAt G st mk ar i (rs i)
          → Standing G st (change i (min (mk i) t) mk) (put i j 2 ar) i Stopped ((rs i).arrived + bit_of j (G.to i)) (min (rs i).note t)
      go (is-idle e d b) = absurd (omega arith)
      go (is-finished e d b) = absurd (omega arith)
      go (is-counting e d b n) = absurd (omega arith)
      go (is-stopped e d b n) =
          is-stopped refl d (omega (arith, (lvts-here G ar i j c z).0)) (omega (arith, change-at i (min (mk i) t) mk i refl))

      elsewhere : (k : ℕ) → j ≢ k → start_bits G (put i j 2 ar) k ≡ start_bits G ar k
      elsewhere k n =
          (alike (start_in G (put i j 2 ar) k) (start_in G ar k) (G.from k)
          (λ x m. ap (λ (y : ℕ). eqb y 1) (put-off i j 2 ar x k (λ p. n)))).0

      as_before : (k : ℕ) → i ≢ k → lvt_bits G (put i j 2 ar) k ≡ lvt_bits G ar k
      as_before k n = (alike (lvt_in G (put i j 2 ar) k) (lvt_in G ar k) (G.to k) (λ x m. lvts-elsewhere G ar i j k n x)).0
