-- The state of each arc in the open round, kept by every step.
use mathlib.Core.List.{List, ◌++◌, map}
use mathlib.Core.Path.{◌≡◌, refl, ap}
use mathlib.Core.Logic.{◌≢◌}
use Prim.Native.Nat.{ℕ, zero, suc, ◌+◌, ◌*◌, ◌≤◌, ◌<◌, min}
use native.Mathlib.Omega.{arith}
use Rattle.lists.specs.Lists.{Insert, tally}
use Rattle.lists.specs.Families.{change, put}
use Rattle.lists.proofs.ListLaws.{tally-append, tally-insert}
use Rattle.lists.proofs.FamilyLaws.{Same, same, other, same?, Put, at, off, put?, change-at, change-off}
use Rattle.round_steps.specs.Arcs.{Graph, Arc, times}
use Rattle.round_steps.specs.RoundSteps.{idle, counting, stopped, finished, RoundFrame, start, lvt, update, noted}
use Rattle.round_steps.proofs.RoundFrames.{both, both_is, both-not, start_on, lvt_on, sent-first, sent-not-first, sent-none}

-- One arc from a to b: what arrived along it, the statuses and marks of a and b, the Starts and Lvts under way on it.
pub data ArcState (x sa sb ma mb starts lvts : ℕ) : Type 0 where
  -- no Start has come to b
  fresh : (x ≡ 0) × (sb ≡ 0) × (sa ≤ 2) × (starts ≤ 1) × (starts ≤ sa) × (lvts ≡ 0) → ArcState x sa sb ma mb starts lvts
  -- the Start has come to b, and no Lvt to a
  begun : (x ≡ 1) × (1 ≤ sa) × (sa ≤ 2) × (sb ≤ 3) × (starts ≡ 0) × (lvts ≤ 1) × (3 * lvts ≤ sb) → ArcState x sa sb ma mb starts lvts
  -- the Lvt has come to a
  back : (x ≡ 2) × (2 ≤ sa) × (sb ≡ 3) × (ma ≤ mb) × (starts ≡ 0) × (lvts ≡ 0) → ArcState x sa sb ma mb starts lvts

-- a gateway is one end of an arc or neither
data Place (i a b : ℕ) : Type 0 where
  tail : i ≡ a → i ≢ b → Place i a b
  head : i ≢ a → i ≡ b → Place i a b
  apart : i ≢ a → i ≢ b → Place i a b

place? : (i a b : ℕ) → a < b → Place i a b
place? i a b l = go (same? i a) (same? i b)
  where
    go : Same i a → Same i b → Place i a b
    go (same p e) (same q d) = absurd (omega arith)
    go (same p e) (other n d) = tail p n
    go (other m e) (same q d) = head m q
    go (other m e) (other n d) = apart m n

-- a state whose numbers did not change, but that the mark of a may have fallen
keep : {x sa sb ma mb s l x' sa' sb' ma' mb' s' l' : ℕ} → ArcState x sa sb ma mb s l
    → (x' ≡ x) × (sa' ≡ sa) × (sb' ≡ sb) × (ma' ≤ ma) × (mb' ≡ mb) × (s' ≡ s) × (l' ≡ l)
    → ArcState x' sa' sb' ma' mb' s' l'
keep (fresh h) e = fresh (omega arith)
keep (begun h) e = begun (omega arith)
keep (back h) e = back (omega arith)

-- a send lowers a note, and nothing else
pub noted-falls : (s m h : ℕ) → noted s m h ≤ m
unfolding noted
noted-falls zero m h = omega arith
noted-falls (suc zero) m h = omega arith
noted-falls (suc (suc s)) m h = omega arith

pub noted-counting : (s m h : ℕ) → s ≡ counting → noted s m h ≡ min m h
unfolding noted
noted-counting zero m h e = absurd (omega arith)
noted-counting (suc zero) m h e = refl
noted-counting (suc (suc s)) m h e = absurd (omega arith)

pub noted_other : (s m h : ℕ) → s ≢ counting → noted s m h ≡ m
unfolding noted
noted_other zero m h n = refl
noted_other (suc zero) m h n = absurd (n refl)
noted_other (suc (suc s)) m h n = refl

module _ (G : Graph) where
  abbrev pub StateOf : (ℕ → ℕ) → (ℕ → ℕ) → (ℕ → ℕ → ℕ) → List RoundFrame → ℕ → ℕ → Type 0
  StateOf st mk ar fr a b =
      ArcState (ar a b) (st a) (st b) (mk a) (mk b) (tally (start_on a b) fr) (tally (lvt_on a b) fr)

  abbrev pub ArcStates : (ℕ → ℕ) → (ℕ → ℕ) → (ℕ → ℕ → ℕ) → List RoundFrame → Type 0
  ArcStates st mk ar fr = (a b : ℕ) → Arc G a b → StateOf st mk ar fr a b

module _ (G : Graph) (st mk : ℕ → ℕ) (ar : ℕ → ℕ → ℕ) (fr : List RoundFrame) (h : ArcStates G st mk ar fr) where
  -- gateway i begins
  module _ (i v t : ℕ) (p : st i ≡ idle) (q : (k : ℕ) → Arc G k i → ar k i ≡ 1) where
    sent-starts : List RoundFrame
    sent-starts = map (λ j. start i j t) (G.to i)

    pub arcs-begin : ArcStates G (change i counting st) (change i v mk) ar (fr ++ map (λ j. start i j t) (G.to i))
    unfolding start_on lvt_on sent-starts
    arcs-begin a b c = go (place? i a b (G.upward a b c).0) (h a b c)
      where
        starts : tally (start_on a b) (fr ++ sent-starts) ≡ tally (start_on a b) fr + tally (start_on a b) sent-starts
        starts = tally-append (start_on a b) fr sent-starts

        lvts : tally (lvt_on a b) (fr ++ sent-starts) ≡ tally (lvt_on a b) fr
        lvts = omega (arith, tally-append (lvt_on a b) fr sent-starts, sent-none (lvt_on a b) (λ j. start i j t) (G.to i) (λ j. refl))

        by-i : i ≡ a → tally (start_on a b) sent-starts ≤ 1
        by-i e =
            omega (
              arith,
              sent-first start_on (λ j. start i j t) i (λ x y j. refl) a b (G.to i) e,
              ap (λ k. times b (G.to k)) e,
              G.once a b,
            )

        by-other : i ≢ a → tally (start_on a b) sent-starts ≡ 0
        by-other n = sent-not-first start_on (λ j. start i j t) i (λ x y j. refl) a b (G.to i) n

        go : Place i a b → StateOf G st mk ar fr a b → StateOf G (change i counting st) (change i v mk) ar (fr ++ sent-starts) a b
        go (tail e n) (fresh l) =
            fresh (omega (arith, starts, lvts, by-i e, ap st e, change-at i counting st a e, change-off i counting st b n))
        go (tail e n) (begun l) = absurd (omega (arith, ap st e))
        go (tail e n) (back l) = absurd (omega (arith, ap st e))
        go (head m e) (fresh l) = absurd (omega (arith, ap (ar a) e, q a (rw e c)))
        go (head m e) (begun l) =
            begun (omega (arith, starts, lvts, by-other m, ap st e, change-at i counting st b e, change-off i counting st a m))
        go (head m e) (back l) = absurd (omega (arith, ap (ar a) e, q a (rw e c)))
        go (apart m n) l =
            keep l
            (omega (
              arith,
              starts,
              lvts,
              by-other m,
              change-off i counting st a m,
              change-off i counting st b n,
              change-off i v mk a m,
              change-off i v mk b n,
            ))

  -- gateway j hears the Start from i
  pub arcs-hear : (i j t : ℕ) (rest : List RoundFrame) → Insert (start i j t) rest fr → ArcStates G st mk (put i j 1 ar) rest
  unfolding start_on lvt_on
  arcs-hear i j t rest x a b c = go (put? i j 1 ar a b) (h a b c)
    where
      starts : tally (start_on a b) fr ≡ both a b i j + tally (start_on a b) rest
      starts = tally-insert (start_on a b) x

      lvts : tally (lvt_on a b) fr ≡ 0 + tally (lvt_on a b) rest
      lvts = tally-insert (lvt_on a b) x

      go : Put i j 1 ar a b → StateOf G st mk ar fr a b → StateOf G st mk (put i j 1 ar) rest a b
      go (at p q e) (fresh l) = begun (omega (arith, starts, lvts, both_is a b i j p q))
      go (at p q e) (begun l) = absurd (omega (arith, starts, both_is a b i j p q))
      go (at p q e) (back l) = absurd (omega (arith, starts, both_is a b i j p q))
      go (off n e) l = keep l (omega (arith, starts, lvts, both-not a b i j n))

  -- gateway i stops
  pub arcs-stop : (i v : ℕ) → st i ≡ counting → ArcStates G (change i stopped st) (change i (min (mk i) v) mk) ar fr
  arcs-stop i v p a b c = go (place? i a b (G.upward a b c).0) (h a b c)
    where
      go : Place i a b → StateOf G st mk ar fr a b → StateOf G (change i stopped st) (change i (min (mk i) v) mk) ar fr a b
      go (tail e n) (fresh l) = fresh (omega (arith, ap st e, change-at i stopped st a e, change-off i stopped st b n))
      go (tail e n) (begun l) = begun (omega (arith, ap st e, change-at i stopped st a e, change-off i stopped st b n))
      go (tail e n) (back l) = absurd (omega (arith, ap st e))
      go (head m e) (fresh l) = absurd (omega (arith, ap st e))
      go (head m e) (begun l) = begun (omega (arith, ap st e, change-at i stopped st b e, change-off i stopped st a m))
      go (head m e) (back l) = absurd (omega (arith, ap st e))
      go (apart m n) l =
          keep l
          (omega (
            arith,
            change-off i stopped st a m,
            change-off i stopped st b n,
            change-off i (min (mk i) v) mk a m,
            change-off i (min (mk i) v) mk b n,
          ))

  -- gateway i takes the Lvt from j, which carries the mark of j
  pub arcs-lvt : (j i t v : ℕ) (rest : List RoundFrame) → Insert (lvt j i t v) rest fr → st i ≡ stopped → v ≡ mk j
      → ArcStates G st (change i (min (mk i) v) mk) (put i j 2 ar) rest
  unfolding start_on lvt_on
  arcs-lvt j i t v rest x p q a b c = go (put? i j 2 ar a b) (place? i a b (G.upward a b c).0) (h a b c)
    where
      mk' : ℕ → ℕ
      mk' = change i (min (mk i) v) mk

      starts : tally (start_on a b) fr ≡ 0 + tally (start_on a b) rest
      starts = tally-insert (start_on a b) x

      lvts : tally (lvt_on a b) fr ≡ both b a j i + tally (lvt_on a b) rest
      lvts = tally-insert (lvt_on a b) x

      go : Put i j 2 ar a b → Place i a b → StateOf G st mk ar fr a b → StateOf G st mk' (put i j 2 ar) rest a b
      go (at e d f) (tail e' n) (begun l) =
          back (omega (arith, starts, lvts, both_is b a j i d e, ap st e, ap mk d, change-at i (min (mk i) v) mk a e, change-off i (min (mk i) v) mk b n))
      go (at e d f) (tail e' n) (fresh l) = absurd (omega (arith, lvts, both_is b a j i d e))
      go (at e d f) (tail e' n) (back l) = absurd (omega (arith, lvts, both_is b a j i d e))
      go (at e d f) (head m e') l = absurd (m e)
      go (at e d f) (apart m n) l = absurd (m e)
      go (off k f) (tail e n) l =
          keep l
          (omega (
            arith,
            starts,
            lvts,
            both-not b a j i (λ d e'. k e' d),
            ap mk e,
            change-at i (min (mk i) v) mk a e,
            change-off i (min (mk i) v) mk b n,
          ))
      go (off k f) (head m e) (fresh l) = absurd (omega (arith, ap st e))
      go (off k f) (head m e) (begun l) = begun (omega (arith, starts, lvts, both-not b a j i (λ d e'. k e' d)))
      go (off k f) (head m e) (back l) = absurd (omega (arith, ap st e))
      go (off k f) (apart m n) l =
          keep l
          (omega (
            arith,
            starts,
            lvts,
            both-not b a j i (λ d e'. k e' d),
            change-off i (min (mk i) v) mk a m,
            change-off i (min (mk i) v) mk b n,
          ))

  -- gateway j finishes
  module _ (j t v : ℕ) (p : st j ≡ stopped) (q : (k : ℕ) → Arc G j k → ar j k ≡ 2) where
    sent-lvts : List RoundFrame
    sent-lvts = map (λ i. lvt j i t v) (G.from j)

    pub arcs-finish : ArcStates G (change j finished st) mk ar (fr ++ map (λ i. lvt j i t v) (G.from j))
    unfolding start_on lvt_on sent-lvts
    arcs-finish a b c = go (place? j a b (G.upward a b c).0) (h a b c)
      where
        starts : tally (start_on a b) (fr ++ sent-lvts) ≡ tally (start_on a b) fr
        starts = omega (arith, tally-append (start_on a b) fr sent-lvts, sent-none (start_on a b) (λ i. lvt j i t v) (G.from j) (λ i. refl))

        lvts : tally (lvt_on a b) (fr ++ sent-lvts) ≡ tally (lvt_on a b) fr + tally (lvt_on a b) sent-lvts
        lvts = tally-append (lvt_on a b) fr sent-lvts

        by-j : j ≡ b → tally (lvt_on a b) sent-lvts ≤ 1
        by-j e =
            omega (
              arith,
              sent-first (λ y x. lvt_on x y) (λ i. lvt j i t v) j (λ x y i. refl) b a (G.from j) e,
              ap (λ k. times a (G.from k)) e,
              G.matched a b,
              G.once a b,
            )

        by-other : j ≢ b → tally (lvt_on a b) sent-lvts ≡ 0
        by-other n = sent-not-first (λ y x. lvt_on x y) (λ i. lvt j i t v) j (λ x y i. refl) b a (G.from j) n

        go : Place j a b → StateOf G st mk ar fr a b → StateOf G (change j finished st) mk ar (fr ++ sent-lvts) a b
        go (tail e n) (fresh l) = absurd (omega (arith, ap (λ k. ar k b) e, q b (rw e c)))
        go (tail e n) (begun l) = absurd (omega (arith, ap (λ k. ar k b) e, q b (rw e c)))
        go (tail e n) (back l) =
            back (omega (arith, starts, lvts, by-other n, change-at j finished st a e, change-off j finished st b n))
        go (head m e) (fresh l) = absurd (omega (arith, ap st e))
        go (head m e) (begun l) =
            begun (omega (arith, starts, lvts, by-j e, ap st e, change-at j finished st b e, change-off j finished st a m))
        go (head m e) (back l) = absurd (omega (arith, ap st e))
        go (apart m n) l =
            keep l (omega (arith, starts, lvts, by-other n, change-off j finished st a m, change-off j finished st b n))

  -- frames that are Updates neither come nor go as Starts or Lvts
  module _ (w : RoundFrame → ℕ) (rest : List RoundFrame) (u : ℕ → RoundFrame) (l : List ℕ) where
    updates-aside : tally w fr ≡ tally w rest → ((k : ℕ) → w (u k) ≡ 0) → tally w (rest ++ map u l) ≡ tally w fr
    updates-aside e z = omega (arith, tally-append w rest (map u l), sent-none w u l z)

  -- gateway j takes an Update and relays it
  pub arcs-update : (i j t v : ℕ) (rest : List RoundFrame) (l : List ℕ) → Insert (update i j t v) rest fr
      → ArcStates G st mk ar (rest ++ map (λ k. update j k t v) l)
  unfolding start_on lvt_on
  arcs-update i j t v rest l x a b c =
      keep (h a b c)
      (omega (
        arith,
        updates-aside (start_on a b) rest (λ k. update j k t v) l (omega (arith, tally-insert (start_on a b) x)) (λ k. refl),
        updates-aside (lvt_on a b) rest (λ k. update j k t v) l (omega (arith, tally-insert (lvt_on a b) x)) (λ k. refl),
      ))

  -- gateway 0 closes the round, when the Lvt has come along every arc
  pub arcs-close : (t v : ℕ) (l : List ℕ) → ((a b : ℕ) → Arc G a b → ar a b ≡ 2)
      → ArcStates G (λ i. idle) mk (λ i j. 0) (fr ++ map (λ k. update 0 k t v) l)
  unfolding start_on lvt_on
  arcs-close t v l z a b c = go (h a b c)
    where
      starts : tally (start_on a b) (fr ++ map (λ k. update 0 k t v) l) ≡ tally (start_on a b) fr
      starts = updates-aside (start_on a b) fr (λ k. update 0 k t v) l refl (λ k. refl)

      lvts : tally (lvt_on a b) (fr ++ map (λ k. update 0 k t v) l) ≡ tally (lvt_on a b) fr
      lvts = updates-aside (lvt_on a b) fr (λ k. update 0 k t v) l refl (λ k. refl)

      go : StateOf G st mk ar fr a b → StateOf G (λ i. idle) mk (λ i j. 0) (fr ++ map (λ k. update 0 k t v) l) a b
      go (fresh d) = absurd (omega (arith, z a b c))
      go (begun d) = absurd (omega (arith, z a b c))
      go (back d) = fresh (omega (arith, starts, lvts))

  -- gateway i sends a message or a cancel of hour v
  pub arcs-lower : (i v : ℕ) → ArcStates G st (change i (noted (st i) (mk i) v) mk) ar fr
  arcs-lower i v a b c = go (place? i a b (G.upward a b c).0) (h a b c)
    where
      m' : ℕ
      m' = noted (st i) (mk i) v

      go : Place i a b → StateOf G st mk ar fr a b → StateOf G st (change i m' mk) ar fr a b
      go (tail e n) l = keep l (omega (arith, noted-falls (st i) (mk i) v, ap mk e, change-at i m' mk a e, change-off i m' mk b n))
      go (head m e) (fresh l) = fresh (omega arith)
      go (head m e) (begun l) = begun (omega arith)
      go (head m e) (back l) =
          back
          (omega (
            arith,
            noted_other (st i) (mk i) v (omega (arith, ap st e)),
            ap mk e,
            change-at i m' mk b e,
            change-off i m' mk a m,
          ))
      go (apart m n) l = keep l (omega (arith, change-off i m' mk a m, change-off i m' mk b n))
