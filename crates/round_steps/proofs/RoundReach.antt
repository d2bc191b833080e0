-- How far a round has come: once one gateway has stopped all have begun, and at the close all have finished.
use mathlib.Core.List.{List}
use mathlib.Core.Path.{◌≡◌, ap}
use mathlib.Core.Logic.{◌≢◌}
use Prim.Native.Nat.{ℕ, zero, suc, ◌+◌, ◌≤◌, ◌<◌}
use native.Mathlib.Omega.{arith}
use Rattle.lists.specs.Families.{change}
use Rattle.lists.proofs.FamilyLaws.{Same, same, other, same?, Changed, at, off, change?}
use Rattle.round_steps.specs.Arcs.{Graph, Arc}
use Rattle.round_steps.specs.RoundSteps.{idle, counting, stopped, finished, RoundFrame}
use Rattle.round_steps.proofs.RoundArcs.{fresh, begun, back, StateOf, ArcStates}

module _ (G : Graph) (st mk : ℕ → ℕ) (ar : ℕ → ℕ → ℕ) (fr : List RoundFrame) (h : ArcStates G st mk ar fr) where
  -- the sender of an arc has begun if its receiver has
  begun-before : (a b : ℕ) → Arc G a b → 1 ≤ st b → 1 ≤ st a
  begun-before a b c p = go (h a b c)
    where
      go : StateOf G st mk ar fr a b → 1 ≤ st a
      go (fresh l) = absurd (omega arith)
      go (begun l) = omega arith
      go (back l) = omega arith

  -- from the last gateway downwards
  all-begun-from : (n i : ℕ) → G.last ≤ i + n → i ≤ G.last → 1 ≤ st G.last → 1 ≤ st i
  all-begun-from zero i m l p =
      let e : G.last ≡ i = omega arith in
      omega (arith, ap st e)
  all-begun-from (suc n) i m l p = go (same? i G.last) (λ j. all-begun-from n j)
    where
      go : Same i G.last → ((j : ℕ) → G.last ≤ j + n → j ≤ G.last → 1 ≤ st G.last → 1 ≤ st j) → 1 ≤ st i
      go (same e d) ih = omega (arith, ap st e)
      go (other e d) ih =
          let (j, c) = G.told i (omega arith) in
          let (u, v) = G.upward i j c in
          begun-before i j c (ih j (omega arith) v p)

  pub all-begun : 1 ≤ st G.last → (i : ℕ) → i ≤ G.last → 1 ≤ st i
  all-begun p i l = all-begun-from G.last i (omega arith) l p

  -- the Lvts of gateway j have all come, and its mark is not below that of gateway 0
  pub record Done (j : ℕ) : Type 0 where
    pub lvts-in : (k : ℕ) → Arc G j k → ar j k ≡ 2
    pub not-below : mk 0 ≤ mk j
    pub is-finished : 0 < j → st j ≡ finished

  -- the receiver of an arc whose sender is done is done
  done-after : (a b : ℕ) → Arc G a b → Done a → Done b
  done-after a b c d = go (h a b c)
    where
      on : st b ≡ finished → (k : ℕ) (e : Arc G b k) → StateOf G st mk ar fr b k → ar b k ≡ 2
      on f k e (fresh l) = absurd (omega arith)
      on f k e (begun l) = absurd (omega arith)
      on f k e (back l) = omega arith

      go : StateOf G st mk ar fr a b → Done b
      go (fresh l) = absurd (omega (arith, d.lvts-in b c))
      go (begun l) = absurd (omega (arith, d.lvts-in b c))
      go (back l) =
          record {
            lvts-in = λ k e. on (omega arith) k e (h b k e);
            not-below = omega (arith, d.not-below);
            is-finished = λ p. omega arith;
          }

  -- from gateway 0 upwards
  all-done-to : (n j : ℕ) → j ≤ n → j ≤ G.last → Done 0 → Done j
  all-done-to zero j m l d =
      let e : 0 ≡ j = omega arith in
      rw (← e) d
  all-done-to (suc n) j m l d = go (same? 0 j) (λ i. all-done-to n i)
    where
      go : Same 0 j → ((i : ℕ) → i ≤ n → i ≤ G.last → Done 0 → Done i) → Done j
      go (same e f) ih = rw (← e) d
      go (other e f) ih =
          let (i, c) = G.heard j (omega arith) l in
          let a : Arc G i j = omega (arith, G.matched i j) in
          let (u, v) = G.upward i j a in
          done-after i j a (ih i (omega arith) (omega arith) d)

  pub all_done : st 0 ≡ stopped → ((k : ℕ) → Arc G 0 k → ar 0 k ≡ 2) → (j : ℕ) → j ≤ G.last → Done j
  all_done p q j l =
      all-done-to G.last j l l
      (record { lvts-in = q; not-below = omega arith; is-finished = λ n. absurd (omega arith) })

-- once one gateway has stopped, the last has
abbrev pub LastStops : ℕ → (ℕ → ℕ) → Type 0
LastStops last st = (i : ℕ) → i ≤ last → stopped ≤ st i → stopped ≤ st last

module _ (last : ℕ) (st : ℕ → ℕ) (h : LastStops last st) where
  pub last-stops-begin : (i : ℕ) → st i ≡ idle → LastStops last (change i counting st)
  last-stops-begin i p k l q = go (change? i counting st k) (change? i counting st last)
    where
      go : Changed i counting st k → Changed i counting st last → stopped ≤ change i counting st last
      go (at e f) s = absurd (omega arith)
      go (off n f) (at e g) = absurd (omega (arith, ap st e, h k l (omega arith)))
      go (off n f) (off m g) = omega (arith, h k l (omega arith))

  -- any later status keeps it, where the last has stopped or is the one
  pub last-stops-change : (i s : ℕ) → stopped ≤ s → (i ≢ last → stopped ≤ st last) → LastStops last (change i s st)
  last-stops-change i s p q k l r = go (change? i s st last)
    where
      go : Changed i s st last → stopped ≤ change i s st last
      go (at e f) = omega arith
      go (off n f) = omega (arith, q n)
