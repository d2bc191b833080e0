-- The cut: what is below no mark of a gateway that has begun is below nothing outstanding at those that have begun, and
-- below nothing that waits at those that have stopped.
use mathlib.Core.Path.{◌≡◌, ap}
use mathlib.Core.Logic.{◌≢◌}
use Prim.Native.Nat.{ℕ, ◌≤◌, min}
use native.Mathlib.Omega.{arith}
use Rattle.lists.specs.Families.{change}
use Rattle.lists.proofs.FamilyLaws.{Same, same, other, same?, Changed, at, off, change?, change-at, change-off}
use Rattle.round_steps.specs.RoundSteps.{idle, counting, stopped, finished, noted}
use Rattle.round_steps.proofs.RoundArcs.{noted-falls, noted-counting}
use Rattle.round_steps.proofs.RoundQueues.{Downward, Arrives, Sends}

-- g is at most the mark of every gateway that has begun
abbrev pub UnderMarks : ℕ → (ℕ → ℕ) → (ℕ → ℕ) → ℕ → Type 0
UnderMarks last st mk g = (j : ℕ) → j ≤ last → counting ≤ st j → g ≤ mk j

pub record Covered (st : ℕ → ℕ) (O W : ℕ → ℕ → Type 0) (g j : ℕ) : Type 0 where
  pub outstanding : counting ≤ st j → O j g
  pub waiting : stopped ≤ st j → W j g

-- for every g, so that no least mark need be computed
abbrev pub Cut : ℕ → (ℕ → ℕ) → (ℕ → ℕ) → (ℕ → ℕ → Type 0) → (ℕ → ℕ → Type 0) → Type 0
Cut last st mk O W = (g : ℕ) → UnderMarks last st mk g → (j : ℕ) → j ≤ last → Covered st O W g j

module _ (last : ℕ) (st mk : ℕ → ℕ) (O W : ℕ → ℕ → Type 0) (down-O : Downward O) (down-W : Downward W) (cut : Cut last st mk O W) where
  pub cut-begin : (i v : ℕ) → st i ≡ idle → O i v → Cut last (change i counting st) (change i v mk) O W
  cut-begin i v p o g u j l = go (change? i counting st j)
    where
      before : UnderMarks last st mk g
      before k m q =
          let n : i ≢ k = λ e. omega (arith, ap st e) in
          omega (arith, u k m (omega (arith, change-off i counting st k n)), change-off i v mk k n)

      go : Changed i counting st j → Covered (change i counting st) O W g j
      go (at e f) =
          record {
            outstanding = λ q. rw e at (down-O i v g (omega (arith, u j l q, change-at i v mk j e)) o);
            waiting = λ q. absurd (omega arith);
          }
      go (off n f) =
          let c = cut g before j l in
          record { outstanding = λ q. c.outstanding (omega arith); waiting = λ q. c.waiting (omega arith) }

  -- the same gateways have begun, marks have only fallen, and a queue is read where a gateway stops
  cut_on : (st' mk' : ℕ → ℕ) → ((k : ℕ) → counting ≤ st k → (counting ≤ st' k) × (mk' k ≤ mk k))
      → ((k : ℕ) → counting ≤ st' k → counting ≤ st k)
      → ((k g : ℕ) → stopped ≤ st' k → g ≤ mk' k → (stopped ≤ st k → W k g) → W k g)
      → Cut last st' mk' O W
  cut_on st' mk' falls same-begun reads g u j l =
      record {
        outstanding = λ q. c.outstanding (same-begun j q);
        waiting = λ q. reads j g q (u j l (omega arith)) c.waiting;
      }
    where
      c : Covered st O W g j
      c = cut g (λ k m q. omega (arith, u k m (falls k q).0, (falls k q).1)) j l

  pub cut-stop : (i v : ℕ) → st i ≡ counting → W i v → Cut last (change i stopped st) (change i (min (mk i) v) mk) O W
  cut-stop i v p w = cut_on (change i stopped st) (change i m mk) (λ k. falls k (same? i k)) (λ k. begun k (same? i k)) (λ k g. reads k g (same? i k))
    where
      m : ℕ
      m = min (mk i) v

      falls : (k : ℕ) → Same i k → counting ≤ st k → (counting ≤ change i stopped st k) × (change i m mk k ≤ mk k)
      falls k (same e d) q = omega (arith, change-at i stopped st k e, change-at i m mk k e, ap mk e)
      falls k (other n d) q = omega (arith, change-off i stopped st k n, change-off i m mk k n)

      begun : (k : ℕ) → Same i k → counting ≤ change i stopped st k → counting ≤ st k
      begun k (same e d) q = omega (arith, ap st e)
      begun k (other n d) q = omega (arith, change-off i stopped st k n)

      reads : (k g : ℕ) → Same i k → stopped ≤ change i stopped st k → g ≤ change i m mk k → (stopped ≤ st k → W k g) → W k g
      reads k g (same e d) q x y = rw e at (down-W i v g (omega (arith, change-at i m mk k e)) w)
      reads k g (other n d) q x y = y (omega (arith, change-off i stopped st k n))

  -- a mark falls
  pub cut-fall : (i m : ℕ) → m ≤ mk i → Cut last st (change i m mk) O W
  cut-fall i m p = cut_on st (change i m mk) (λ k q. falls k q (same? i k)) (λ k q. q) (λ k g q x y. y q)
    where
      falls : (k : ℕ) → counting ≤ st k → Same i k → (counting ≤ st k) × (change i m mk k ≤ mk k)
      falls k q (same e d) = omega (arith, change-at i m mk k e, ap mk e)
      falls k q (other n d) = omega (arith, change-off i m mk k n)

  pub cut-finish : (i : ℕ) → st i ≡ stopped → Cut last (change i finished st) mk O W
  cut-finish i p = cut_on (change i finished st) mk (λ k. falls k (same? i k)) (λ k. begun k (same? i k)) (λ k g. reads k g (same? i k))
    where
      falls : (k : ℕ) → Same i k → counting ≤ st k → (counting ≤ change i finished st k) × (mk k ≤ mk k)
      falls k (same e d) q = omega (arith, change-at i finished st k e)
      falls k (other n d) q = omega (arith, change-off i finished st k n)

      begun : (k : ℕ) → Same i k → counting ≤ change i finished st k → counting ≤ st k
      begun k (same e d) q = omega (arith, ap st e)
      begun k (other n d) q = omega (arith, change-off i finished st k n)

      reads : (k g : ℕ) → Same i k → stopped ≤ change i finished st k → g ≤ mk k → (stopped ≤ st k → W k g) → W k g
      reads k g (same e d) q x y = y (omega (arith, ap st e))
      reads k g (other n d) q x y = y (omega (arith, change-off i finished st k n))

  -- once a gateway has stopped all have begun
  module _ (all : (i : ℕ) → i ≤ last → stopped ≤ st i → (j : ℕ) → j ≤ last → counting ≤ st j) (O' W' : ℕ → ℕ → Type 0) where
    pub cut-arrives : (i : ℕ) → Arrives last i O W O' W' → Cut last st mk O' W'
    cut-arrives i a g u j l = go (same? i j)
      where
        c : Covered st O W g j
        c = cut g u j l

        every : stopped ≤ st j → (k : ℕ) → k ≤ last → O k g
        every q k m = (cut g u k m).outstanding (all j l q k m)

        go : Same i j → Covered st O' W' g j
        go (same e d) =
            record {
              outstanding = λ q. a.outstanding j g (c.outstanding q);
              waiting = λ q. rw e at (a.at_i g (rw (← e) at (c.waiting q)) (every q));
            }
        go (other n d) =
            record {
              outstanding = λ q. a.outstanding j g (c.outstanding q);
              waiting = λ q. a.elsewhere j g n (c.waiting q);
            }

    pub cut-sends : (i h : ℕ) → Sends last i h O W O' W' → Cut last st (change i (noted (st i) (mk i) h) mk) O' W'
    cut-sends i h a g u j l = go (same? i j)
      where
        m : ℕ
        m = noted (st i) (mk i) h

        fallen : Cut last st (change i m mk) O W
        fallen = cut-fall i m (noted-falls (st i) (mk i) h)

        c : Covered st O W g j
        c = fallen g u j l

        every : stopped ≤ st j → (k : ℕ) → k ≤ last → O k g
        every q k n = (fallen g u k n).outstanding (all j l q k n)

        -- the hour sent is not below g: the note was lowered by it, or the queue was read
        late : i ≡ j → counting ≤ st j → Same (st i) counting → g ≤ h
        late e q (same x d) = omega (arith, u j l q, change-at i m mk j e, noted-counting (st i) (mk i) h x)
        late e q (other x d) =
            let y : stopped ≤ st j = omega (arith, ap st e) in
            a.not_earlier g (rw (← e) at (c.waiting y)) (every y)

        go : Same i j → Covered st O' W' g j
        go (same e d) =
            record {
              outstanding = λ q. rw e at (a.at_i g (rw (← e) at (c.outstanding q)) (late e q (same? (st i) counting)));
              waiting = λ q. a.waiting j g (c.waiting q);
            }
        go (other n d) =
            record {
              outstanding = λ q. a.elsewhere j g n (c.outstanding q);
              waiting = λ q. a.waiting j g (c.waiting q);
            }
