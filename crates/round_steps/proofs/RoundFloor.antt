-- The floor: a number that bounds all hours outstanding and waiting and all marks from below goes on doing so.
use mathlib.Core.Path.{ap}
use mathlib.Core.Logic.{◌≢◌}
use Prim.Native.Nat.{ℕ, ◌≤◌, min}
use native.Mathlib.Omega.{arith}
use Rattle.lists.specs.Families.{change}
use Rattle.lists.proofs.FamilyLaws.{Same, same, other, same?, change-at, change-off}
use Rattle.round_steps.specs.RoundSteps.{counting, noted}
use Rattle.round_steps.proofs.RoundArcs.{noted-counting, noted_other}
use Rattle.round_steps.proofs.RoundQueues.{Arrives, Sends}
use Rattle.round_steps.proofs.RoundCut.{UnderMarks}

pub record Floor (never last : ℕ) (st mk : ℕ → ℕ) (O W : ℕ → ℕ → Type 0) (g : ℕ) : Type 0 where
  pub capped : g ≤ never
  pub outstanding : (j : ℕ) → j ≤ last → O j g
  pub waiting : (j : ℕ) → j ≤ last → W j g
  pub marks : UnderMarks last st mk g

-- every mark of a gateway that has begun has the property
abbrev pub OnMarks : (ℕ → Type 0) → ℕ → (ℕ → ℕ) → (ℕ → ℕ) → Type 0
OnMarks P last st mk = (j : ℕ) → j ≤ last → counting ≤ st j → P (mk j)

module _ (P : ℕ → Type 0) (last : ℕ) (st mk : ℕ → ℕ) (u : OnMarks P last st mk) where
  -- one mark is changed, and no other gateway begins
  pub marks-change : (st' : ℕ → ℕ) (i m : ℕ) → (i ≤ last → counting ≤ st' i → P m)
      → ((k : ℕ) → i ≢ k → counting ≤ st' k → counting ≤ st k)
      → OnMarks P last st' (change i m mk)
  marks-change st' i m p q k l r = go (same? i k)
    where
      go : Same i k → P (change i m mk k)
      go (same e d) = rw (change-at i m mk k e) (p (omega arith) (omega (arith, ap st' e)))
      go (other n d) = rw (change-off i m mk k n) (u k l (q k n r))

  -- a send at i lowers its note
  pub marks-noted : (i h : ℕ) → (i ≤ last → P (mk i) → P (min (mk i) h)) → OnMarks P last st (change i (noted (st i) (mk i) h) mk)
  marks-noted i h p = marks-change st i (noted (st i) (mk i) h) (λ l q. go l q (same? (st i) counting)) (λ k n q. q)
    where
      go : i ≤ last → counting ≤ st i → Same (st i) counting → P (noted (st i) (mk i) h)
      go l q (same e d) = rw (noted-counting (st i) (mk i) h e) (p l (u i l q))
      go l q (other n d) = rw (noted_other (st i) (mk i) h n) (u i l q)

module _ (never last : ℕ) (st mk : ℕ → ℕ) (O W O' W' : ℕ → ℕ → Type 0) (g : ℕ) (f : Floor never last st mk O W g) where
  -- a step of the round leaves the queues alone
  pub floor-round : (st' mk' : ℕ → ℕ) → UnderMarks last st' mk' g → Floor never last st' mk' O W g
  floor-round st' mk' u = record { capped = f.capped; outstanding = f.outstanding; waiting = f.waiting; marks = u }

  pub floor-arrives : (i : ℕ) → Arrives last i O W O' W' → Floor never last st mk O' W' g
  floor-arrives i a =
      record {
        capped = f.capped;
        outstanding = λ j l. a.outstanding j g (f.outstanding j l);
        waiting = λ j l. go j l (same? i j);
        marks = f.marks;
      }
    where
      go : (j : ℕ) → j ≤ last → Same i j → W' j g
      go j l (same e d) = rw e at (a.at_i g (rw (← e) at (f.waiting j l)) f.outstanding)
      go j l (other n d) = a.elsewhere j g n (f.waiting j l)

  pub floor-sends : (i h : ℕ) → i ≤ last → Sends last i h O W O' W'
      → Floor never last st (change i (noted (st i) (mk i) h) mk) O' W' g
  floor-sends i h p a =
      record {
        capped = f.capped;
        outstanding = λ j l. go j l (same? i j);
        waiting = λ j l. a.waiting j g (f.waiting j l);
        marks = marks-noted (λ m. g ≤ m) last st mk f.marks i h (λ l q. omega (arith, late));
      }
    where
      late : g ≤ h
      late = a.not_earlier g (f.waiting i p) f.outstanding

      go : (j : ℕ) → j ≤ last → Same i j → O' j g
      go j l (same e d) = rw e at (a.at_i g (rw (← e) at (f.outstanding j l)) late)
      go j l (other n d) = a.elsewhere j g n (f.outstanding j l)
