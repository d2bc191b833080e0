-- What the round needs to know of the queues: lower bounds of what is outstanding and of what waits at each gateway.

use mathlib.Core.Logic.{◌≢◌}
use Prim.Native.Nat.{ℕ, ◌≤◌}

-- `From i g`: g is at most every hour of a kind at gateway i; so is every lesser number.
abbrev pub Downward : (ℕ → ℕ → Type 0) → Type 0
Downward From = (i g k : ℕ) → k ≤ g → From i g → From i k

-- `Least i v`: v is the greatest such number at i that is not above `never`.
pub record Reading (never : ℕ) (From Least : ℕ → ℕ → Type 0) : Type 0 where
  pub capped : (i v : ℕ) → Least i v → v ≤ never
  pub bound : (i v : ℕ) → Least i v → From i v
  pub greatest : (i v g : ℕ) → Least i v → g ≤ never → From i g → g ≤ v

-- The two kinds of step that the queues make. O and W are the bounds of what is outstanding and of what waits, before
-- the step; O' and W' after it.

-- Something comes to wait at i, no earlier than all that waits at i or is outstanding anywhere; or things only go.
pub record Arrives (last i : ℕ) (O W O' W' : ℕ → ℕ → Type 0) : Type 0 where
  pub outstanding : (j g : ℕ) → O j g → O' j g
  pub elsewhere : (j g : ℕ) → i ≢ j → W j g → W' j g
  pub at_i : (g : ℕ) → W i g → ((j : ℕ) → j ≤ last → O j g) → W' i g

-- Gateway i sends something of hour h, no earlier than all that waits at i or is outstanding anywhere.
pub record Sends (last i h : ℕ) (O W O' W' : ℕ → ℕ → Type 0) : Type 0 where
  pub waiting : (j g : ℕ) → W j g → W' j g
  pub elsewhere : (j g : ℕ) → i ≢ j → O j g → O' j g
  pub at_i : (g : ℕ) → O i g → g ≤ h → O' i g
  pub not_earlier : (g : ℕ) → W i g → ((j : ℕ) → j ≤ last → O j g) → g ≤ h
