-- A chain of tests: what the first that fails says of the whole, and what the last says where the others hold.
use mathlib.Core.Path.{◌≡◌, sym, ◌∙◌}
use mathlib.Core.Bool.{Bool, true, false, not, ◌&&◌, ◌||◌, and-false}
use Prim.Native.Nat.{ℕ, ◌<◌, ◌≤◌}
use native.Mathlib.Omega.{arith}
use lib.Dec.{leb}
use borrow.Author.Tests.{not-true, not-false, lt-leb, le-leb}

-- a test that a function made, turned round or as it is
module _ {x a : Bool} (e : x ≡ a) where
  pub refuted : not x ≡ true → a ≡ false
  refuted h = sym e ∙ not-true x h

  pub granted : not x ≡ false → a ≡ true
  granted h = sym e ∙ not-false x h

  pub turned : not x ≡ not a
  turned = rw e

  pub told : {b : Bool} → x ≡ b → a ≡ b
  told h = sym e ∙ h

module _ (a b : Bool) where
  pub left-fails : a ≡ false → (a && b) ≡ false
  left-fails e = rw e

  pub right-fails : b ≡ false → (a && b) ≡ false
  right-fails e = rw e (and-false a)

  -- the last decides
  pub last-decides : {r : Bool} → a ≡ true → r ≡ b → r ≡ (a && b)
  last-decides e f = f ∙ rw e

  pub either-holds : a ≡ true → (a || b) ≡ true
  either-holds e = rw e

  pub other-decides : {r : Bool} → a ≡ false → r ≡ b → r ≡ (a || b)
  other-decides e f = f ∙ rw e

-- a test that must fail
module _ (a : Bool) {x : Bool} (e : x ≡ a) where
  pub struck : x ≡ true → not a ≡ false
  struck h = rw (← e, h)

  pub cleared : x ≡ false → not a ≡ true
  cleared h = rw (← e, h)

-- the result of a chain that ended early
pub fails : (a : Bool) → a ≡ false → false ≡ a
fails a e = sym e

pub holds : (a : Bool) → a ≡ true → true ≡ a
holds a e = sym e

-- a number that a function gave
module _ {x n : ℕ} (k : ℕ) (e : x ≡ n) where
  pub above : k < x → leb n k ≡ false
  above h = rw (← e) (lt-leb x k h)

  pub within : x ≤ k → leb n k ≡ true
  within h = rw (← e) (le-leb x k h)

pub byte-within : (n : ℕ) → n < 256 → leb n 255 ≡ true
byte-within n h = le-leb n 255 (omega arith)
