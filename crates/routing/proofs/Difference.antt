-- Signed numbers as differences of naturals: how Figure 2's signed values and tests read in unsigned numbers.
use mathlib.Core.Path.{◌≡◌, sym, ◌∙◌, ap}
use mathlib.Core.Bool.{true, false}
use Prim.Native.Nat.{ℕ, zero, suc, ◌+◌, ◌*◌, ◌-◌, ◌≤◌, ◌<◌}
use native.Mathlib.Omega.{arith}
use native.Mathlib.Decide.{dec_lt, dec_le}
use lib.Dec.{leb}
use lib.IntN.{ℤ, pos, negsuc, neg_ℤ, sub_ℕ, ◌+ℤ◌, ◌-ℤ◌, ◌*ℤ◌}
use lib.Signed.{le_z}
use borrow.Author.Tests.{lt-ltb, le-ltb, le-leb, lt-leb}
use Rattle.routing.specs.Figure2.{eq_z}

-- z is a − b
pub data Diff (a b : ℕ) : ℤ → Type 0 where
  above : (n : ℕ) → a ≡ b + n → Diff a b (pos n)
  below : (n : ℕ) → b ≡ a + n + 1 → Diff a b (negsuc n)

-- the same difference of other numbers
pub diff-as : {a b : ℕ} {z : ℤ} (c d : ℕ) → Diff a b z → a + d ≡ c + b → Diff c d z
diff-as c d (above n e) f = above n (omega arith)
diff-as c d (below n e) f = below n (omega arith)

pub diff-sub : (a b : ℕ) → Diff a b (sub_ℕ a b)
diff-sub a b = go (dec_lt a b)
  where
    go : Dec (a < b) → Diff a b (sub_ℕ a b)
    go (yes h) = rw (lt-ltb a b) (below (b - suc a) (omega arith))
    go (no h) = rw (le-ltb a b (omega arith)) (above (a - b) (omega arith))

pub diff-pos : (n : ℕ) → Diff n 0 (pos n)
diff-pos n = above n (omega arith)

pub diff-plus : {a b : ℕ} {z : ℤ} → Diff a b z → (n : ℕ) → Diff (a + n) b (z +ℤ pos n)
diff-plus (above k e) n = above (k + n) (omega arith)
diff-plus {a} {b} (below k e) n = diff-as (a + n) b (diff-sub n (suc k)) (omega arith)

pub diff-minus : {a b : ℕ} {z : ℤ} → Diff a b z → (n : ℕ) → Diff a (b + n) (z -ℤ pos n)
diff-minus {a} {b} d zero = diff-as a (b + 0) (diff-plus d 0) (omega arith)
diff-minus {a} {b} (above k e) (suc n) = diff-as a (b + suc n) (diff-sub k (suc n)) (omega arith)
diff-minus (below k e) (suc n) = below (suc (k + n)) (omega arith)

-- n − z
pub diff-from : {a b : ℕ} {z : ℤ} (n : ℕ) → Diff a b z → Diff (n + b) a (pos n -ℤ z)
diff-from {a} {b} n (above k e) = diff-as (n + b) a (diff-minus (diff-pos n) k) (omega arith)
diff-from n (below k e) = above (n + suc k) (omega arith)

neg-pos : (n m : ℕ) → n ≡ suc m → neg_ℤ (pos n) ≡ negsuc m
neg-pos n m e = rw e

pub diff-double : {a b : ℕ} {z : ℤ} → Diff a b z → Diff (2 * a) (2 * b) (pos 2 *ℤ z)
diff-double (above k e) = above (2 * k) (omega arith)
diff-double (below k e) = rw (neg-pos (2 * suc k) (2 * k + 1) (omega arith)) (below (2 * k + 1) (omega arith))

-- a difference that is not below 0
pub diff_is : {a b : ℕ} {z : ℤ} → Diff a b z → (n : ℕ) → b + n ≡ a → z ≡ pos n
diff_is (above k e) n h = ap pos (omega arith)
diff_is (below k e) n h = absurd (omega arith)

-- tests that ask the same have the same answer
pub same_test : (m n a b : ℕ) → (m ≤ n → a ≤ b) → (a ≤ b → m ≤ n) → leb m n ≡ leb a b
same_test m n a b f g = go (dec_le m n)
  where
    go : Dec (m ≤ n) → leb m n ≡ leb a b
    go (yes h) = le-leb m n h ∙ sym (le-leb a b (f h))
    go (no h) =
        let low : (a ≤ b → ⊥) = λ k. h (g k) in
        lt-leb m n (omega arith) ∙ sym (lt-leb a b (omega arith))

-- ≤ of two differences
pub diff-le : {a b c d : ℕ} {y z : ℤ} → Diff a b y → Diff c d z → le_z y z ≡ leb (a + d) (c + b)
diff-le {a} {b} {c} {d} (above m e) (above n f) = same_test m n (a + d) (c + b) (omega arith) (omega arith)
diff-le {a} {b} {c} {d} (above m e) (below n f) = sym (lt-leb (a + d) (c + b) (omega arith))
diff-le {a} {b} {c} {d} (below m e) (above n f) = sym (le-leb (a + d) (c + b) (omega arith))
diff-le {a} {b} {c} {d} (below m e) (below n f) = same_test n m (a + d) (c + b) (omega arith) (omega arith)

-- the four answers of Figure 2's tests
pub le_yes : {a b c d : ℕ} {y z : ℤ} → Diff a b y → Diff c d z → a + d ≤ c + b → le_z y z ≡ true
le_yes {a} {b} {c} {d} p q h = diff-le p q ∙ le-leb (a + d) (c + b) h

pub le-no : {a b c d : ℕ} {y z : ℤ} → Diff a b y → Diff c d z → c + b < a + d → le_z y z ≡ false
le-no {a} {b} {c} {d} p q h = diff-le p q ∙ lt-leb (a + d) (c + b) h

pub eq_yes : {a b c d : ℕ} {y z : ℤ} → Diff a b y → Diff c d z → a + d ≡ c + b → eq_z y z ≡ true
eq_yes p q h = rw (le_yes p q (omega arith), le_yes q p (omega arith))

pub eq_no : {a b c d : ℕ} {y z : ℤ} → Diff a b y → Diff c d z → (a + d ≡ c + b → ⊥) → eq_z y z ≡ false
eq_no {a} {b} {c} {d} {y} {z} p q h = go (dec_le (a + d) (c + b))
  where
    go : Dec (a + d ≤ c + b) → eq_z y z ≡ false
    go (yes l) = rw (le_yes p q l, le-no q p (omega arith))
    go (no l) = rw (le-no p q (omega arith))
