-- Sums over gateways: how many elements all to and all from have, and how many Updates there are.
use mathlib.Core.Path.{◌≡◌, refl, ◌∙◌, ap}
use Prim.Native.Nat.{ℕ, zero, suc, ◌+◌, ◌*◌, ◌-◌, ◌/◌, ◌≤◌, ◌<◌, min}
use native.Mathlib.Omega.{arith}
use native.Mathlib.Decide.{dec_lt}
use lib.ListN.{length}
use borrow.Author.Tests.{lt-ltb, le-ltb}
use Rattle.lists.specs.Families.{sum}
use Rattle.routing.specs.Arcs.{children}
use Rattle.routing.proofs.Shape.{Split, Sized}

module _ {N A B : ℕ} (s : Split N A B) (f : ℕ → ℕ) where
  module _ (sized : (i : ℕ) → i < N → Sized (i + 1 ≡ N) (2 * i + 2 ≤ A) (f i)) where
    to-before : (n : ℕ) → n < N → sum n f ≡ n + min n (A / 2)
    unfolding sum
    to-before zero h = omega arith
    to-before (suc n) h = step (sized n (omega arith)) (to-before n (omega arith))
      where
        step : {m : ℕ} → Sized (n + 1 ≡ N) (2 * n + 2 ≤ A) m → sum n f ≡ n + min n (A / 2) → sum n f + m ≡ suc n + min (suc n) (A / 2)
        step (Sized.nothing p) e = absurd (omega arith)
        step (Sized.single p q) e = omega arith
        step (Sized.double p q) e = omega arith

    -- all gateways but N − 1 have one, and the first half of A have a second
    pub to-sum : sum N f ≡ N - 1 + A / 2
    unfolding sum
    to-sum =
        let e : N ≡ suc (N - 1) = omega arith in
        ap (λ (k : ℕ). sum k f) e ∙ omega (arith, to-before (N - 1) (omega arith), none (sized (N - 1) (omega arith)))
      where
        none : {m : ℕ} → Sized (N - 1 + 1 ≡ N) (2 * (N - 1) + 2 ≤ A) m → m ≡ 0
        none (Sized.nothing p) = refl
        none (Sized.single p q) = absurd (p (omega arith))
        none (Sized.double p q) = absurd (p (omega arith))

  module _ (sized : (i : ℕ) → i < N → Sized (i ≡ 0) (B + N + 1 ≤ 2 * i) (f i)) where
    from-before : (n : ℕ) → n < N → sum (suc n) f ≡ n + (suc n - (N - A / 2))
    unfolding sum
    from-before zero h = step (sized 0 h)
      where
        step : {m : ℕ} → Sized (zero ≡ 0) (B + N + 1 ≤ 2 * 0) m → 0 + m ≡ 0 + (1 - (N - A / 2))
        step (Sized.nothing p) = omega arith
        step (Sized.single p q) = absurd (p refl)
        step (Sized.double p q) = absurd (p refl)
    from-before (suc n) h = step (sized (suc n) h) (from-before n (omega arith))
      where
        step : {k m : ℕ} → Sized (suc n ≡ 0) (B + N + 1 ≤ 2 * suc n) m → k ≡ n + (suc n - (N - A / 2)) → k + m ≡ suc n + (suc (suc n) - (N - A / 2))
        step (Sized.nothing p) e = absurd (omega arith)
        step (Sized.single p q) e = omega arith
        step (Sized.double p q) e = omega arith

    -- all gateways but 0 have one, and as many of the last have a second
    pub from-sum : sum N f ≡ N - 1 + A / 2
    from-sum =
        let e : N ≡ suc (N - 1) = omega arith in
        ap (λ (k : ℕ). sum k f) e ∙ omega (arith, from-before (N - 1) (omega arith))

-- every gateway but 0 is sent one Update
updates-before : (N n : ℕ) → sum n (λ i. length (children N i)) ≡ min n (N / 2) + min n ((N - 1) / 2)
unfolding sum children
updates-before N zero = omega arith
updates-before N (suc n) = go (dec_lt (2 * n + 1) N) (dec_lt (2 * n + 2) N) (updates-before N n)
  where
    go : Dec (2 * n + 1 < N) → Dec (2 * n + 2 < N) → sum n (λ i. length (children N i)) ≡ min n (N / 2) + min n ((N - 1) / 2) → sum n (λ i.
        length (children N i)) + length (children N n) ≡ min (suc n) (N / 2) + min (suc n) ((N - 1) / 2)
    go (yes p) (yes q) e = rw (lt-ltb (2 * n + 1) N p, lt-ltb (2 * n + 2) N q) (omega arith)
    go (yes p) (no q) e = rw (lt-ltb (2 * n + 1) N p, le-ltb (2 * n + 2) N (omega arith)) (omega arith)
    go (no p) (yes q) e = absurd (omega arith)
    go (no p) (no q) e = rw (le-ltb (2 * n + 1) N (omega arith), le-ltb (2 * n + 2) N (omega arith)) (omega arith)

pub updates-sum : (N : ℕ) → 1 ≤ N → sum N (λ i. length (children N i)) ≡ N - 1
updates-sum N h = omega (arith, updates-before N N)
