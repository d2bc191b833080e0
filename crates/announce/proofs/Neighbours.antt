-- Laws of at most two gateways: that Figure 2's numbers are bytes, and their bits.
use mathlib.Core.Path.{◌≡◌, refl, sym, ◌∙◌, ap}
use mathlib.Core.Bool.{Bool, true, false, false≢true}
use mathlib.Core.List.{List, [], ◌∷◌}
use Prim.Native.Nat.{ℕ, zero, suc, ◌+◌, ◌*◌, ◌≤◌, ◌<◌}
use native.Mathlib.Omega.{arith}
use borrow.Author.Tests.{lt-ltb, le-ltb, eq-eqb, ne_eqb, eqb-true, eqb-false}
use Rattle.std.specs.Prelude.{Option, Some, nat_eq}
use Rattle.std.specs.Option.{option_eq}
use Rattle.std.specs.List.{All, slice_get}
use Rattle.gateway.specs.Rounds.{bit_of}
use Rattle.routing.specs.AtMostTwo.{listed}
use Rattle.routing.specs.declared.at_most_two.AtMostTwo.{AtMostTwo}
use Rattle.routing.specs.declared.at_most_two.AtMostTwo.TheVariants.{None, One, Two}
use Rattle.routing.specs.Arcs.{from, to, children}
use Rattle.routing.proofs.FewArcs.{TwoBelow, from-few, to-few}

-- at most two numbers below N are bytes if N is one
bytes-below : {N : ℕ} {l : List ℕ} → N < 256 → TwoBelow N l → All (λ k. k < 256) l
bytes-below {l = []} small b i d h = absurd (omega arith)
bytes-below {l = x ∷ []} small b zero d h = omega (arith, b.first)
bytes-below {l = x ∷ []} small b (suc i) d h = absurd (omega arith)
bytes-below {l = x ∷ y ∷ []} small b zero d h = omega (arith, b.first)
bytes-below {l = x ∷ y ∷ []} small b (suc zero) d h = omega (arith, b.second)
bytes-below {l = x ∷ y ∷ []} small b (suc (suc i)) d h = absurd (omega arith)
bytes-below {l = x ∷ y ∷ z ∷ l} small b i d h = absurd (omega (arith, b.two))

-- what routing gives are bytes
pub bytes-heard : {N n own : ℕ} {l : List ℕ} → n ≡ N → N < 256 → own < N → l ≡ from n own → All (λ k. k < 256) l
bytes-heard {N} {n} {own} e small h f = rw (f, e) (bytes-below small (from-few N own h))

pub bytes-told : {N n own : ℕ} {l : List ℕ} → n ≡ N → N < 256 → own < N → l ≡ to n own → All (λ k. k < 256) l
bytes-told {N} {n} {own} e small h f = rw (f, e) (bytes-below small (to-few N own h))

-- whom an Update goes on to
module _ (n own : ℕ) where
  pub no-child : n ≤ 2 * own + 1 → [] ≡ children n own
  unfolding children
  no-child h = rw (le-ltb (2 * own + 1) n h, le-ltb (2 * own + 2) n (omega arith))

  pub one-child : n ≡ 2 * own + 1 + 1 → (2 * own + 1) ∷ [] ≡ children n own
  unfolding children
  one-child h = rw (lt-ltb (2 * own + 1) n (omega arith), le-ltb (2 * own + 2) n (omega arith))

  pub two-children : 2 * own + 1 + 1 < n → (2 * own + 1) ∷ (2 * own + 1 + 1) ∷ [] ≡ children n own
  unfolding children
  two-children h =
      let e : 2 * own + 1 + 1 ≡ 2 * own + 2 = omega arith in
      rw (lt-ltb (2 * own + 1) n (omega arith), lt-ltb (2 * own + 2) n (omega arith), e)

-- whether a gateway stands at an index of at most two
abbrev At : ℕ → AtMostTwo ℕ → ℕ → Bool → Type 0
At k among i b = option_eq nat_eq (slice_get (listed among) i) (Some k) ≡ b

pub at : (k : ℕ) (among : AtMostTwo ℕ) (i : ℕ) {found : Option ℕ} {b c : Bool} → found ≡ slice_get (listed among) i → b ≡ option_eq nat_eq found (Some k) → b ≡ c
    → At k among i c
at k among i f e t = ap (λ (found : Option ℕ). option_eq nat_eq found (Some k)) (sym f) ∙ (sym e ∙ t)

module _ (k : ℕ) where
  pub bit-first : (among : AtMostTwo ℕ) → At k among 0 true → 1 ≡ bit_of k (listed among)
  unfolding bit_of
  bit-first None e = absurd (false≢true e)
  bit-first (One x) e = rw (eq-eqb k x (sym (eqb-true x k e)))
  bit-first (Two x y) e = rw (eq-eqb k x (sym (eqb-true x k e)))

  pub bit-second : (among : AtMostTwo ℕ) → At k among 0 false → At k among 1 true → 2 ≡ bit_of k (listed among)
  unfolding bit_of
  bit-second None n e = absurd (false≢true e)
  bit-second (One x) n e = absurd (false≢true e)
  bit-second (Two x y) n e = rw (ne_eqb k x (λ h. eqb-false x k n (sym h)), eq-eqb k y (sym (eqb-true y k e)))

  pub bit-none : (among : AtMostTwo ℕ) → At k among 0 false → At k among 1 false → 0 ≡ bit_of k (listed among)
  unfolding bit_of
  bit-none None n e = refl
  bit-none (One x) n e = rw (ne_eqb k x (λ h. eqb-false x k n (sym h)))
  bit-none (Two x y) n e = rw (ne_eqb k x (λ h. eqb-false x k n (sym h)), ne_eqb k y (λ h. eqb-false y k e (sym h)))
