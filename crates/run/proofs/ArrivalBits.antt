-- What has arrived at a gateway from those of a list: as bits, one for each in the list's order, and as a number.
use mathlib.Core.Path.{◌≡◌, refl, sym, ◌∙◌, ap}
use mathlib.Core.Logic.{◌≢◌}
use mathlib.Core.Bool.{Bool, true, false, cond}
use mathlib.Core.List.{List, [], ◌∷◌}
use Prim.Native.Nat.{ℕ, suc, ◌+◌, ◌*◌, ◌≤◌, ◌<◌}
use native.Mathlib.Omega.{arith}
use native.Mathlib.Decide.{ℕ_discrete}
use lib.Dec.{eqb}
use lib.ListN.{length}
use Rattle.lists.specs.Lists.{All, nil, cons, count, tally}
use Rattle.lists.proofs.ListLaws.{matches-equal, matches-other}
use Rattle.lists.proofs.FamilyLaws.{Same, same, other, same?}
use Rattle.gateway.specs.Rounds.{bit_of, all_bits, awaited}
use Rattle.round_steps.specs.Arcs.{times}

-- 1 for what passes
abbrev pub one_if : Bool → ℕ
one_if b = cond b 1 0

-- the bits of the gateways that pass the test
unfoldable pub bits_of : (ℕ → Bool) → List ℕ → ℕ
bits_of f [] = 0
bits_of f (x ∷ l) = one_if (f x) + 2 * bits_of f l

-- how many of them there are
unfoldable pub how_many : (ℕ → Bool) → List ℕ → ℕ
how_many f l = tally (λ x. one_if (f x)) l

module _ (f g : ℕ → Bool) where
  -- tests that agree on the list
  pub alike : (l : List ℕ) → ((x : ℕ) → 1 ≤ times x l → f x ≡ g x) → (bits_of f l ≡ bits_of g l) × (how_many f l ≡ how_many g l)
  unfolding bits_of how_many count tally
  alike [] e = (refl, refl)
  alike (x ∷ l) e =
      let (p, q) = alike l (λ y h. e y (omega arith)) in
      let d : one_if (f x) ≡ one_if (g x) = ap one_if (e x (omega (arith, matches-equal ℕ_discrete {a = x} {b = x} refl))) in
      (omega arith, omega arith)

  -- one more gateway, which stands in the list once, passes
  pub one_more : (k : ℕ) → f k ≡ false → g k ≡ true → ((x : ℕ) → k ≢ x → f x ≡ g x) → (l : List ℕ) → times k l ≡ 1
      → (bits_of f l + bit_of k l ≡ bits_of g l) × (suc (how_many f l) ≡ how_many g l)
  unfolding bits_of how_many bit_of count tally
  one_more k before after others [] h = absurd (omega arith)
  one_more k before after others (x ∷ l) h = go (same? k x) (one_more k before after others l)
    where
      bit : Bool → ℕ
      bit b = cond b 1 (2 * bit_of k l)

      go : Same k x → (times k l ≡ 1 → (bits_of f l + bit_of k l ≡ bits_of g l) × (suc (how_many f l) ≡ how_many g l))
          → (one_if (f x) + 2 * bits_of f l + bit (eqb k x) ≡ one_if (g x) + 2 * bits_of g l)
          × (suc (one_if (f x) + how_many f l) ≡ one_if (g x) + how_many g l)
      go (same p e) rest =
          let (a, b) = alike l (λ y c. others y (λ q. omega (arith, matches-equal ℕ_discrete {a = k} {b = x} p, ap (λ z. times z l) q))) in
          let c : one_if (f x) ≡ 0 = ap one_if (sym (ap f p) ∙ before) in
          let d : one_if (g x) ≡ 1 = ap one_if (sym (ap g p) ∙ after) in
          (omega (arith, ap bit e), omega arith)
      go (other p e) rest =
          let (a, b) = rest (omega (arith, matches-other ℕ_discrete {a = k} {b = x} p)) in
          let d : one_if (f x) ≡ one_if (g x) = ap one_if (others x p) in
          (omega (arith, ap bit e), omega arith)

module _ (f : ℕ → Bool) where
  -- none passes
  pub none_in : (l : List ℕ) → ((x : ℕ) → 1 ≤ times x l → f x ≡ false) → (bits_of f l ≡ 0) × (how_many f l ≡ 0)
  unfolding bits_of how_many count tally
  none_in [] e = (refl, refl)
  none_in (x ∷ l) e =
      let (p, q) = none_in l (λ y h. e y (omega arith)) in
      let d : one_if (f x) ≡ 0 = ap one_if (e x (omega (arith, matches-equal ℕ_discrete {a = x} {b = x} refl))) in
      (omega arith, omega arith)

  -- all bits stand exactly if all pass, and then they are as many as the list has
  pub data AllIn (l : List ℕ) : Type 0 where
    all_in : All (λ x. f x ≡ true) l → bits_of f l ≡ all_bits l → how_many f l ≡ length l → AllIn l
    not-all : bits_of f l < all_bits l → how_many f l < length l → AllIn l

  pub all-in? : (l : List ℕ) → AllIn l
  unfolding bits_of how_many all_bits tally
  all-in? [] = all_in nil refl refl
  all-in? (x ∷ l) = go (f x) refl (all-in? l)
    where
      go : (b : Bool) → f x ≡ b → AllIn l → AllIn (x ∷ l)
      go true e (all_in a p q) = all_in (cons e a) (rw e (omega arith)) (rw e (omega arith))
      go true e (not-all p q) = not-all (rw e (omega arith)) (rw e (omega arith))
      go false e (all_in a p q) = not-all (rw e (omega arith)) (rw e (omega arith))
      go false e (not-all p q) = not-all (rw e (omega arith)) (rw e (omega arith))

  -- one of a list of at most two that does not pass is awaited
  pub first-arrival : (k : ℕ) (l : List ℕ) → length l ≤ 2 → 1 ≤ times k l → f k ≡ false → awaited k l (bits_of f l) ≡ true
  unfolding bits_of bit_of count tally
  first-arrival k [] few h e = absurd (omega arith)
  first-arrival k (x ∷ []) few h e = go (same? k x)
    where
      go : Same k x → awaited k (x ∷ []) (bits_of f (x ∷ [])) ≡ true
      go (same p q) = rw (q, sym (ap f p) ∙ e) refl
      go (other p q) = absurd (omega (arith, matches-other ℕ_discrete {a = k} {b = x} p))
  first-arrival k (x ∷ y ∷ []) few h e = go (same? k x) (same? k y) (f x) (f y) refl refl
    where
      go : Same k x → Same k y → (b c : Bool) → f x ≡ b → f y ≡ c → awaited k (x ∷ y ∷ []) (bits_of f (x ∷ y ∷ [])) ≡ true
      go (same p q) s b true u v = rw (q, sym (ap f p) ∙ e, v) refl
      go (same p q) s b false u v = rw (q, sym (ap f p) ∙ e, v) refl
      go (other p q) (same r z) true c u v = rw (q, z, sym (ap f r) ∙ e, u) refl
      go (other p q) (same r z) false c u v = rw (q, z, sym (ap f r) ∙ e, u) refl
      go (other p q) (other r z) b c u v = absurd (omega (arith, matches-other ℕ_discrete {a = k} {b = x} p, matches-other ℕ_discrete {a = k} {b = y} r))
  first-arrival k (x ∷ y ∷ z ∷ l) few h e = absurd (omega arith)
