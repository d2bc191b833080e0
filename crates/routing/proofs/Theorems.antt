-- The laws of the arcs, for every N from 1.
use mathlib.Core.Path.{◌≡◌, refl, sym, ◌∙◌, ap, subst}
use mathlib.Core.Logic.{◌↔◌, ◌⊎◌, inl, inr, ⊎_elim}
use mathlib.Core.Bool.{true, false≢true}
use mathlib.Core.List.Memᴰ
use mathlib.Core.List.Memᴰ.{head as here}
use mathlib.Core.List.Memᴰ.{tail as there}
use mathlib.Core.List.{List, [], ◌∷◌, ◌++◌, map}
use mathlib.Core.List.{cons-ne-nil}
use Prim.Native.Nat.{ℕ, zero, suc, ◌+◌, ◌*◌, ◌-◌, ◌/◌, ◌^◌, ◌≤◌, ◌<◌}
use native.Mathlib.Omega.{arith}
use native.Mathlib.Numerals.{add-one}
use native.Mathlib.Decide.{dec_lt}
use lib.ListN.{length, length-append, length-map}
use Rattle.lists.specs.Lists.{◌∈◌, Ascending, none, more}
use Rattle.lists.specs.Families.{sum}
use Rattle.routing.specs.Figure2.{Row}
use Rattle.routing.specs.Arcs.{from, to, mid0, mid1, Arc, arcs_of_first, arcs, arc_count, children, round_messages, Before, Laws}
use Rattle.routing.proofs.Shape.{Split, From, To, Sized, from_some, to_some, to-joined, from-joined, joined_to, joined-from}
use Rattle.routing.proofs.Shape.{joined-up, to-size, from-size, three, to-ascends, from-descends}
use Rattle.lists.proofs.FamilyLaws.{sum-add}
use Rattle.routing.proofs.Counting.{to-sum, from-sum, updates-sum}
use Rattle.routing.proofs.Reading.{loop_ended, twice_power, one-fit, Fit, RowIs, one-row, two-rows, mids, figure-from, figure-to, from_is, to_is}

-- two ascending lists one behind the other
ascending-append : {A : Type 0} {R : A → A → Type 0} {xs ys : List A} → Ascending R xs → Ascending R ys
    → ((x y : A) → x ∈ xs → y ∈ ys → R x y) → Ascending R (xs ++ ys)
ascending-append none b c = b
ascending-append (more {x = x} {xs = xs} f a) b c =
    more (λ y m. ⊎_elim (f y) (c x y (here refl)) (Memᴰ.append_cases xs m)) (ascending-append a b (λ u v p q. c u v (there p) q))

-- the arcs that leave gateway i
out_of : ℕ → List ℕ → List Arc
out_of i l = map (λ (j : ℕ). (i, j)) l

out-has : (i : ℕ) (l : List ℕ) {a b : ℕ} → b ∈ l → a ≡ i → (a, b) ∈ out_of i l
unfolding out_of
out-has i (x ∷ l) (here e) f = here (λ k. (f k, e k))
out-has i (x ∷ l) (there m) f = there (out-has i l m f)
out-has i [] {a = a} {b = b} x'' f = elim x'' [ ]

out-of : (i : ℕ) (l : List ℕ) {c : Arc} → c ∈ out_of i l → (c.0 ≡ i) × (c.1 ∈ l)
unfolding out_of
out-of i (x ∷ l) (here e) = (ap (λ (c : Arc). c.0) e, here (ap (λ (c : Arc). c.1) e))
out-of i (x ∷ l) (there m) = let r = out-of i l m in (r.0, there r.1)
out-of i [] {c = c} x' = elim x' [ ]

out-ascends : (i : ℕ) {l : List ℕ} → Ascending ◌<◌ l → Ascending Before (out_of i l)
unfolding out_of
out-ascends i none = none
out-ascends i (more {x = x} {xs = xs} f a) =
    more (λ c m. let r = out-of i xs m in inr (sym r.0, f c.1 r.1)) (out-ascends i a)

-- the arcs that leave the first n gateways
module _ (N : ℕ) where
  listed : (n : ℕ) {c : Arc} → c ∈ arcs_of_first N n → (c.0 < n) × (c.1 ∈ to N c.0)
  unfolding arcs_of_first out_of
  listed (suc n) {c} m =
      ⊎_elim
      (λ l. let r = listed n l in (omega arith, r.1))
      (λ l. let r = out-of n (to N n) l in (omega arith, subst (λ (i : ℕ). c.1 ∈ to N i) (sym r.0) r.1))
      (Memᴰ.append_cases (arcs_of_first N n) m)
  listed zero {c = c} m = elim m [ ]

  lists : (n i j : ℕ) → i < n → j ∈ to N i → (i, j) ∈ arcs_of_first N n
  unfolding arcs_of_first out_of
  lists zero i j h m = absurd (omega arith)
  lists (suc n) i j h m =
      ⊎_elim
      (λ l. Memᴰ.append_left (out_of n (to N n)) (lists n i j l m))
      (λ e. Memᴰ.append_right (arcs_of_first N n) (out-has n (to N n) (subst (λ (i : ℕ). j ∈ to N i) e m) e))
      (below-or-last (dec_lt i n))
    where
      below-or-last : Dec (i < n) → (i < n) ⊎ (i ≡ n)
      below-or-last (yes l) = inl l
      below-or-last (no l) = inr (omega arith)

  in_order : ((i : ℕ) → i < N → Ascending ◌<◌ (to N i)) → (n : ℕ) → n ≤ N → Ascending Before (arcs_of_first N n)
  unfolding arcs_of_first out_of
  in_order once zero h = none
  in_order once (suc n) h =
      ascending-append (in_order once n (omega arith)) (out-ascends n (once n h))
      (λ x y p q. inl (omega (arith, (listed n p).0, (out-of n (to N n) q).0)))

  pub listed-count : (n : ℕ) → length (arcs_of_first N n) ≡ sum n (λ (i : ℕ). length (to N i))
  unfolding arcs_of_first sum
  listed-count zero = refl
  listed-count (suc n) = simp (length-append, length-map) (omega (arith, listed-count n))

module _ (N : ℕ) (some : 1 ≤ N) where
  -- from and to have Figure 2's branches
  pub from-case : (i : ℕ) → i < N → From N (mid0 N) (mid1 N) i (from N i)
  from-case i h = let g = from_some N (mid0 N) (mid1 N) i h in rw (from_is N i h g.1) g.1

  pub to-case : (i : ℕ) → i < N → To N (mid0 N) (mid1 N) i (to N i)
  to-case i h = let g = to_some N (mid0 N) (mid1 N) i h in rw (to_is N i h g.1) g.1

  split : Split N (mid0 N) (mid1 N)
  split = (mids N 0 some).split

  to-has : (i : ℕ) → i < N → Sized (i + 1 ≡ N) (2 * i + 2 ≤ mid0 N) (length (to N i))
  to-has i h = to-size split (to-case i h)

  from-has : (i : ℕ) → i < N → Sized (i ≡ 0) (mid1 N + N + 1 ≤ 2 * i) (length (from N i))
  from-has i h = from-size split (from-case i h)

  lvts : ℕ
  lvts = sum N (λ (i : ℕ). length (from N i))

  pub count-is : arc_count N ≡ N - 1 + mid0 N / 2
  unfolding arc_count
  count-is = to-sum split (λ (i : ℕ). length (to N i)) to-has

  lvts-are : lvts ≡ N - 1 + mid0 N / 2
  unfolding lvts
  lvts-are = from-sum split (λ (i : ℕ). length (from N i)) from-has

  parts : round_messages N ≡ arc_count N + lvts + sum N (λ (i : ℕ). length (children N i))
  unfolding round_messages arc_count lvts
  parts =
      sum-add N (λ (i : ℕ). length (to N i) + length (from N i)) (λ (i : ℕ). length (children N i))
      ∙ ap (λ (s : ℕ). s + sum N (λ (i : ℕ). length (children N i))) (sum-add N (λ (i : ℕ). length (to N i)) (λ (i : ℕ). length (from N i)))

  pub round_is : round_messages N ≡ 2 * arc_count N + (N - 1)
  round_is = omega (arith, parts, count-is, lvts-are, updates-sum N some)

  -- only 0 hears from none, and only N − 1 tells none
  empty : {none two : Type 0} (l : List ℕ) → Sized none two (length l) → (l ≡ []) ↔ none
  empty [] (Sized.nothing p) = (λ e. p, λ q. refl)
  empty (x ∷ []) (Sized.single p q) = (λ e. absurd (cons-ne-nil x [] e), λ n. absurd (p n))
  empty (x ∷ y ∷ []) (Sized.double p q) = (λ e. absurd (cons-ne-nil x (y ∷ []) e), λ n. absurd (p n))
  empty {two = two} (x ∷ (y ∷ (_ ∷ _))) x8 = elim x8 [ ]

  shared-iff : (k : ℕ) {r : Row} → Fit N (2 ^ k) → RowIs N (2 ^ k) (mid0 N) (mid1 N) r
      → (r.shared ≡ true) ↔ ((j : ℕ) × (2 ^ (j + 1) ≤ N + 1) × (N + 2 ≤ 3 * 2 ^ j))
  shared-iff k f (one-row p q r) = (λ e. (k, rw (add-one k) (omega (arith, twice_power k)), p), λ w. refl)
  shared-iff k f (two-rows p q r) = (
    λ e. absurd (false≢true e),
    λ w.
        let low : 2 ^ suc w.0 ≤ N + 1 = rw (add-one w.0) at w.1 in
        let g : Fit N (2 ^ w.0) = record { low = omega (arith, twice_power w.0); high = omega (arith, w.2) } in
        absurd (omega (arith, w.2, ap (λ (j : ℕ). 2 ^ j) (one-fit k w.0 f g))),
  )

  pub laws : Laws N
  unfolding arcs arc_count
  laws =
      record {
        ended = λ more. loop_ended N more some;
        natural = λ i h. (sym (figure-from N i h (from-case i h)), sym (figure-to N i h (to-case i h)));
        symmetric = λ i j hi hj. (
          λ m. joined-from split (from-case j hj) (to-joined split (to-case i hi) m),
          λ m. joined_to split (to-case
              i hi) (from-joined split hj (from-case j hj) m),
        );
        upward = λ i j h m. joined-up split (to-joined split (to-case i h) m);
        upward_from = λ i j h m. (joined-up split (from-joined split h (from-case j h) m)).0;
        once_to = λ i h. to-ascends (to-case i h);
        once_from = λ i h. from-descends (from-case i h);
        complete = λ i j. (λ m. listed N N m, λ m. lists N N i j m.0 m.1);
        ordered = in_order N (λ i h. to-ascends (to-case i h)) N (omega arith);
        first = λ i h. empty (from N i) (from-has i h);
        last = λ i h. empty (to N i) (to-has i h);
        three = λ i h. three split (from-has i h) (to-has i h);
        counted = sym (listed-count N N);
        round = round_is;
        bounded = omega (arith, round_is, count-is, split.all);
        sharing = λ i. let m = mids N i some in shared-iff m.k m.fit m.is;
      }
