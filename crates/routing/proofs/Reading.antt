-- Figure 2 read in unsigned numbers: its loop finds the power of two that fits N, its middles are a split of N, and its from and to are those of Shape.
use mathlib.Core.Path.{◌≡◌, refl, sym, ◌∙◌, ap, subst}
use mathlib.Core.Bool.{Bool, true, false, cond}
use mathlib.Core.List.{List, [], ◌∷◌, map}
use Prim.Native.Nat.{ℕ, zero, suc, ◌+◌, ◌*◌, ◌-◌, ◌/◌, ◌%◌, ◌^◌, ◌≤◌, ◌<◌}
use native.Mathlib.Omega.{arith}
use native.Mathlib.Nat.{two-pow-succ, one-le-pow, pow-le-pow_right}
use native.Mathlib.Decide.{dec_lt, dec_le, ℕ_discrete}
use lib.Dec.{ltb}
use lib.IntN.{ℤ, pos, nat_abs, ◌+ℤ◌, ◌-ℤ◌, ◌*ℤ◌}
use lib.Signed.{quot_z}
use borrow.Author.Tests.{lt-ltb, le-ltb, eq-eqb, ne_eqb}
use Rattle.routing.specs.Figure2.{Row, widen, share, set_from, set_to, gvtcfg, odd_z}
use Rattle.routing.specs.Arcs.{figure2, loop_end, from, to, shared, mid0, mid1}
use Rattle.routing.proofs.Difference.{Diff, diff-as, diff-pos, diff-plus, diff-minus, diff-from, diff-double, diff_is, le_yes, le-no, eq_yes, eq_no}
use Rattle.routing.proofs.Shape.{Split, From, To}

-- the power of two at which the loop stops
pub record Fit (N P : ℕ) : Type 0 where
  pub low : 2 * P ≤ N + 1
  pub high : N + 1 < 4 * P

pub twice_power : (k : ℕ) → 2 ^ suc k ≡ 2 * 2 ^ k
twice_power k = two-pow-succ k ∙ omega arith

positive : (k : ℕ) → 1 ≤ 2 ^ k
positive k = one-le-pow k 2 (omega arith)

-- only one power of two fits N
pub one-fit : {N : ℕ} (j k : ℕ) → Fit N (2 ^ j) → Fit N (2 ^ k) → j ≡ k
one-fit {N} j k f g = go (dec_lt j k) (dec_lt k j)
  where
    go : Dec (j < k) → Dec (k < j) → j ≡ k
    go (yes h) q = absurd (omega (arith, twice_power j, pow-le-pow_right {n = 2} (omega arith) h))
    go (no p) (yes h) = absurd (omega (arith, twice_power k, pow-le-pow_right {n = 2} (omega arith) h))
    go (no p) (no q) = omega arith

-- a turn, by its test
widen-turn : (t M p : ℕ) {b : Bool} → ltb p (M + 1) ≡ b → widen (suc t) (pos M) (pos p) ≡ elim b as (λ x. ℤ) [
  | true ↦ widen t (pos M) (pos
      (2 * p + 1))
  | false ↦ pos p
]
unfolding widen
widen-turn t M p e = ap (λ (b : Bool). elim b as (λ x. ℤ) [ true ↦ widen t (pos M) (pos (2 * p + 1)) | false ↦ pos p ]) e

widen-ends : (turns M k : ℕ) → 2 ^ k ≤ M + 1 → M + 1 < 2 * 2 ^ k + turns
    → (j : ℕ) × (widen turns (pos M) (pos (2 * 2 ^ k - 1)) ≡ pos (2 * 2 ^ j - 1)) × (2 ^ j ≤ M + 1) × (M + 1 < 2 * 2 ^ j)
unfolding widen
widen-ends zero M k low enough = (k, refl, low, omega arith)
widen-ends (suc t) M k low enough = go (dec_lt (2 * 2 ^ k - 1) (M + 1)) (widen-ends t M (suc k))
  where
    go : Dec (2 * 2 ^ k - 1 < M + 1)
        → (2 ^ suc k ≤ M + 1 → M + 1 < 2 * 2 ^ suc k + t → (j : ℕ) × (widen t (pos M) (pos (2 * 2 ^ suc k - 1)) ≡ pos (2 * 2 ^ j - 1)) × (2
        ^ j ≤ M + 1) × (M + 1 < 2 * 2 ^ j))
        → (j : ℕ) × (widen (suc t) (pos M) (pos (2 * 2 ^ k - 1)) ≡ pos (2 * 2 ^ j - 1)) × (2 ^ j ≤ M + 1) × (M + 1 < 2 * 2 ^ j)
    go (yes h) next =
        let e : 2 * (2 * 2 ^ k - 1) + 1 ≡ 2 * 2 ^ suc k - 1 = omega (arith, twice_power k, positive k) in
        rw (widen-turn t M (2 * 2 ^ k - 1) (lt-ltb (2 * 2 ^ k - 1) (M + 1) h), e) (next (omega (arith, twice_power k)) (omega (
          arith,
          twice_power k,
          positive k,
        )))
    go (no h) next = (k, widen-turn t M (2 * 2 ^ k - 1) (le-ltb (2 * 2 ^ k - 1) (M + 1) (omega arith)), low, omega (arith, positive k))

-- the middles: one row shared by both trees, or a bottom row for each
pub data RowIs (N P A B : ℕ) : Row → Type 0 where
  one-row : N + 2 ≤ 3 * P → A + P ≡ N → B + 1 ≡ P → RowIs N P A B (record { shared = true; Mid0 = pos A; Mid1 = pos B })
  two-rows : 3 * P < N + 2 → A ≡ (N - 1) / 2 → B ≡ N / 2 → RowIs N P A B (record { shared = false; Mid0 = pos A; Mid1 = pos B })

pub record Found (N : ℕ) (r : Row) : Type 0 where
  pub k : ℕ
  pub A : ℕ
  pub B : ℕ
  pub fit : Fit N (2 ^ k)
  pub is : RowIs N (2 ^ k) A B r

share-is : (N P : ℕ) {pen0 pen1 Mid0 Mid1 : ℤ} → Fit N P → Diff P 2 pen0 → Diff (N + 1) P pen1 → Mid0 ≡ pos ((N - 1) / 2) → Mid1 ≡ pos (N / 2)
    → (A : ℕ) × (B : ℕ) × RowIs N P A B (share pen0 pen1 Mid0 Mid1)
unfolding share
share-is N P {pen0} {pen1} {Mid0} {Mid1} f d0 d1 m0 m1 = go (dec_le (N + 2) (3 * P))
  where
    bound : Diff (2 * P + 3) (2 * 2) (pos 2 *ℤ pen0 +ℤ pos 3)
    bound = diff-plus (diff-double d0) 3

    go : Dec (N + 2 ≤ 3 * P) → (A : ℕ) × (B : ℕ) × RowIs N P A B (share pen0 pen1 Mid0 Mid1)
    go (yes h) = (
      N - P,
      P - 1,
      rw (le_yes d1 bound (omega arith), diff_is (diff-minus d1 1) (N - P) (omega arith), diff_is (diff-plus d0 1) (P - 1) (omega arith))
          (one-row h (omega arith) (omega arith)),
    )
    go (no h) = (
      (N - 1) / 2,
      N / 2,
      rw (le-no d1 bound (omega arith), m0, m1) (two-rows (omega arith) refl refl),
    )

start0 : (N : ℕ) → 1 ≤ N → quot_z (pos N -ℤ pos 1) (pos 2) ≡ pos ((N - 1) / 2)
start0 N h = ap (λ (z : ℤ). quot_z z (pos 2)) (diff_is (diff-minus (diff-pos N) 1) (N - 1) (omega arith))

start1 : (N : ℕ) → 1 ≤ N → {z : ℤ} → z ≡ pos ((N - 1) / 2) → cond (odd_z (pos N)) z (z +ℤ pos 1) ≡ pos (N / 2)
start1 N h {z} e = go (ℕ_discrete (N % 2) 1)
  where
    go : Dec (N % 2 ≡ 1) → cond (odd_z (pos N)) z (z +ℤ pos 1) ≡ pos (N / 2)
    go (yes o) = rw (eq-eqb (N % 2) 1 o, e) (ap pos (omega arith))
    go (no o) = rw (ne_eqb (N % 2) 1 o, e) (ap pos (omega arith))

-- where the loop stops, whatever the turns beyond N
loop-ends : (N turns : ℕ) → 1 ≤ N → N ≤ turns → (k : ℕ) × (loop_end N turns ≡ pos (2 * 2 ^ k - 1)) × Fit N (2 ^ k)
loop-ends N turns h enough =
    let ends = widen-ends turns ((N - 1) / 2) 0 (omega arith) (omega arith) in
    (ends.0, ap (λ (z : ℤ). widen turns z (pos 1)) (start0 N h) ∙ ends.1, record { low = omega (arith, ends.2); high = omega (arith, ends.3) })

pub loop_ended : (N more : ℕ) → 1 ≤ N → loop_end N (N + more) ≡ loop_end N N
loop_ended N more h =
    let a = loop-ends N (N + more) h (omega arith) in
    let b = loop-ends N N h (omega arith) in
    a.1 ∙ ap (λ (k : ℕ). pos (2 * 2 ^ k - 1)) (one-fit a.0 b.0 a.2 b.2) ∙ sym b.1

pub row_is : (N i : ℕ) → 1 ≤ N → Found N (figure2 N i).row
unfolding gvtcfg
row_is N i h =
    let ends = loop-ends N N h (omega arith) in
    let k : ℕ = ends.0 in
    let w : loop_end N N ≡ pos (2 * 2 ^ k - 1) = ends.1 in
    let fit : Fit N (2 ^ k) = ends.2 in
    let half : Diff (2 ^ k) 2 (quot_z (pos (2 * 2 ^ k - 1)) (pos 2) -ℤ pos 1) = diff-as (2 ^ k) 2 (diff-minus (diff-pos ((2 * 2 ^ k - 1) /
    2)) 1) (omega (arith, positive k)) in
    let d0 : Diff (2 ^ k) 2 (quot_z (loop_end N N) (pos 2) -ℤ pos 1) =
    subst (λ (z : ℤ). Diff (2 ^ k) 2 (quot_z z (pos 2) -ℤ pos 1)) (sym w) half in
    let row = share-is N (2 ^ k) fit d0 (diff-as (N + 1) (2 ^ k) (diff-minus (diff-from N d0) 1) (omega arith)) (start0 N h) (start1 N h (start0 N h)) in
    record { k = k; A = row.0; B = row.1; fit = fit; is = row.2 }

-- the three facts of the middles
pub row-split : {N P A B : ℕ} {r : Row} → Fit N P → RowIs N P A B r → Split N A B
row-split f (one-row p q r) = record { all = omega arith; upper = omega arith; lower = omega arith }
row-split f (two-rows p q r) = record { all = omega arith; upper = omega arith; lower = omega arith }

set_from-is : {N A B i : ℕ} {l : List ℕ} {OutFrom In0 In1 my_inv : ℤ} → From N A B i l → i < N
    → (1 ≤ i → OutFrom ≡ pos ((i - 1) / 2)) → Diff (2 * i) N In0 → Diff (2 * i) (N + 1) In1 → Diff N (i + 1) my_inv
    → set_from (pos i) (pos A) (pos B) OutFrom In0 In1 my_inv ≡ map pos l
unfolding set_from
set_from-is {N} {A} {B} {i} (From.root p) h o d0 d1 dv = rw (eq_yes (diff-pos i) (diff-pos 0) (omega arith))
set_from-is {N} {A} {B} {i} (From.parent p q) h o d0 d1 dv =
    rw (eq_no (diff-pos i) (diff-pos 0) (omega arith), le_yes (diff-pos i) (diff-pos A) (omega arith), o p)
set_from-is {N} {A} {B} {i} (From.two p q r) h o d0 d1 dv =
    rw (
      eq_no (diff-pos i) (diff-pos 0) (omega arith),
      le-no (diff-pos i) (diff-pos A) (omega arith),
      le_yes (diff-pos B) d1 (omega arith),
      diff_is d0 (2 * i - N) (omega arith),
      diff_is d1 (2 * i - N - 1) (omega arith),
    )
set_from-is {N} {A} {B} {i} (From.one p q r) h o d0 d1 dv =
    rw (
      eq_no (diff-pos i) (diff-pos 0) (omega arith),
      le-no (diff-pos i) (diff-pos A) (omega arith),
      le-no (diff-pos B) d1 (omega arith),
      eq_yes (diff-pos B) d0 (omega arith),
      diff_is d0 (2 * i - N) (omega arith),
    )
set_from-is {N} {A} {B} {i} (From.across p q r) h o d0 d1 dv =
    rw (
      eq_no (diff-pos i) (diff-pos 0) (omega arith),
      le-no (diff-pos i) (diff-pos A) (omega arith),
      le-no (diff-pos B) d1 (omega arith),
      eq_no (diff-pos B) d0 (omega arith),
      diff_is dv (N - i - 1) (omega arith),
    )

set_to-is : {N A B i : ℕ} {l : List ℕ} {InTo Out0 Out1 my_inv : ℤ} → To N A B i l → i < N
    → InTo ≡ pos ((N + i + 1) / 2) → Out0 ≡ pos (2 * i + 1) → Out1 ≡ pos (2 * i + 2) → Diff N (i + 1) my_inv
    → set_to (pos N) (pos i) (pos A) (pos B) InTo Out0 Out1 my_inv ≡ map pos l
unfolding set_to
set_to-is {N} {A} {B} {i} (To.root p) h n o0 o1 dv = rw (eq_yes (diff-pos i) (diff-minus (diff-pos N) 1) (omega arith))
set_to-is {N} {A} {B} {i} (To.parent p q) h n o0 o1 dv =
    rw (eq_no (diff-pos i) (diff-minus (diff-pos N) 1) (omega arith), le_yes (diff-pos B) (diff-pos i) (omega arith), n)
set_to-is {N} {A} {B} {i} (To.two p q r) h n o0 o1 dv =
    rw (
      eq_no (diff-pos i) (diff-minus (diff-pos N) 1) (omega arith),
      le-no (diff-pos B) (diff-pos i) (omega arith),
      o0,
      o1,
      le_yes
          (diff-pos (2 * i + 2)) (diff-pos A) (omega arith),
    )
set_to-is {N} {A} {B} {i} (To.one p q r) h n o0 o1 dv =
    rw (
      eq_no (diff-pos i) (diff-minus (diff-pos N) 1) (omega arith),
      le-no (diff-pos B) (diff-pos i) (omega arith),
      o0,
      o1,
      le-no (diff-pos
          (2 * i + 2)) (diff-pos A) (omega arith),
      eq_yes (diff-pos A) (diff-pos (2 * i + 1)) (omega arith),
    )
set_to-is {N} {A} {B} {i} (To.across p q r) h n o0 o1 dv =
    rw (
      eq_no (diff-pos i) (diff-minus (diff-pos N) 1) (omega arith),
      le-no (diff-pos B) (diff-pos i) (omega arith),
      o0,
      o1,
      le-no (diff-pos
          (2 * i + 2)) (diff-pos A) (omega arith),
      eq_no (diff-pos A) (diff-pos (2 * i + 1)) (omega arith),
      diff_is dv (N - i - 1) (omega
          arith),
    )

-- the middles as naturals
pub record Mids (N i : ℕ) : Type 0 where
  pub k : ℕ
  pub fit : Fit N (2 ^ k)
  pub is : RowIs N (2 ^ k) (mid0 N) (mid1 N) (figure2 N i).row
  pub is0 : (figure2 N i).row.Mid0 ≡ pos (mid0 N)
  pub is1 : (figure2 N i).row.Mid1 ≡ pos (mid1 N)
  pub split : Split N (mid0 N) (mid1 N)

by_row : {N P A B : ℕ} {r : Row} → RowIs N P A B r → RowIs N P (nat_abs r.Mid0) (nat_abs r.Mid1) r
by_row (one-row p q r) = one-row p q r
by_row (two-rows p q r) = two-rows p q r

row-mid0 : {N P A B : ℕ} {r : Row} → RowIs N P A B r → r.Mid0 ≡ pos A
row-mid0 (one-row p q r) = refl
row-mid0 (two-rows p q r) = refl

row-mid1 : {N P A B : ℕ} {r : Row} → RowIs N P A B r → r.Mid1 ≡ pos B
row-mid1 (one-row p q r) = refl
row-mid1 (two-rows p q r) = refl

pub mids : (N i : ℕ) → 1 ≤ N → Mids N i
unfolding gvtcfg mid0 mid1
mids N i h =
    let m = row_is N 0 h in
    let r : RowIs N (2 ^ m.k) (mid0 N) (mid1 N) (figure2 N i).row = by_row m.is in
    record { k = m.k; fit = m.fit; is = r; is0 = row-mid0 r; is1 = row-mid1 r; split = row-split m.fit r }

-- Figure 2's lists
module _ (N i : ℕ) (h : i < N) where
  inverse : Diff N (i + 1) (pos N -ℤ pos i -ℤ pos 1)
  inverse = diff-as N (i + 1) (diff-minus (diff-minus (diff-pos N) i) 1) (omega arith)

  pub figure-from : {l : List ℕ} → From N (mid0 N) (mid1 N) i l → (figure2 N i).from ≡ map pos l
  unfolding gvtcfg
  figure-from g =
      let m = mids N i (omega arith) in
      rw (m.is0, m.is1)
      (set_from-is g h
      (λ o. ap (λ (z : ℤ). quot_z z (pos 2)) (diff_is (diff-minus (diff-pos i) 1) (i - 1) (omega arith)))
      (diff-as (2 * i) N (diff-minus (diff-pos (2 * i)) N) (omega arith))
      (diff-as (2 * i) (N + 1) (diff-minus (diff-minus (diff-pos (2 * i)) N) 1) (omega arith))
      inverse)

  pub figure-to : {l : List ℕ} → To N (mid0 N) (mid1 N) i l → (figure2 N i).to ≡ map pos l
  unfolding gvtcfg
  figure-to g =
      let m = mids N i (omega arith) in
      rw (m.is0, m.is1) (set_to-is g h refl refl (ap pos (omega arith)) inverse)

naturals : (l : List ℕ) → map nat_abs (map pos l) ≡ l
naturals [] = refl
naturals (x ∷ l) = ap (λ (r : List ℕ). x ∷ r) (naturals l)

pub from_is : (N i : ℕ) → i < N → {l : List ℕ} → From N (mid0 N) (mid1 N) i l → from N i ≡ l
unfolding from
from_is N i h {l} g = ap (map nat_abs) (figure-from N i h g) ∙ naturals l

pub to_is : (N i : ℕ) → i < N → {l : List ℕ} → To N (mid0 N) (mid1 N) i l → to N i ≡ l
unfolding to
to_is N i h {l} g = ap (map nat_abs) (figure-to N i h g) ∙ naturals l

-- the power and the branch fix the row
same-middles : {N P A B C D : ℕ} {r q : Row} → RowIs N P A B r → RowIs N P C D q → (r.shared ≡ q.shared) × (A ≡ C) × (B ≡ D)
same-middles (one-row a b c) (one-row d e f) = (refl, omega arith, omega arith)
same-middles (one-row a b c) (two-rows d e f) = absurd (omega arith)
same-middles (two-rows a b c) (one-row d e f) = absurd (omega arith)
same-middles (two-rows a b c) (two-rows d e f) = (refl, omega arith, omega arith)

pub middles-are : (N k : ℕ) {A B : ℕ} {r : Row} → 1 ≤ N → Fit N (2 ^ k) → RowIs N (2 ^ k) A B r
    → (r.shared ≡ shared N) × (A ≡ mid0 N) × (B ≡ mid1 N)
unfolding shared
middles-are N k {A} {B} {r} h f g =
    let m = mids N 0 h in
    same-middles (subst (λ (j : ℕ). RowIs N (2 ^ j) A B r) (one-fit k m.k f m.fit) g) m.is
