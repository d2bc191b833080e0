-- The graph in unsigned numbers: what Figure 2's branches give, with A for Mid0 and B for Mid1, and the laws that follow from three facts of these.
use mathlib.Core.Path.{◌≡◌, refl, sym, subst}
use mathlib.Core.List.Memᴰ
use mathlib.Core.List.Memᴰ.{head as here}
use mathlib.Core.List.Memᴰ.{tail as there}
use mathlib.Core.List.{List, [], ◌∷◌}
use Prim.Native.Nat.{ℕ, zero, suc, ◌+◌, ◌*◌, ◌-◌, ◌/◌, ◌≤◌, ◌<◌}
use native.Mathlib.Omega.{arith}
use native.Mathlib.Decide.{ℕ_discrete, dec_le}
use lib.ListN.{length}
use Rattle.lists.specs.Lists.{◌∈◌, Ascending, none, more}

-- what holds of the two middles, whether the row is shared or not
pub record Split (N A B : ℕ) : Type 0 where
  pub all : A + B + 1 ≡ N
  pub upper : A ≤ 2 * B
  pub lower : B ≤ A + 1

-- Figure 2's five branches for from
pub data From (N A B i : ℕ) : List ℕ → Type 0 where
  root : i ≡ 0 → From N A B i []
  parent : 1 ≤ i → i ≤ A → From N A B i (((i - 1) / 2) ∷ [])
  two : 1 ≤ i → A < i → B + N + 1 ≤ 2 * i → From N A B i ((2 * i - N) ∷ (2 * i - N - 1) ∷ [])
  one : 1 ≤ i → A < i → B + N ≡ 2 * i → From N A B i ((2 * i - N) ∷ [])
  across : 1 ≤ i → A < i → 2 * i < B + N → From N A B i ((N - i - 1) ∷ [])

-- and for to
pub data To (N A B i : ℕ) : List ℕ → Type 0 where
  root : i + 1 ≡ N → To N A B i []
  parent : i + 1 < N → B ≤ i → To N A B i (((N + i + 1) / 2) ∷ [])
  two : i + 1 < N → i < B → 2 * i + 2 ≤ A → To N A B i ((2 * i + 1) ∷ (2 * i + 2) ∷ [])
  one : i + 1 < N → i < B → A ≡ 2 * i + 1 → To N A B i ((2 * i + 1) ∷ [])
  across : i + 1 < N → i < B → A < 2 * i + 1 → To N A B i ((N - i - 1) ∷ [])

-- i → j is an arc: down the tree with root 0, up the tree with root N − 1, or from the first tree across to the second
pub data Joined (N A B i j : ℕ) : Type 0 where
  down : j ≤ A → 2 * i + 1 ≤ j → j ≤ 2 * i + 2 → Joined N A B i j
  up : B ≤ i → i + 1 < N → 2 * j ≤ N + i + 1 → N + i ≤ 2 * j → Joined N A B i j
  over : i < B → A < j → A ≤ 2 * i → i + j + 1 ≡ N → Joined N A B i j

-- every gateway has one of the branches
pub from_some : (N A B i : ℕ) → i < N → (l : List ℕ) × From N A B i l
from_some N A B zero h = ([], root refl)
from_some N A B (suc n) h = go (dec_le (suc n) A) (dec_le (B + N + 1) (2 * suc n)) (ℕ_discrete (B + N) (2 * suc n))
  where
    go : Dec (suc n ≤ A) → Dec (B + N + 1 ≤ 2 * suc n) → Dec (B + N ≡ 2 * suc n) → (l : List ℕ) × From N A B (suc n) l
    go (yes p) q r = (_, parent (omega arith) p)
    go (no p) (yes q) r = (_, two (omega arith) (omega arith) q)
    go (no p) (no q) (yes r) = (_, one (omega arith) (omega arith) r)
    go (no p) (no q) (no r) = (_, across (omega arith) (omega arith) (omega arith))

pub to_some : (N A B i : ℕ) → i < N → (l : List ℕ) × To N A B i l
to_some N A B i h = go (ℕ_discrete (i + 1) N) (dec_le B i) (dec_le (2 * i + 2) A) (ℕ_discrete A (2 * i + 1))
  where
    go : Dec (i + 1 ≡ N) → Dec (B ≤ i) → Dec (2 * i + 2 ≤ A) → Dec (A ≡ 2 * i + 1) → (l : List ℕ) × To N A B i l
    go (yes p) q r s = (_, root p)
    go (no p) (yes q) r s = (_, parent (omega arith) q)
    go (no p) (no q) (yes r) s = (_, two (omega arith) (omega arith) r)
    go (no p) (no q) (no r) (yes s) = (_, one (omega arith) (omega arith) s)
    go (no p) (no q) (no r) (no s) = (_, across (omega arith) (omega arith) (omega arith))

first-is : {x a : ℕ} {l : List ℕ} → x ≡ a → x ∈ (a ∷ l)
first-is e = here e

either : {x a b : ℕ} {l : List ℕ} → ((x ≡ a → ⊥) → x ≡ b) → x ∈ (a ∷ b ∷ l)
either {x} {a} {b} {l} other = go (ℕ_discrete x a)
  where
    go : Dec (x ≡ a) → x ∈ (a ∷ b ∷ l)
    go (yes h) = here h
    go (no h) = there (here (other h))

-- none, one or two elements, by two conditions
pub data Sized (none two : Type 0) : ℕ → Type 0 where
  nothing : none → Sized none two 0
  single : (none → ⊥) → (two → ⊥) → Sized none two 1
  double : (none → ⊥) → two → Sized none two 2

one-alone : {R : ℕ → ℕ → Type 0} {a : ℕ} → Ascending R (a ∷ [])
one-alone = more (λ y m. absurd (Memᴰ.not-nil m)) none

two-alone : {R : ℕ → ℕ → Type 0} {a b : ℕ} → R a b → Ascending R (a ∷ b ∷ [])
two-alone {R} {a} {b} h = more (λ y m. subst (R a) (sym (Memᴰ.eq_of_singleton m)) h) one-alone

module _ {N A B : ℕ} (s : Split N A B) where
  -- the elements of to and of from are the arcs
  pub to-joined : {i j : ℕ} {l : List ℕ} → To N A B i l → j ∈ l → Joined N A B i j
  to-joined (parent p q) (here e) = up q p (omega arith) (omega arith)
  to-joined (two p q r) (here e) = down (omega arith) (omega arith) (omega arith)
  to-joined (two p q r) (there (here e)) = down (omega arith) (omega arith) (omega arith)
  to-joined (one p q r) (here e) = down (omega arith) (omega arith) (omega arith)
  to-joined (across p q r) (here e) = over q (omega arith) (omega arith) (omega arith)
  to-joined {i = i} {j = j} (root _) x5 = elim x5 [ ]
  to-joined {i = i} {j = j} (parent p q) (there x8) = elim x8 [ ]
  to-joined {i = i} {j = j} (two p q r) (there (there x13)) = elim x13 [ ]
  to-joined {i = i} {j = j} (one p q r) (there x10) = elim x10 [ ]
  to-joined {i = i} {j = j} (across p q r) (there x11) = elim x11 [ ]

  pub from-joined : {i j : ℕ} {l : List ℕ} → j < N → From N A B j l → i ∈ l → Joined N A B i j
  from-joined h (parent p q) (here e) = down q (omega arith) (omega arith)
  from-joined h (two o p q) (here e) = up (omega arith) (omega arith) (omega arith) (omega arith)
  from-joined h (two o p q) (there (here e)) = up (omega arith) (omega arith) (omega arith) (omega arith)
  from-joined h (one o p q) (here e) = up (omega arith) (omega arith) (omega arith) (omega arith)
  from-joined h (across o p q) (here e) = over (omega arith) p (omega arith) (omega arith)
  from-joined {i = i} {j = j} h (root _) x6 = elim x6 [ ]
  from-joined {i = i} {j = j} h (parent p q) (there x9) = elim x9 [ ]
  from-joined {i = i} {j = j} h (two o p q) (there (there x14)) = elim x14 [ ]
  from-joined {i = i} {j = j} h (one o p q) (there x11) = elim x11 [ ]
  from-joined {i = i} {j = j} h (across o p q) (there x12) = elim x12 [ ]

  pub joined_to : {i j : ℕ} {l : List ℕ} → To N A B i l → Joined N A B i j → j ∈ l
  joined_to (root p) (down a b c) = absurd (omega arith)
  joined_to (root p) (up a b c d) = absurd (omega arith)
  joined_to (root p) (over a b c d) = absurd (omega arith)
  joined_to (parent p q) (down a b c) = absurd (omega arith)
  joined_to (parent p q) (up a b c d) = first-is (omega arith)
  joined_to (parent p q) (over a b c d) = absurd (omega arith)
  joined_to (two p q r) (down a b c) = either (omega arith)
  joined_to (two p q r) (up a b c d) = absurd (omega arith)
  joined_to (two p q r) (over a b c d) = absurd (omega arith)
  joined_to (one p q r) (down a b c) = first-is (omega arith)
  joined_to (one p q r) (up a b c d) = absurd (omega arith)
  joined_to (one p q r) (over a b c d) = absurd (omega arith)
  joined_to (across p q r) (down a b c) = absurd (omega arith)
  joined_to (across p q r) (up a b c d) = absurd (omega arith)
  joined_to (across p q r) (over a b c d) = first-is (omega arith)

  pub joined-from : {i j : ℕ} {l : List ℕ} → From N A B j l → Joined N A B i j → i ∈ l
  joined-from (root p) (down a b c) = absurd (omega arith)
  joined-from (root p) (up a b c d) = absurd (omega arith)
  joined-from (root p) (over a b c d) = absurd (omega arith)
  joined-from (parent p q) (down a b c) = first-is (omega arith)
  joined-from (parent p q) (up a b c d) = absurd (omega arith)
  joined-from (parent p q) (over a b c d) = absurd (omega arith)
  joined-from (two o p q) (down a b c) = absurd (omega arith)
  joined-from (two o p q) (up a b c d) = either (omega arith)
  joined-from (two o p q) (over a b c d) = absurd (omega arith)
  joined-from (one o p q) (down a b c) = absurd (omega arith)
  joined-from (one o p q) (up a b c d) = first-is (omega arith)
  joined-from (one o p q) (over a b c d) = absurd (omega arith)
  joined-from (across o p q) (down a b c) = absurd (omega arith)
  joined-from (across o p q) (up a b c d) = absurd (omega arith)
  joined-from (across o p q) (over a b c d) = first-is (omega arith)

  -- an arc goes upward, below N
  pub joined-up : {i j : ℕ} → Joined N A B i j → (i < j) × (j < N)
  joined-up (down a b c) = omega arith
  joined-up (up a b c d) = omega arith
  joined-up (over a b c d) = omega arith

  -- how many elements to has
  pub to-size : {i : ℕ} {l : List ℕ} → To N A B i l → Sized (i + 1 ≡ N) (2 * i + 2 ≤ A) (length l)
  to-size (root p) = nothing p
  to-size (parent p q) = single (omega arith) (omega arith)
  to-size (two p q r) = double (omega arith) r
  to-size (one p q r) = single (omega arith) (omega arith)
  to-size (across p q r) = single (omega arith) (omega arith)

  -- how many elements from has
  pub from-size : {i : ℕ} {l : List ℕ} → From N A B i l → Sized (i ≡ 0) (B + N + 1 ≤ 2 * i) (length l)
  from-size (root p) = nothing p
  from-size (parent p q) = single (omega arith) (omega arith)
  from-size (two o p q) = double (omega arith) q
  from-size (one o p q) = single (omega arith) (omega arith)
  from-size (across o p q) = single (omega arith) (omega arith)

  -- at most three arcs at a gateway: no gateway has two of each
  pub three : {i m n : ℕ} → Sized (i ≡ 0) (B + N + 1 ≤ 2 * i) m → Sized (i + 1 ≡ N) (2 * i + 2 ≤ A) n → m + n ≤ 3
  three (nothing p) (nothing q) = omega arith
  three (nothing p) (single q r) = omega arith
  three (nothing p) (double q r) = omega arith
  three (single p t) (nothing q) = omega arith
  three (single p t) (single q r) = omega arith
  three (single p t) (double q r) = omega arith
  three (double p t) (nothing q) = omega arith
  three (double p t) (single q r) = omega arith
  three (double p t) (double q r) = absurd (omega arith)

-- the elements of to ascend, and those of from descend
pub to-ascends : {N A B i : ℕ} {l : List ℕ} → To N A B i l → Ascending ◌<◌ l
to-ascends (root p) = none
to-ascends (parent p q) = one-alone
to-ascends (two p q r) = two-alone (omega arith)
to-ascends (one p q r) = one-alone
to-ascends (across p q r) = one-alone

pub from-descends : {N A B i : ℕ} {l : List ℕ} → From N A B i l → Ascending (λ x y. y < x) l
from-descends (root p) = none
from-descends (parent p q) = one-alone
from-descends (two o p q) = two-alone (omega arith)
from-descends (one o p q) = one-alone
from-descends (across o p q) = one-alone
