-- Laws of lists: a property of every element, counts, elements put in, the least number.
use mathlib.Core.List.Memᴰ.{head as first}
use mathlib.Core.List.Memᴰ.{tail as later}
use mathlib.Core.List.{List, [], ◌∷◌, ◌++◌, map, append-nil, append_assoc}
use mathlib.Core.List.Memᴰ
use mathlib.Core.Path.{◌≡◌, refl, sym, subst, ◌∙◌, ap}
use mathlib.Core.Logic.{◌≢◌, ⊎_elim}
use mathlib.Core.Bool.{Bool, true, false, cond}
use Prim.Native.Nat.{ℕ, suc, ◌+◌, ◌*◌, ◌≤◌}
use native.Mathlib.Omega.{arith}
use lib.ListN.{length, take, drop, length-append, take-append-drop}
use Rattle.lists.specs.Lists.{◌∈◌, All, nil, cons, Insert, here, there, Inserts, unchanged, one_more, joined, least, tally, matches, count, passing}

module _ {A : Type 0} {p : A → Type 0} where
  pub all_head : {a : A} {l : List A} → All p (a ∷ l) → p a
  all_head (cons h t) = h

  pub all_tail : {a : A} {l : List A} → All p (a ∷ l) → All p l
  all_tail (cons h t) = t

  pub all_append : {l m : List A} → All p l → All p m → All p (l ++ m)
  all_append nil k = k
  all_append (cons h t) k = cons h (all_append t k)

  pub all_left : (l m : List A) → All p (l ++ m) → All p l
  all_left [] m h = nil
  all_left (a ∷ l) m (cons h t) = cons h (all_left l m t)

  pub all_right : (l m : List A) → All p (l ++ m) → All p m
  all_right [] m h = h
  all_right (a ∷ l) m (cons h t) = all_right l m t

  pub all_insert : {a : A} {l m : List A} → Insert a l m → p a → All p l → All p m
  all_insert here h t = cons h t
  all_insert (there i) h (cons k t) = cons k (all_insert i h t)

  pub all-taken : {a : A} {l m : List A} → Insert a l m → All p m → p a
  all-taken here (cons h t) = h
  all-taken (there i) (cons h t) = all-taken i t

  pub all_rest : {a : A} {l m : List A} → Insert a l m → All p m → All p l
  all_rest here (cons h t) = t
  all_rest (there i) (cons h t) = cons h (all_rest i t)

  pub all-inserts : {s l m : List A} → Inserts s l m → All p s → All p l → All p m
  all-inserts unchanged h t = t
  all-inserts (one_more i r) (cons h s) t = all-inserts r s (all_insert i h t)

  pub all-before : {s l m : List A} → Inserts s l m → All p m → All p l
  all-before unchanged t = t
  all-before (one_more i r) t = all_rest i (all-before r t)

  pub all_map : {q : A → Type 0} → ((a : A) → p a → q a) → {l : List A} → All p l → All q l
  all_map f nil = nil
  all_map f (cons h t) = cons (f _ h) (all_map f t)

  pub all-every : ((a : A) → p a) → (l : List A) → All p l
  all-every f [] = nil
  all-every f (a ∷ l) = cons (f a) (all-every f l)

  -- a property of every element, by membership
  pub all_of : (l : List A) → ((a : A) → a ∈ l → p a) → All p l
  all_of [] h = nil
  all_of (a ∷ l) h = cons (h a (first refl)) (all_of l (λ b m. h b (later m)))

  pub all-each : {l : List A} → All p l → (a : A) → a ∈ l → p a
  all-each nil a m = absurd (Memᴰ.not-nil m)
  all-each (cons {a = b} h t) a m = ⊎_elim (λ (e : a ≡ b). subst p (sym e) h) (λ n. all-each t a n) (Memᴰ.cases_cons m)

  -- a property of whatever can be taken out
  pub all-member : (l : List A) → ((a : A) (rest : List A) → Insert a rest l → p a) → All p l
  all-member [] f = nil
  all-member (a ∷ l) f = cons (f a l here) (all-member l (λ b rest i. f b (a ∷ rest) (there i)))

module _ {A : Type 0} where
  pub all_both : {p q r : A → Type 0} → ((a : A) → p a → q a → r a) → {l : List A} → All p l → All q l → All r l
  all_both f nil k = nil
  all_both f (cons h t) (cons k u) = cons (f _ h k) (all_both f t u)

  pub all-image : {B : Type 0} {p : B → Type 0} (f : A → B) {l : List A} → All (λ a. p (f a)) l → All p (map f l)
  all-image f nil = nil
  all-image f (cons h t) = cons h (all-image f t)

  -- putting in at the end, and in front
  pub insert-last : (a : A) (l : List A) → Insert a l (l ++ (a ∷ []))
  insert-last a [] = here
  insert-last a (b ∷ l) = there (insert-last a l)

  pub insert-between : (a : A) (l m : List A) → Insert a (l ++ m) (l ++ (a ∷ m))
  insert-between a [] m = here
  insert-between a (b ∷ l) m = there (insert-between a l m)

  pub inserts-under : {a : A} {s l m : List A} → Inserts s l m → Inserts s (a ∷ l) (a ∷ m)
  inserts-under unchanged = unchanged
  inserts-under (one_more i r) = one_more (there i) (inserts-under r)

  pub inserts-front : (s l : List A) → Inserts s l (s ++ l)
  inserts-front [] l = unchanged
  inserts-front (a ∷ s) l = one_more here (inserts-under (inserts-front s l))

  pub inserts-back : (s l : List A) → Inserts s l (l ++ s)
  inserts-back [] l = rw append-nil unchanged
  inserts-back (a ∷ s) l = one_more (insert-last a l) (rw append_assoc at (inserts-back s (l ++ (a ∷ []))))

-- Tallies.
module _ {A : Type 0} (f : A → ℕ) where
  pub tally-append : (l m : List A) → tally f (l ++ m) ≡ tally f l + tally f m
  unfolding tally
  tally-append [] m = omega arith
  tally-append (a ∷ l) m = omega (arith, tally-append l m)

  pub tally-insert : {a : A} {l m : List A} → Insert a l m → tally f m ≡ f a + tally f l
  unfolding tally
  tally-insert here = refl
  tally-insert (there i) = omega (arith, tally-insert i)

  pub tally-inserts : {s l m : List A} → Inserts s l m → tally f m ≡ tally f s + tally f l
  unfolding tally
  tally-inserts unchanged = omega arith
  tally-inserts (one_more i r) = omega (arith, tally-insert i, tally-inserts r)

  pub tally-none : {l : List A} → All (λ a. f a ≡ 0) l → tally f l ≡ 0
  unfolding tally
  tally-none nil = refl
  tally-none (cons e t) = omega (arith, tally-none t)

  pub tally-behind : (k : ℕ) (l : List A) → tally f (drop k l) ≤ tally f l
  tally-behind k l = let all = rw (take-append-drop k l) at (tally-append (take k l) (drop k l)) in omega arith

  pub tally-map : {B : Type 0} (g : B → A) (l : List B) → tally f (map g l) ≡ tally (λ b. f (g b)) l
  unfolding tally
  tally-map g [] = refl
  tally-map g (b ∷ l) = omega (arith, tally-map g l)

-- lists one behind the other: how long they are together, and of elements that are made of others
pub length-joined : {A B : Type 0} (f : A → List B) (l : List A) → length (joined f l) ≡ tally (λ a. length (f a)) l
unfolding joined tally
length-joined f [] = refl
length-joined f (a ∷ l) = omega (arith, length-append (f a) (joined f l), length-joined f l)

pub joined-map : {A B C : Type 0} (f : B → List C) (g : A → B) (l : List A) → joined f (map g l) ≡ joined (λ a. f (g a)) l
unfolding joined
joined-map f g [] = refl
joined-map f g (a ∷ l) = ap (λ m. f (g a) ++ m) (joined-map f g l)

pub tally-less : {A : Type 0} (f g : A → ℕ) (l : List A) → ((a : A) → a ∈ l → f a ≤ g a) → tally f l ≤ tally g l
unfolding tally
tally-less f g [] h = omega arith
tally-less f g (a ∷ l) h = omega (arith, h a (first refl), tally-less f g l (λ b m. h b (later m)))

pub tally-most : {A : Type 0} (f : A → ℕ) (most : ℕ) (l : List A) → ((a : A) → a ∈ l → f a ≤ most) → tally f l ≤ most * length l
unfolding tally
tally-most f most [] h = omega arith
tally-most f most (a ∷ l) h =
    let whole : most * suc (length l) ≡ most + most * length l = omega arith in
    omega (arith, h a (first refl), tally-most f most l (λ b m. h b (later m)))

pub tally-same : {A : Type 0} (f g : A → ℕ) (l : List A) → ((a : A) → a ∈ l → f a ≡ g a) → tally f l ≡ tally g l
unfolding tally
tally-same f g [] h = refl
tally-same f g (a ∷ l) h = omega (arith, h a (first refl), tally-same f g l (λ b m. h b (later m)))

pub tally-agree : {A : Type 0} (f g : A → ℕ) (l : List A) → ((a : A) → f a ≡ g a) → tally f l ≡ tally g l
unfolding tally
tally-agree f g [] e = refl
tally-agree f g (a ∷ l) e = omega (arith, e a, tally-agree f g l e)

-- Counts.
module _ {A : Type 0} (eq : Discrete A) where
  matches-when : {a b : A} → a ≡ b → (d : Dec (a ≡ b)) → ◌≡◌ {A = ℕ} (elim d [ yes e ↦ 1 | no e ↦ 0 ]) 1
  matches-when h (yes e) = refl
  matches-when h (no e) = absurd (e h)

  matches-unless : {a b : A} → a ≢ b → (d : Dec (a ≡ b)) → ◌≡◌ {A = ℕ} (elim d [ yes e ↦ 1 | no e ↦ 0 ]) 0
  matches-unless h (yes e) = absurd (h e)
  matches-unless h (no e) = refl

  pub matches-equal : {a b : A} → a ≡ b → matches eq a b ≡ 1
  unfolding matches
  matches-equal {a} {b} h = matches-when h (eq a b)

  pub matches-same : (a : A) → matches eq a a ≡ 1
  matches-same a = matches-equal refl

  pub matches-other : {a b : A} → a ≢ b → matches eq a b ≡ 0
  unfolding matches
  matches-other {a} {b} h = matches-unless h (eq a b)

  pub count-nil : (x : A) → count eq x [] ≡ 0
  unfolding count tally
  count-nil x = refl

  pub count-cons : (x a : A) (l : List A) → count eq x (a ∷ l) ≡ matches eq x a + count eq x l
  unfolding count tally
  count-cons x a l = refl

  pub count-append : (x : A) (l m : List A) → count eq x (l ++ m) ≡ count eq x l + count eq x m
  unfolding count
  count-append x = tally-append (matches eq x)

  pub count-insert : (x : A) {a : A} {l m : List A} → Insert a l m → count eq x m ≡ matches eq x a + count eq x l
  unfolding count
  count-insert x i = tally-insert (matches eq x) i

  pub count-inserts : (x : A) {s l m : List A} → Inserts s l m → count eq x m ≡ count eq x s + count eq x l
  unfolding count
  count-inserts x i = tally-inserts (matches eq x) i

  -- An element that lacks what all have does not occur.
  pub count_none : {p : A → Type 0} (x : A) {l : List A} → All p l → (p x → ⊥) → count eq x l ≡ 0
  unfolding count
  count_none {p} x h f = tally-none (matches eq x) (all_map (λ a k. matches-other {a = x} {b = a} (λ e. f (subst p (sym e) k))) h)

  -- An element that occurs can be taken out.
  pub found : (x : A) (l : List A) → 1 ≤ count eq x l → (rest : List A) × Insert x rest l
  unfolding count tally
  found x [] h = absurd (omega arith)
  found x (a ∷ l) h = go (eq x a) (found x l)
    where
      go : Dec (x ≡ a) → (1 ≤ count eq x l → (rest : List A) × Insert x rest l) → (rest : List A) × Insert x rest (a ∷ l)
      go (yes e) k = (l, subst (λ (y : A). Insert x l (y ∷ l)) e here)
      go (no e) k = let r : (rest : List A) × Insert x rest l = k (omega (arith, matches-other e)) in (a ∷ r.0, there r.1)

  pub all-count : {p : A → Type 0} (x : A) {l : List A} → All p l → 1 ≤ count eq x l → p x
  all-count x h k = all-taken (found x _ k).1 h

  pub count-all : {p : A → Type 0} (l : List A) → ((x : A) → 1 ≤ count eq x l → p x) → All p l
  unfolding count tally
  count-all [] f = nil
  count-all (a ∷ l) f = cons (f a (omega (arith, matches-same a))) (count-all l (λ x h. f x (omega arith)))

module _ {A B : Type 0} (eq : Discrete A) (eq' : Discrete B) where
  -- Images under an injection are counted as what they are images of.
  pub matches-image : (f : A → B) → ((a b : A) → f a ≡ f b → a ≡ b) → (a b : A) → matches eq' (f a) (f b) ≡ matches eq a b
  matches-image f inj a b = go (eq a b)
    where
      go : Dec (a ≡ b) → matches eq' (f a) (f b) ≡ matches eq a b
      go (yes e) = rw e (matches-same eq' (f b) ∙ sym (matches-same eq b))
      go (no e) = matches-other eq' (λ k. e (inj a b k)) ∙ sym (matches-other eq e)

  pub count-image : (f : A → B) → ((a b : A) → f a ≡ f b → a ≡ b) → (x : A) (l : List A) → count eq' (f x) (map f l) ≡ count eq x l
  unfolding count
  count-image f inj x l =
      omega (arith, tally-map (matches eq' (f x)) f l, tally-agree (λ a. matches eq' (f x) (f a)) (matches eq x) l (matches-image f inj x))

module _ {A : Type 0} (never : ℕ) (f : A → ℕ) where
  pub least-never : (l : List A) → least never f l ≤ never
  unfolding least
  least-never [] = omega arith
  least-never (a ∷ l) = omega (arith, least-never l)

  pub bounds-least : (g : ℕ) → g ≤ never → {l : List A} → All (λ a. g ≤ f a) l → g ≤ least never f l
  unfolding least
  bounds-least g h nil = h
  bounds-least g h (cons k t) = omega (arith, bounds-least g h t)

  pub least-bounds : (g : ℕ) (l : List A) → g ≤ least never f l → All (λ a. g ≤ f a) l
  unfolding least
  least-bounds g [] h = nil
  least-bounds g (a ∷ l) h = cons {a = a} (omega arith) (least-bounds g l (omega arith))

-- What f gives for each of two lists, one behind the other.
pub joined-append : {A B : Type 0} (f : A → List B) (l m : List A) → joined f (l ++ m) ≡ joined f l ++ joined f m
unfolding joined
joined-append f [] m = refl
joined-append f (a ∷ l) m = ap (λ x. f a ++ x) (joined-append f l m) ∙ sym (append_assoc (f a) (joined f l) (joined f m))

-- the elements that pass a test
module _ {A : Type 0} (f : A → Bool) where
  -- they all do
  pub passing-pass : (xs : List A) → All (λ x. f x ≡ true) (passing f xs)
  unfolding passing
  passing-pass [] = nil
  passing-pass (x ∷ xs) = by-case (f x) refl (passing-pass xs)
    where
      by-case : (t : Bool) → f x ≡ t → All (λ x. f x ≡ true) (passing f xs) → All (λ x. f x ≡ true) (cond t (x ∷ passing f xs) (passing f xs))
      by-case true e a = cons e a
      by-case false e a = a

  -- and have what all have
  pub passing-all : {p : A → Type 0} {xs : List A} → All p xs → All p (passing f xs)
  unfolding passing
  passing-all nil = nil
  passing-all {p} (cons {a = x} {l = xs} h a) = by-case (f x) (passing-all a)
    where
      by-case : (t : Bool) → All p (passing f xs) → All p (cond t (x ∷ passing f xs) (passing f xs))
      by-case true b = cons h b
      by-case false b = b

  pub passing-length : (xs : List A) → length (passing f xs) ≤ length xs
  unfolding passing
  passing-length [] = omega arith
  passing-length (x ∷ xs) = by-case (f x) (passing-length xs)
    where
      by-case : (t : Bool) → length (passing f xs) ≤ length xs → length (cond t (x ∷ passing f xs) (passing f xs)) ≤ length (x ∷ xs)
      by-case true h = omega arith
      by-case false h = omega arith

  -- where all pass, nothing is left out
  pub passing-same : {xs : List A} → All (λ x. f x ≡ true) xs → passing f xs ≡ xs
  unfolding passing
  passing-same nil = refl
  passing-same (cons {a = x} {l = xs} h a) = rw (h, passing-same a)

  -- of one list behind another
  pub passing-append : (xs ys : List A) → passing f (xs ++ ys) ≡ passing f xs ++ passing f ys
  unfolding passing
  passing-append [] ys = refl
  passing-append (x ∷ xs) ys = by-case (f x) (passing-append xs ys)
    where
      by-case : (t : Bool) → passing f (xs ++ ys) ≡ passing f xs ++ passing f ys
          → cond t (x ∷ passing f (xs ++ ys)) (passing f (xs ++ ys)) ≡ cond t (x ∷ passing f xs) (passing f xs) ++ passing f ys
      by-case true e = ap (◌∷◌ x) e
      by-case false e = e
