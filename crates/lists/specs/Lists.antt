-- Lists as the definitions speak of them: elements, tests, cuts, elements put in, lists one behind the other, counts.
use Rattle.std.specs.Prelude.{◌≡◌, Bool, true, false, cond, ◌&&◌, ◌||◌, ℕ, zero, suc, ◌+◌, min, eqb, take, drop}
use mathlib.Core.List.{List, [], ◌∷◌, ◌++◌, Memᴰ}

infix 50 ◌∈◌
-- x is an element of xs
abbrev pub ◌∈◌ : {A : Type 0} → A → List A → Type 0
x ∈ xs = Memᴰ x xs

-- every element has the property
pub data All {A : Type 0} (p : A → Type 0) : List A → Type 0 where
  nil : All p []
  cons : {a : A} {l : List A} → p a → All p l → All p (a ∷ l)

-- each element stands in the relation to all that follow it
pub data Ascending {A : Type 0} (R : A → A → Type 0) : List A → Type 0 where
  none : Ascending R []
  more : {x : A} {xs : List A} → ((y : A) → y ∈ xs → R x y) → Ascending R xs → Ascending R (x ∷ xs)

-- xs is a beginning of ys
abbrev pub Beginning : {A : Type 0} → List A → List A → Type 0
Beginning {A} xs ys = (rest : List A) × (ys ≡ xs ++ rest)

-- every element passes the test
unfoldable pub every : {A : Type 0} → (A → Bool) → List A → Bool
every f [] = true
every f (x ∷ xs) = f x && every f xs

-- some element passes the test
unfoldable pub any : {A : Type 0} → (A → Bool) → List A → Bool
any f [] = false
any f (x ∷ xs) = f x || any f xs

-- the list without the first element that passes the test
unfoldable pub without_first : {A : Type 0} → (A → Bool) → List A → List A
without_first f [] = []
without_first f (x ∷ xs) = let rest = x ∷ without_first f xs in cond (f x) xs rest

-- the elements that pass the test
unfoldable pub passing : {A : Type 0} → (A → Bool) → List A → List A
passing f [] = []
passing f (x ∷ xs) = let rest = passing f xs in cond (f x) (x ∷ rest) rest

-- what stands before the first element that passes the test; the whole list where none passes
unfoldable pub before_first : {A : Type 0} → (A → Bool) → List A → List A
before_first f [] = []
before_first f (x ∷ xs) = let rest = x ∷ before_first f xs in cond (f x) [] rest

-- the first element that passes the test, with what stands behind it; nothing where none passes
unfoldable pub from_first : {A : Type 0} → (A → Bool) → List A → List A
from_first f [] = []
from_first f (x ∷ xs) = let rest = from_first f xs in cond (f x) (x ∷ xs) rest

-- what stands before the last element that passes the test
unfoldable pub before_last : {A : Type 0} → (A → Bool) → List A → List A
unfolding any
before_last f [] = []
before_last f (x ∷ xs) = let rest = x ∷ before_last f xs in cond (any f xs) rest []

-- the last element that passes the test, with what stands behind it; nothing where none passes
unfoldable pub from_last : {A : Type 0} → (A → Bool) → List A → List A
unfolding any
from_last f [] = []
from_last f (x ∷ xs) = let rest = from_last f xs in cond (any f xs) rest (cond (f x) (x ∷ xs) [])

-- all but the first element
abbrev pub tail_of : {A : Type 0} → List A → List A
tail_of [] = []
tail_of (x ∷ xs) = xs

-- `Insert a l m`: m is l with a put in at some place; so l is m with one a taken out
pub data Insert {A : Type 0} (a : A) : List A → List A → Type 0 where
  here : {l : List A} → Insert a l (a ∷ l)
  there : {b : A} {l m : List A} → Insert a l m → Insert a (b ∷ l) (b ∷ m)

-- `Inserts s l m`: m is l with each of s put in at some place
pub data Inserts {A : Type 0} : List A → List A → List A → Type 0 where
  unchanged : {l : List A} → Inserts [] l l
  one_more : {a : A} {s l m n : List A} → Insert a l m → Inserts s m n → Inserts (a ∷ s) l n

-- the lists that f gives for each element, one behind the other
unfoldable pub joined : {A B : Type 0} → (A → List B) → List A → List B
joined f [] = []
joined f (x ∷ xs) = f x ++ joined f xs

-- the numbers that f gives for each element, added up
unfoldable pub tally : {A : Type 0} → (A → ℕ) → List A → ℕ
tally f [] = 0
tally f (a ∷ l) = f a + tally f l

-- the least number that f gives for an element, `never` if there is none
unfoldable pub least : {A : Type 0} → ℕ → (A → ℕ) → List A → ℕ
least never f [] = never
least never f (a ∷ l) = min (f a) (least never f l)

-- the first number other than 0 that f gives for an element; 0 if there is none
unfoldable pub first_number : {A : Type 0} → (A → ℕ) → List A → ℕ
first_number f [] = 0
first_number f (x ∷ xs) = let rest = first_number f xs in cond (eqb (f x) 0) rest (f x)

-- a list cut into pieces, each as long as its first element says; what is left too short is a cut piece. `turns` bounds their number
unfoldable pub cut_by : {A : Type 0} → (A → ℕ) → ℕ → List A → List (List A)
cut_by size zero s = []
cut_by size (suc turns) [] = []
cut_by size (suc turns) (x ∷ s) = take (size x) (x ∷ s) ∷ cut_by size turns (drop (size x) (x ∷ s))

-- 1 for equal elements, else 0
unfoldable pub matches : {A : Type 0} → Discrete A → A → A → ℕ
matches eq a b = elim (eq a b) [ yes e ↦ 1 | no e ↦ 0 ]

-- how often an element stands in the list
unfoldable pub count : {A : Type 0} → Discrete A → A → List A → ℕ
count eq a l = tally (matches eq a) l
