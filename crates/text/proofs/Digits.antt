-- The laws of decimal text: how it grows by a digit, its value, and that a text of digits without a leading zero is the decimal text of its value.
use mathlib.Core.Path.{◌≡◌, refl, sym, ◌∙◌, ap, ap₂, subst}
use mathlib.Core.Logic.{◌↔◌, ◌⊎◌, inl, inr, ⊎_elim}
use mathlib.Core.Bool.{Bool, true, false}
use mathlib.Core.List.{List, [], ◌∷◌, ◌++◌, append_assoc, append-nil}
use Prim.Native.Nat.{ℕ, zero, suc, ◌+◌, ◌*◌, ◌-◌, ◌/◌, ◌%◌, ◌≤◌, ◌<◌}
use native.Mathlib.Omega.{arith}
use native.Mathlib.Decide.{dec_lt, dec_le, ℕ_discrete}
use lib.Dec.{ltb}
use borrow.Author.Tests.{lt-ltb, le-ltb, le-leb, lt-leb}
use Rattle.std.specs.Prelude.{Some, None}
use Rattle.buffer.specs.Slice.{same_bytes}
use Rattle.buffer.proofs.Equality.{bytes_same, same_bytes_lem}
use Rattle.text.specs.Decimal.{digit, digits, decimal, value_from, value, spelled, Laws}

-- a digit more, by its test
digits-turn : (most n : ℕ) {b : Bool} → ltb n 10 ≡ b → digits (suc most) n ≡ elim b as (λ x. List ℕ) [
  | true ↦ digit n ∷ []
  | false ↦ digits
      most (n / 10) ++ (digit (n % 10) ∷ [])
]
unfolding digits
digits-turn most n e =
    ap (λ (b : Bool). elim b as (λ x. List ℕ) [ true ↦ digit n ∷ [] | false ↦ digits most (n / 10) ++ (digit (n % 10) ∷ []) ]) e

digits-small : (most n : ℕ) → n < 10 → digits most n ≡ digit n ∷ []
unfolding digits
digits-small zero n h = ap (λ (d : ℕ). digit d ∷ []) (omega arith)
digits-small (suc most) n h = digits-turn most n (lt-ltb n 10 h)

digits_more : (most n : ℕ) → 10 ≤ n → digits (suc most) n ≡ digits most (n / 10) ++ (digit (n % 10) ∷ [])
digits_more most n h = digits-turn most n (le-ltb n 10 h)

-- any bound of at least n gives all digits
enough : (most n : ℕ) → n ≤ most → (more : ℕ) → n ≤ more → digits most n ≡ digits more n
enough zero n h more k = digits-small zero n (omega arith) ∙ sym (digits-small more n (omega arith))
enough (suc most) n h zero k = digits-small (suc most) n (omega arith) ∙ sym (digits-small zero n (omega arith))
enough (suc most) n h (suc more) k = go (dec_lt n 10) (enough most (n / 10))
  where
    go : Dec (n < 10) → (n / 10 ≤ most → (more : ℕ) → n / 10 ≤ more → digits most (n / 10) ≡ digits more (n / 10)) → digits (suc most) n ≡ digits (suc more) n
    go (yes l) rest = digits-small (suc most) n l ∙ sym (digits-small (suc more) n l)
    go (no l) rest =
        digits_more most n (omega arith)
        ∙ ap (λ (t : List ℕ). t ++ (digit (n % 10) ∷ [])) (rest (omega arith) more (omega arith))
        ∙ sym (digits_more more n (omega arith))

pub decimal-small : (n : ℕ) → n < 10 → decimal n ≡ digit n ∷ []
unfolding decimal
decimal-small n h = digits-small n n h

pub decimal-more : (n : ℕ) → 10 ≤ n → decimal n ≡ decimal (n / 10) ++ (digit (n % 10) ∷ [])
unfolding decimal
decimal-more n h =
    let e : n ≡ suc (n - 1) = omega arith in
    ap (λ (most : ℕ). digits most n) e
    ∙ digits_more (n - 1) n h
    ∙ ap (λ (t : List ℕ). t ++ (digit (n % 10) ∷ [])) (enough (n - 1) (n / 10) (omega arith) (n / 10) (omega arith))

-- the decimal text of n, built up from its first digit
data Text : ℕ → List ℕ → Type 0 where
  small : {n : ℕ} → n < 10 → Text n (digit n ∷ [])
  more : {n : ℕ} {l : List ℕ} → 10 ≤ n → Text (n / 10) l → Text n (l ++ (digit (n % 10) ∷ []))

text-below : (bound n : ℕ) → n ≤ bound → Text n (decimal n)
text-below zero n h = rw (decimal-small n (omega arith)) (small {n = n} (omega arith))
text-below (suc bound) n h = go (dec_lt n 10) (text-below bound (n / 10))
  where
    go : Dec (n < 10) → (n / 10 ≤ bound → Text (n / 10) (decimal (n / 10))) → Text n (decimal n)
    go (yes l) rest = rw (decimal-small n l) (small l)
    go (no l) rest = rw (decimal-more n (omega arith)) (more {n = n} (omega arith) (rest (omega arith)))

text-is : (n : ℕ) → Text n (decimal n)
text-is n = text-below n n (omega arith)

-- values
value_from-append : (n : ℕ) (xs ys : List ℕ) → value_from n (xs ++ ys) ≡ value_from (value_from n xs) ys
unfolding value_from
value_from-append n [] ys = refl
value_from-append n (x ∷ xs) ys = value_from-append (10 * n + (x - 48)) xs ys

pub value-append : (xs ys : List ℕ) → value (xs ++ ys) ≡ value_from (value xs) ys
unfolding value
value-append xs ys = value_from-append 0 xs ys

text-value : {n : ℕ} {l : List ℕ} → Text n l → value l ≡ n
unfolding value value_from
text-value (small h) = omega arith
text-value (more {n = n} {l = l} h t) = value-append l (digit (n % 10) ∷ []) ∙ omega (arith, text-value t)

pub value-decimal : (n : ℕ) → value (decimal n) ≡ n
value-decimal n = text-value (text-is n)

-- more digits make no smaller value
pub value_from-grows : (n : ℕ) (l : List ℕ) → n ≤ value_from n l
unfolding value_from
value_from-grows n [] = omega arith
value_from-grows n (x ∷ l) = omega (arith, value_from-grows (10 * n + (x - 48)) l)

-- a byte is a digit
pub data Digits : List ℕ → Type 0 where
  none : Digits []
  more : {b : ℕ} {l : List ℕ} → 48 ≤ b → b ≤ 57 → Digits l → Digits (b ∷ l)

pub digits_append : {xs ys : List ℕ} → Digits xs → Digits ys → Digits (xs ++ ys)
digits_append none e = e
digits_append (Digits.more p q d) e = Digits.more p q (digits_append d e)

pub one-digit : {b : ℕ} → 48 ≤ b → b ≤ 57 → Digits (b ∷ [])
one-digit p q = Digits.more p q none

-- digits without a leading zero
pub data Plain : List ℕ → Type 0 where
  nought : Plain (48 ∷ [])
  from : {b : ℕ} {l : List ℕ} → 49 ≤ b → b ≤ 57 → Digits l → Plain (b ∷ l)

plain-digit : {b : ℕ} → 48 ≤ b → b ≤ 57 → Plain (b ∷ [])
plain-digit {b} p q = go (ℕ_discrete b 48)
  where
    go : Dec (b ≡ 48) → Plain (b ∷ [])
    go (yes e) = rw e nought
    go (no e) = from {b = b} (omega arith) q none

plain_more : {l : List ℕ} {d : ℕ} → Plain l → 1 ≤ value l → 48 ≤ d → d ≤ 57 → Plain (l ++ (d ∷ []))
unfolding value value_from
plain_more nought h p q = absurd (omega arith)
plain_more (from a b t) h p q = from a b (digits_append t (one-digit p q))

text-plain : {n : ℕ} {l : List ℕ} → Text n l → Plain l
text-plain (small h) = plain-digit (omega arith) (omega arith)
text-plain (more h t) = plain_more (text-plain t) (omega (arith, text-value t)) (omega arith) (omega arith)

pub decimal-plain : (n : ℕ) → Plain (decimal n)
decimal-plain n = text-plain (text-is n)

-- digits behind a number of at least 1
next-digit : (v b : ℕ) → 1 ≤ v → 48 ≤ b → b ≤ 57 → decimal (10 * v + (b - 48)) ≡ decimal v ++ (b ∷ [])
next-digit v b h p q =
    let n : ℕ = 10 * v + (b - 48) in
    let e : n / 10 ≡ v = omega arith in
    let f : digit (n % 10) ≡ b = omega arith in
    decimal-more n (omega arith) ∙ ap₂ (λ (k c : ℕ). decimal k ++ (c ∷ [])) e f

behind : (v : ℕ) {l : List ℕ} → 1 ≤ v → Digits l → decimal (value_from v l) ≡ decimal v ++ l
unfolding value_from
behind v h none = sym (append-nil (decimal v))
behind v h (Digits.more {b = b} {l = l} p q d) =
    behind (10 * v + (b - 48)) (omega arith) d
    ∙ ap (λ (t : List ℕ). t ++ l) (next-digit v b h p q)
    ∙ append_assoc (decimal v) (b ∷ []) l

pub plain-decimal : {l : List ℕ} → Plain l → decimal (value l) ≡ l
unfolding value value_from
plain-decimal nought = decimal-small 0 (omega arith)
plain-decimal (from {b = b} {l = l} p q d) =
    behind (10 * 0 + (b - 48)) (omega arith) d
    ∙ ap (λ (t : List ℕ). t ++ l) (decimal-small (10 * 0 + (b - 48)) (omega arith) ∙ ap (λ (c : ℕ). c ∷ []) (omega arith))

-- what a text spells
module _ (most : ℕ) (text : List ℕ) where
  pub is_spelled : (n : ℕ) → decimal n ≡ text → n ≤ most → spelled most text ≡ Some n
  unfolding spelled
  is_spelled n e h =
      let v : value text ≡ n = ap value (sym e) ∙ value-decimal n in
      rw (v, e, bytes_same text, le-leb n most h)

  -- it spells its value, or nothing
  cases : ((decimal (value text) ≡ text) × (value text ≤ most)) ⊎ (spelled most text ≡ None)
  unfolding spelled
  cases = go (same_bytes (decimal (value text)) text) refl (dec_le (value text) most)
    where
      go : (b : Bool) → same_bytes (decimal (value text)) text ≡ b → Dec (value text ≤ most) → ((decimal (value text) ≡ text) × (value text ≤
          most)) ⊎ (spelled most text ≡ None)
      go true e (yes h) = inl (same_bytes_lem (decimal (value text)) text e, h)
      go true e (no h) = inr (rw (e, lt-leb (value text) most (omega arith)))
      go false e h = inr (rw e)

  pub not-spelled : ((n : ℕ) → n ≤ most → decimal n ≡ text → ⊥) → spelled most text ≡ None
  not-spelled f = ⊎_elim (λ h. absurd (f (value text) h.1 h.0)) (λ e. e) cases

  pub spelled-iff : (n : ℕ) → (spelled most text ≡ Some n) ↔ ((decimal n ≡ text) × (n ≤ most))
  spelled-iff n = (λ e. ⊎_elim (found e) (λ o. absurd (never e o)) cases, λ h. is_spelled n h.0 h.1)
    where
      never : spelled most text ≡ Some n → spelled most text ≡ None → ⊥
      never e o = let z : ◌≡◌ {A = ℕ} 0 1 = cc in omega arith

      found : spelled most text ≡ Some n → (decimal (value text) ≡ text) × (value text ≤ most) → (decimal n ≡ text) × (n ≤ most)
      found e h =
          let s : spelled most text ≡ Some (value text) = is_spelled (value text) h.0 h.1 in
          let same_number : value text ≡ n = cc in
          (subst (λ (k : ℕ). decimal k ≡ text) same_number h.0, omega (arith, h.1))

pub laws : Laws
laws =
    record {
      small = decimal-small;
      more = decimal-more;
      valued = value-decimal;
      converse = λ most n text. spelled-iff most text n;
    }
