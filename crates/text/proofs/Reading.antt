-- What the reading of a text finds, at each of its returns.
use mathlib.Core.Path.{◌≡◌, refl, sym, ◌∙◌, ap, subst}
use mathlib.Core.List.{List, [], ◌∷◌, ◌++◌}
use Prim.Native.Nat.{ℕ, zero, suc, ◌+◌, ◌*◌, ◌-◌, ◌≤◌, ◌<◌}
use native.Mathlib.Numerals.{add-one}
use native.Mathlib.Omega.{arith}
use lib.ListN.{length, get_or, take, drop, take-append-drop}
use lib.Seq.{take-suc, take_all}
use Rattle.std.specs.Prelude.{Some, None}
use Rattle.text.specs.Decimal.{decimal, value_from, value, spelled}
use Rattle.text.proofs.Digits.{Digits, Plain, nought, from, none, decimal-plain, decimal-small, plain-decimal, value-append}
use Rattle.text.proofs.Digits.{value-decimal, value_from-grows, digits_append, one-digit, is_spelled, not-spelled}

pub digit_at : {l : List ℕ} → Digits l → (i : ℕ) → i < length l → (48 ≤ get_or l i 0) × (get_or l i 0 ≤ 57)
digit_at none i h = absurd (omega arith)
digit_at (Digits.more p q d) zero h = (p, q)
digit_at (Digits.more p q d) (suc i) h = digit_at d i (omega arith)

pub plain-digits : {l : List ℕ} → Plain l → Digits l
plain-digits nought = one-digit (omega arith) (omega arith)
plain-digits (from {b = b} p q d) = Digits.more {b = b} (omega arith) q d

plain-lead : {l : List ℕ} → Plain l → get_or l 0 0 ≡ 48 → length l ≡ 1
plain-lead nought e = refl
plain-lead (from p q d) e = absurd (omega arith)

pub plain-some : {l : List ℕ} → Plain l → 1 ≤ length l
plain-some nought = omega arith
plain-some (from p q d) = omega arith

plain_of : {l : List ℕ} → Digits l → 1 ≤ length l → (get_or l 0 0 ≡ 48 → ⊥) → Plain l
plain_of none h e = absurd (omega arith)
plain_of (Digits.more {b = b} p q d) h e = from {b = b} (omega arith) q d

-- one more digit read
module _ (text : List ℕ) (i : ℕ) (h : i < length text) where
  next-take : take (i + 1) text ≡ take i text ++ (get_or text i 0 ∷ [])
  next-take = rw (add-one i) (take-suc text i 0 h)

  pub read-value : {v : ℕ} → v ≡ value (take i text) → 10 * v + (get_or text i 0 - 48) ≡ value (take (i + 1) text)
  unfolding value_from
  read-value e = rw (next-take, e) (sym (value-append (take i text) (get_or text i 0 ∷ [])))

  pub read-digits : 48 ≤ get_or text i 0 → get_or text i 0 ≤ 57 → Digits (take i text) → Digits (take (i + 1) text)
  read-digits p q d = rw next-take (digits_append d (one-digit p q))

module _ (most : ℕ) (text : List ℕ) where
  not_plain : (Plain text → ⊥) → None ≡ spelled most text
  not_plain f = sym (not-spelled most text (λ n h e. f (subst Plain e (decimal-plain n))))

  pub empty : length text ≡ 0 → None ≡ spelled most text
  empty h = not_plain (λ p. omega (arith, plain-some p))

  pub led-by-zero : get_or text 0 0 ≡ 48 → (length text ≡ 1 → ⊥) → None ≡ spelled most text
  led-by-zero z h = not_plain (λ p. h (plain-lead p z))

  pub no_digit : (i : ℕ) → i < length text → (48 ≤ get_or text i 0 → get_or text i 0 ≤ 57 → ⊥) → None ≡ spelled most text
  no_digit i h f = not_plain (λ p. let d = digit_at (plain-digits p) i h in f d.0 d.1)

  too_large : (i : ℕ) → most < value (take i text) → None ≡ spelled most text
  too_large i h =
      sym
      (not-spelled most text
      (λ n k e.
      omega (
        arith,
        value-decimal n,
        ap value e,
        ap value (take-append-drop i text),
        value-append (take i text) (drop i text),
        value_from-grows (value (take i text)) (drop i text),
      )))

  pub past-most : (i : ℕ) {v : ℕ} → i < length text → v ≡ value (take i text) → most < 10 * v + (get_or text i 0 - 48) → None ≡ spelled most text
  past-most i h e k = too_large (i + 1) (omega (arith, read-value text i h e))

  pub whole : (i : ℕ) {v : ℕ} → length text ≤ i → v ≡ value (take i text) → Digits (take i text) → 1 ≤ length text → (get_or text 0 0 ≡ 48 → ⊥) → v ≤ most
      → Some v ≡ spelled most text
  whole i {v} h f d some lead k =
      let e : take i text ≡ text = take_all i text h in
      let w : v ≡ value text = f ∙ ap value e in
      sym (is_spelled most text v (ap decimal w ∙ plain-decimal (plain_of (subst Digits e d) some lead)) k)

lone : (l : List ℕ) → get_or l 0 0 ≡ 48 → length l ≡ 1 → 48 ∷ [] ≡ l
lone [] z h = absurd (omega arith)
lone (x ∷ []) z h = ap (λ (b : ℕ). b ∷ []) (sym z)
lone (x ∷ y ∷ l) z h = absurd (omega arith)

pub lone-zero : (most : ℕ) (text : List ℕ) → get_or text 0 0 ≡ 48 → length text ≡ 1 → Some 0 ≡ spelled most text
lone-zero most text z h = sym (is_spelled most text 0 (decimal-small 0 (omega arith) ∙ lone text z h) (omega arith))
