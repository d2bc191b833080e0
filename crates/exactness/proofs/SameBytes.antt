-- Laws of the comparison of bytes with a slice from a position on: a byte, a number and a part, each with what follows.
use mathlib.Core.Path.{◌≡◌, refl, sym, ◌∙◌, ap}
use Prim.Native.Nat.{ℕ, ◌+◌, ◌^◌, ◌<◌, ◌≤◌}
use native.Mathlib.Decide.{ℕ_discrete}
use native.Mathlib.Omega.{arith}
use mathlib.Core.Bool.{Bool, true, false, ◌&&◌, and_assoc}
use mathlib.Core.List.{List, [], ◌∷◌, ◌++◌}
use lib.Dec.{eqb}
use lib.Pointwise.{pointwise}
use lib.ListN.{length, get_or, drop, take-append-drop}
use lib.Seq.{drop-drop}
use borrow.Author.Tests.{eq-eqb, ne_eqb}
use Rattle.buffer.proofs.Lent.{bytes-part}
use Rattle.buffer.specs.Slice.{Bytes, part, same_bytes}
use Rattle.buffer.specs.Number.{bytes_of, number_from, number_of}
use Rattle.buffer.proofs.Equality.{bytes_same, same_bytes_lem}
use Rattle.buffer.proofs.Numbers.{length-bytes_of, number-of-bytes, bytes-of-number}
use Rattle.buffer.proofs.Writes.{length_part, part-cons, part-nil}
use Rattle.memory.proofs.FromBytes.{number_fits}

-- lists compared in two parts
same-append : (a c t u : List ℕ) → length a ≡ length c → same_bytes (a ++ t) (c ++ u) ≡ (same_bytes a c && same_bytes t u)
unfolding same_bytes
same-append [] [] t u e = refl
same-append [] (y ∷ c) t u e = absurd (omega arith)
same-append (x ∷ a) [] t u e = absurd (omega arith)
same-append (x ∷ a) (y ∷ c) t u e = rw (same-append a c t u (omega arith)) (sym (and_assoc (eqb x y) (same_bytes a c) (same_bytes t u)))

-- std's comparison of two arrays, the bytes that are looked for on its right
eqb-swap : (x y : ℕ) → eqb x y ≡ eqb y x
eqb-swap x y = by-case (ℕ_discrete x y)
  where
    by-case : Dec (x ≡ y) → eqb x y ≡ eqb y x
    by-case (yes e) = eq-eqb x y e ∙ sym (eq-eqb y x (sym e))
    by-case (no d) = ne_eqb x y d ∙ sym (ne_eqb y x (λ e. d (sym e)))

pub pointwise-same : (c a : List ℕ) → pointwise eqb c a ≡ same_bytes a c
unfolding same_bytes
pointwise-same [] [] = refl
pointwise-same [] (x ∷ a) = refl
pointwise-same (y ∷ c) [] = refl
pointwise-same (y ∷ c) (x ∷ a) = rw (eqb-swap y x, pointwise-same c a)

-- lists that are not equal
not_same : (a c : List ℕ) → (a ≡ c → ⊥) → same_bytes a c ≡ false
not_same a c d = refuse (same_bytes a c) (λ e. d (same_bytes_lem a c e))
  where
    refuse : (r : Bool) → (r ≡ true → ⊥) → r ≡ false
    refuse true h = absurd (h refl)
    refuse false h = refl

-- a number's bytes compared are the number compared
same_number : (width n : ℕ) (c : List ℕ) → n < 256 ^ width → length c ≡ width → Bytes c → same_bytes (bytes_of width n) c ≡ eqb (number_of c) n
same_number width n c small size bytes = by-case (ℕ_discrete (number_of c) n)
  where
    by-case : Dec (number_of c ≡ n) → same_bytes (bytes_of width n) c ≡ eqb (number_of c) n
    by-case (yes e) =
        let again : bytes_of width (number_of c) ≡ c = rw size at (bytes-of-number c bytes) in
        ap (λ (l : List ℕ). same_bytes l c) (ap (bytes_of width) (sym e) ∙ again) ∙ (bytes_same c ∙ sym (eq-eqb (number_of c) n e))
    by-case (no d) =
        not_same (bytes_of width n) c (λ e. d (ap number_of (sym e) ∙ number-of-bytes width n small)) ∙ sym (ne_eqb (number_of c) n d)

module _ (b : List ℕ) where
  part-rest : (at n : ℕ) → drop at b ≡ part b at n ++ drop (at + n) b
  unfolding part
  part-rest at n = rw (← drop-drop n at b) (sym (take-append-drop n (drop at b)))

  -- a part of the slice itself
  pub part-there : (at n : ℕ) (tail : List ℕ) → at + n ≤ length b → same_bytes (part b at n ++ tail) (drop at b) ≡ same_bytes tail (drop (at + n) b)
  part-there at n tail fits =
      ap (same_bytes (part b at n ++ tail)) (part-rest at n)
      ∙ (same-append (part b at n) (part b at n) tail (drop (at + n) b) refl ∙ rw (bytes_same (part b at n)))

  module _ (bytes : Bytes b) where
    -- a number, any and the one that stands there
    pub number-test : (at n x : ℕ) (tail : List ℕ) → at + n ≤ length b → x < 256 ^ n
        → same_bytes (bytes_of n x ++ tail) (drop at b) ≡ (eqb (number_of (part b at n)) x && same_bytes tail (drop (at + n) b))
    number-test at n x tail fits small =
        let size : length (part b at n) ≡ n = length_part b at n fits in
        ap (same_bytes (bytes_of n x ++ tail)) (part-rest at n)
        ∙ (same-append (bytes_of n x) (part b at n) tail (drop (at + n) b) (length-bytes_of n x ∙ sym size)
        ∙ rw (same_number n x (part b at n) small size (bytes-part b at n bytes)))

    pub number-there : (at n : ℕ) (tail : List ℕ) → at + n ≤ length b
        → same_bytes (bytes_of n (number_of (part b at n)) ++ tail) (drop at b) ≡ same_bytes tail (drop (at + n) b)
    number-there at n tail fits = number-test at n (number_of (part b at n)) tail fits (number_fits b at n bytes fits) ∙ rw (eq-eqb (number_of
        (part b at n)) (number_of (part b at n)) refl)

    -- a byte, any and the one that stands there
    byte-number : (at : ℕ) → at < length b → number_of (part b at 1) ≡ get_or b at 0
    unfolding number_of number_from
    byte-number at h = rw (part-cons b at 0 h, part-nil) (omega arith)

    pub byte-test : (at x : ℕ) (tail : List ℕ) → at < length b → x < 256
        → same_bytes (bytes_of 1 x ++ tail) (drop at b) ≡ (eqb (get_or b at 0) x && same_bytes tail (drop (at + 1) b))
    byte-test at x tail fits small = number-test at 1 x tail (omega arith) small ∙ rw (byte-number at fits)

    pub byte-there : (at : ℕ) (tail : List ℕ) → at < length b
        → same_bytes (bytes_of 1 (get_or b at 0) ++ tail) (drop at b) ≡ same_bytes tail (drop (at + 1) b)
    byte-there at tail fits = byte-test at (get_or b at 0) tail fits (bytes at) ∙ rw (eq-eqb (get_or b at 0) (get_or b at 0) refl)
