-- Laws of the test that every byte lies between two numbers, byte by byte.
use mathlib.Core.Path.{◌≡◌, sym, ◌∙◌}
use Prim.Native.Nat.{ℕ, ◌+◌, ◌<◌, ◌≤◌}
use native.Mathlib.Numerals.{add-one}
use mathlib.Core.Bool.{Bool, ◌&&◌, and-true, and_assoc}
use mathlib.Core.List.{List}
use lib.Dec.{leb}
use lib.ListN.{length, get_or, drop, drop_of_length-le}
use lib.Seq.{drop-cons}
use Rattle.frame.specs.Writing.{all_between}

-- the test from i on, by the byte at i
between-at : (low high i : ℕ) (l : List ℕ) → i < length l
    → all_between low high (drop i l) ≡ (leb low (get_or l i 0) && leb (get_or l i 0) high && all_between low high (drop (i + 1) l))
unfolding all_between
between-at low high i l h = rw (drop-cons l i 0 h, add-one)

module _ (low high i : ℕ) (l : List ℕ) (fine : Bool) (so_far : all_between low high l ≡ (fine && all_between low high (drop i l))) where
  pub between-turn : {inside : Bool} → i < length l → inside ≡ (leb low (get_or l i 0) && leb (get_or l i 0) high)
      → all_between low high l ≡ ((fine && inside) && all_between low high (drop (i + 1) l))
  between-turn h p = so_far ∙ rw (between-at low high i l h, p) (simp and_assoc)

  pub between-end : length l ≤ i → fine ≡ all_between low high l
  unfolding all_between
  between-end h = sym (so_far ∙ (rw (drop_of_length-le l {i = i} h) (and-true fine)))
