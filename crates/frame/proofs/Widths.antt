-- The fields whose bits stand, bit by bit: how many they are, and what their widths come to.
use mathlib.Core.Path.{◌≡◌, refl}
use Prim.Native.Nat.{ℕ, suc, ◌+◌, ◌/◌, ◌%◌, ◌^◌, ◌<◌, ◌≤◌}
use native.Mathlib.Numerals.{add-one}
use native.Mathlib.Omega.{arith}
use mathlib.Core.Bool.{Bool, true, false, cond}
use mathlib.Core.List.{List, [], ◌∷◌}
use lib.Count.{ones, ones_in, ones_step}
use lib.ListN.{length, drop, get_or, drop_of_length-le}
use lib.Seq.{drop-cons}
use borrow.Author.Tests.{eqb-true, eqb-false, eq-eqb, ne_eqb}
use Rattle.lists.specs.Lists.{tally}
use Rattle.frame.specs.Layout.{widths, odd, standing, whole_length}

-- they are as many as the map has one bits
pub standing-count : (ws : List ℕ) (map : ℕ) → map < 2 ^ length ws → length (standing map ws) ≡ ones map
unfolding standing ones ones_in
standing-count [] map h = let none : map ≡ 0 = omega arith in rw none
standing-count (w ∷ ws) map h =
    let small : map < 2 ^ suc (length ws) = h in
    by (odd map) refl (standing-count ws (map / 2) (omega arith))
  where
    by : (there : Bool) → odd map ≡ there → length (standing (map / 2) ws) ≡ ones (map / 2)
        → length (cond there (w ∷ standing (map / 2) ws) (standing (map / 2) ws)) ≡ ones map
    by true e rest = omega (arith, ones_step map, eqb-true (map % 2) 1 e)
    by false e rest = omega (arith, ones_step map, eqb-false (map % 2) 1 e)

-- they take no more than all fields
standing-most : (map : ℕ) (ws : List ℕ) → tally (λ n. n) (standing map ws) ≤ tally (λ n. n) ws
unfolding standing tally
standing-most map [] = omega arith
standing-most map (w ∷ ws) = by (odd map) (standing-most (map / 2) ws)
  where
    by : (there : Bool) → tally (λ n. n) (standing (map / 2) ws) ≤ tally (λ n. n) ws
        → tally (λ n. n) (cond there (w ∷ standing (map / 2) ws) (standing (map / 2) ws)) ≤ w + tally (λ n. n) ws
    by true rest = omega arith
    by false rest = omega arith

pub whole-most : (map : ℕ) → whole_length map ≤ 30
unfolding whole_length tally
whole-most map = omega (arith, standing-most map widths)

-- the width of a bit's field, and those behind it
pub width-next : {bit : ℕ} → bit < 8 → drop bit widths ≡ get_or widths bit 0 ∷ drop (bit + 1) widths
width-next {bit} inside = rw add-one (drop-cons widths bit 0 inside)

-- a position, and behind it the fields of the bits from one on that stand in the rest of a map, come to a whole
pub record ComesTo (whole at rest bit : ℕ) : Type 0 where
  pub sum : whole ≡ at + tally (λ n. n) (standing rest (drop bit widths))

-- the map's own byte and all fields
pub none-added : (map : ℕ) → ComesTo (whole_length map) 1 map 0
unfolding whole_length
none-added map = record { sum = refl }

module _ {whole at rest bit : ℕ} (inside : bit < 8) (c : ComesTo whole at rest bit) where
  -- the next bit stands
  module _ (o : rest % 2 ≡ 1) where
    with-width : whole ≡ at + (get_or widths bit 0 + tally (λ n. n) (standing (rest / 2) (drop (bit + 1) widths)))
    unfolding standing tally
    with-width = rw (width-next inside, eq-eqb (rest % 2) 1 o) at c.sum

    pub width_fits : at + get_or widths bit 0 ≤ whole
    width_fits = let e = with-width in omega arith

    pub width-added : ComesTo whole (at + get_or widths bit 0) (rest / 2) (bit + 1)
    width-added = let e = with-width in record { sum = omega arith }

  -- it does not
  pub width-passed : (rest % 2 ≡ 1 → ⊥) → ComesTo whole at (rest / 2) (bit + 1)
  unfolding standing
  width-passed o = record { sum = rw (width-next inside, ne_eqb (rest % 2) 1 o) at c.sum }

-- no bit is left
pub all-added : {whole at rest bit : ℕ} → 8 ≤ bit → ComesTo whole at rest bit → at ≡ whole
unfolding standing tally
all-added past c = let e = rw (drop_of_length-le widths past) at c.sum in omega arith
