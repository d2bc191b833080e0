-- The reader's walk over the fields of a frame.
use mathlib.Core.Path.{◌≡◌, refl, sym, ◌∙◌, ap}
use Prim.Native.Nat.{ℕ, zero, suc, ◌+◌, ◌-◌, ◌/◌, ◌%◌, ◌^◌, ◌<◌, ◌≤◌}
use native.Mathlib.Nat.{add-zero, lt_of_not-le}
use native.Mathlib.Numerals.{add-one}
use native.Mathlib.Omega.{arith}
use mathlib.Core.Bool.{true, false, cond}
use mathlib.Core.List.{List, [], ◌∷◌, ◌++◌}
use lib.Count.{ones, ones_in, ones_step}
use lib.ListN.{length, take, drop, get_or, replicate, drop_of_length-le, take-append-drop}
use lib.Seq.{drop-cons, take-suc, length-take-le}
use borrow.Author.Tests.{eq-eqb, ne_eqb}
use Rattle.buffer.specs.Slice.{part}
use Rattle.buffer.specs.Number.{number_of}
use Rattle.buffer.proofs.Writes.{part-nil, part-cons}
use Rattle.frame.specs.Layout.{widths, odd, whole_length, cut}
use Rattle.frame.specs.Reasons.{values_of, fields_of, lamp_of}
use Rattle.frame.specs.Inside.Steps.{stored, no_fields}
use Rattle.frame.specs.declared.Fields.{Fields}
use Rattle.frame.proofs.Widths.{ComesTo, none-added, width-next, width_fits, width-added, width-passed}

-- a number with no one bits is zero
none-stand : (k n : ℕ) → n < 2 ^ k → ones n ≡ 0 → n ≡ 0
none-stand zero n h e = omega arith
none-stand (suc k) n h e =
    let step = ones_step n in
    let half : n / 2 ≡ 0 = none-stand k (n / 2) (omega arith) (omega arith) in
    omega arith

length_cut : (at map : ℕ) (ws s : List ℕ) → length (cut at map ws s) ≡ length ws
unfolding cut
length_cut at map [] s = refl
length_cut at map (w ∷ ws) s = ap suc (length_cut (at + cond (odd map) w 0) (map / 2) ws s)

-- where no bit stands every field is without bytes
cut-none : (at : ℕ) (ws s : List ℕ) → cut at 0 ws s ≡ replicate (length ws) []
unfolding cut
cut-none at [] s = refl
cut-none at (w ∷ ws) s = rw (part-nil s at, add-zero, cut-none at ws s)

-- fields without bytes behind the others change no value
get_d-behind : (xs : List (List ℕ)) (k i : ℕ) → get_or (xs ++ replicate k []) i [] ≡ get_or xs i []
get_d-behind [] zero i = refl
get_d-behind [] (suc k) zero = refl
get_d-behind [] (suc k) (suc i) = get_d-behind [] k i
get_d-behind (x ∷ xs) k zero = refl
get_d-behind (x ∷ xs) k (suc i) = get_d-behind xs k i

values-behind : (xs : List (List ℕ)) (k : ℕ) → values_of (xs ++ replicate k []) ≡ values_of xs
unfolding values_of
values-behind xs k = simp get_d-behind

-- the field behind those read so far
stored_next : (xs : List (List ℕ)) (p : List ℕ) → length xs < 8 → stored (length xs) p (values_of xs) ≡ values_of (xs ++ (p ∷ []))
unfolding values_of
stored_next [] p h = refl
stored_next (a ∷ []) p h = refl
stored_next (a ∷ b ∷ []) p h = refl
stored_next (a ∷ b ∷ c ∷ []) p h = refl
stored_next (a ∷ b ∷ c ∷ d ∷ []) p h = refl
stored_next (a ∷ b ∷ c ∷ d ∷ e ∷ []) p h = refl
stored_next (a ∷ b ∷ c ∷ d ∷ e ∷ f ∷ []) p h = refl
stored_next (a ∷ b ∷ c ∷ d ∷ e ∷ f ∷ g ∷ []) p h = refl
stored_next (a ∷ b ∷ c ∷ d ∷ e ∷ f ∷ g ∷ i ∷ xs) p h = absurd (omega arith)

-- of the eight bits the last
past_three : (bit : ℕ) → (bit ≡ 0 → ⊥) → (bit ≡ 1 → ⊥) → (bit ≡ 2 → ⊥) → (bit ≡ 3 → ⊥) → 3 < bit
past_three bit a b c d = omega arith

past-six : (bit : ℕ) → 3 < bit → bit < 8 → (bit ≡ 4 → ⊥) → (bit ≡ 5 → ⊥) → (bit ≡ 6 → ⊥) → bit ≡ 7
past-six bit l h e f g = omega arith

pub last_bit : (bit : ℕ) → bit < 8 → (bit ≡ 0 → ⊥) → (bit ≡ 1 → ⊥) → (bit ≡ 2 → ⊥) → (bit ≡ 3 → ⊥) → (bit ≡ 4 → ⊥) → (bit ≡ 5 → ⊥) → (bit ≡ 6 → ⊥) → bit ≡ 7
last_bit bit h a b c d e f g = past-six bit (past_three bit a b c d) h e f g

-- a lamp that is there
pub lamp-bytes : (m : List ℕ) (at : ℕ) → at + 18 ≤ length m → lamp_of (part m at 18) ≡ part m at 18
lamp-bytes m at h = rw (part-cons m at 17 (omega arith))

-- where the walk stands: bit is the next one, rest the map from there on with left one bits, at the next field's place
pub record Walking (s : List ℕ) (map at rest left bit : ℕ) (fields : Fields) : Type 0 where
  pub inside : bit ≤ 8
  pub ahead : cut at rest (drop bit widths) s ≡ drop bit (cut 1 map widths s)
  pub until : ComesTo (length s) at rest bit
  pub small : rest < 2 ^ length (drop bit widths)
  pub count : left ≡ ones rest
  pub so_far : fields ≡ values_of (take bit (cut 1 map widths s))

pub walk_start : (s : List ℕ) (map : ℕ) → map < 256 → length s ≡ whole_length map → Walking s map 1 map (ones map) 0 no_fields
unfolding cut values_of number_of
walk_start s map small size = record {
  inside = omega arith;
  ahead = refl;
  until = rw size (none-added map);
  small = small;
  count = refl;
  so_far = refl;
}

module _ {s : List ℕ} {map at rest left bit : ℕ} {fields : Fields} (w : Walking s map at rest left bit fields) where
  pub walk-bit : 0 < left → bit < 8
  unfolding ones ones_in
  walk-bit h = lt_of_not-le λ past.
      let e : drop bit widths ≡ [] = drop_of_length-le widths past in
      let z : rest < 2 ^ 0 = rw e at w.small in
      let none : rest ≡ 0 = omega arith in
      let l : left ≡ ones 0 = w.count ∙ ap ones none in
      omega arith

  pub walk-less : 0 < left → rest / 2 < rest
  unfolding ones ones_in
  walk-less h = lt_of_not-le λ past.
      let none : rest ≡ 0 = omega arith in
      let l : left ≡ ones 0 = w.count ∙ ap ones none in
      omega arith

  pub walk-fits : 0 < left → rest % 2 ≡ 1 → at + get_or widths bit 0 ≤ length s
  walk-fits h = width_fits (walk-bit h) w.until

  -- the fields from the next one on, cut off the whole
  ahead-next : 0 < left
      → (part s at (cond (odd rest) (get_or widths bit 0) 0) ≡ get_or (cut 1 map widths s) bit [])
      × (cut (at + cond (odd rest) (get_or widths bit 0) 0) (rest / 2) (drop (bit + 1) widths) s ≡ drop (bit + 1) (cut 1 map widths s))
  unfolding cut
  ahead-next h =
      let whole : List (List ℕ) = cut 1 map widths s in
      let e = rw (width-next (walk-bit h)) at w.ahead in
      let d : drop bit whole ≡ get_or whole bit [] ∷ drop (bit + 1) whole = rw add-one (drop-cons whole bit [] (walk-bit h)) in
      (cc, cc)

  small-next : 0 < left → rest / 2 < 2 ^ length (drop (bit + 1) widths)
  small-next h =
      let e : rest < 2 ^ suc (length (drop (bit + 1) widths)) = rw (width-next (walk-bit h)) at w.small in
      omega arith

  read_next : 0 < left → take (bit + 1) (cut 1 map widths s) ≡ take bit (cut 1 map widths s) ++ (get_or (cut 1 map widths s) bit [] ∷ [])
  unfolding cut
  read_next h = rw add-one (take-suc (cut 1 map widths s) bit [] (walk-bit h))

  -- the next bit stands: its field is read
  pub walk-taken : 0 < left → rest % 2 ≡ 1
      → Walking s map (at + get_or widths bit 0) (rest / 2) (left - 1) (bit + 1) (stored bit (part s at (get_or widths bit 0)) fields)
  walk-taken h o =
      let t : odd rest ≡ true = eq-eqb (rest % 2) 1 o in
      let whole : List (List ℕ) = cut 1 map widths s in
      let ahead = rw t at (ahead-next h) in
      let step = ones_step rest in
      let count = w.count in
      let inside = walk-bit h in
      let size : length (take bit whole) ≡ bit = length-take-le bit whole (rw (length_cut 1 map widths s) w.inside) in
      record {
        inside = omega arith;
        ahead = ahead.1;
        until = width-added (walk-bit h) w.until o;
        small = small-next h;
        count = omega arith;
        so_far = rw (w.so_far, read_next h, ahead.0) (rw size at (stored_next (take bit whole) (get_or whole bit []) (rw size inside)));
      }

  -- the next bit does not stand
  pub walk-passed : 0 < left → (rest % 2 ≡ 1 → ⊥) → Walking s map at (rest / 2) left (bit + 1) fields
  walk-passed h o =
      let t : odd rest ≡ false = ne_eqb (rest % 2) 1 o in
      let whole : List (List ℕ) = cut 1 map widths s in
      let ahead = rw (t, add-zero, part-nil) at (ahead-next h) in
      let step = ones_step rest in
      let count = w.count in
      let inside = walk-bit h in
      record {
        inside = omega arith;
        ahead = ahead.1;
        until = width-passed (walk-bit h) w.until o;
        small = small-next h;
        count = omega arith;
        so_far = w.so_far ∙ rw (read_next h, ← ahead.0) (sym (values-behind (take bit whole) 1));
      }

  -- no bit is left: every field has been read
  pub walk_end : left ≤ 0 → map ≡ get_or s 0 0 → fields ≡ fields_of s
  unfolding fields_of
  walk_end h m =
      let whole : List (List ℕ) = cut 1 map widths s in
      let none : rest ≡ 0 = none-stand (length (drop bit widths)) rest w.small (let count = w.count in omega arith) in
      let ahead : drop bit whole ≡ replicate (length (drop bit widths)) [] = sym w.ahead ∙ rw none (cut-none at (drop bit widths) s) in
      let joined : take bit whole ++ replicate (length (drop bit widths)) [] ≡ whole = rw (← ahead) (take-append-drop bit whole) in
      w.so_far ∙ sym (values-behind (take bit whole) (length (drop bit widths))) ∙ rw (joined, m)
