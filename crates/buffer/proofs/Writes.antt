-- Laws of a part of a slice and of bytes written into a slice.
use mathlib.Core.Path.{◌≡◌, refl, sym, ◌∙◌, ap}
use Prim.Native.Nat.{ℕ, zero, suc, ◌+◌, ◌-◌, ◌≤◌, ◌<◌}
use native.Mathlib.Nat.{add_assoc, add-zero, zero-add, suc-add}
use native.Mathlib.Numerals.{add-one}
use native.Mathlib.Omega.{arith}
use mathlib.Core.List.{List, [], ◌∷◌, ◌++◌, append_assoc}
use lib.ListN.{length, take, drop, set, get_or, length-append, length-take, length-drop, take-append-drop}
use lib.Seq.{take_at, drop_at, drop-drop, set_split}
use lib.Seq.{length-take-le, take-take, drop-append-add, take-nil, drop-cons}
use borrow.Rule.Slice.PartMut.{put_mid}
use Rattle.std.proofs.lemmas.Slice.{put_mid-paste}
use Rattle.std.proofs.lemmas.List.Edits.{paste_all}
use lib.Seq.{paste}
use Rattle.buffer.specs.Slice.{part, write}

pub length_part : (m : List ℕ) (at n : ℕ) → at + n ≤ length m → length (part m at n) ≡ n
unfolding part
length_part m at n h = simp (length-take, length-drop) (omega arith)

-- the bytes of m from a position to an end
pub part-between : (m : List ℕ) (at n : ℕ) → take (at + n - at) (drop at m) ≡ part m at n
unfolding part
part-between m at n = let e : at + n - at ≡ n = omega arith in rw e

module _ (at : ℕ) (xs m : List ℕ) (fits : at + length xs ≤ length m) where
  pub length-write : length (write at xs m) ≡ length m
  unfolding write
  length-write = simp (length-append, length-take, length-drop) (omega arith)

  -- what stands before, in and after the written bytes
  pub take-write : take at (write at xs m) ≡ take at m
  unfolding write
  take-write = take_at (take at m) _ at (length-take-le at m (omega arith))

  pub drop-write : drop (at + length xs) (write at xs m) ≡ drop (at + length xs) m
  unfolding write
  drop-write =
      let e : length (take at m ++ xs) ≡ at + length xs = simp (length-append, length-take) (omega arith) in
      rw (← append_assoc) (drop_at (take at m ++ xs) _ (at + length xs) e)

  pub part-written : part (write at xs m) at (length xs) ≡ xs
  unfolding part write
  part-written =
      rw (drop_at (take at m) (xs ++ drop (at + length xs) m) at (length-take-le at m (omega arith)))
      (take_at xs (drop (at + length xs) m) (length xs) refl)

-- nothing written
pub write-nil : (at : ℕ) (m : List ℕ) → write at [] m ≡ m
unfolding write
write-nil at m = rw add-zero (take-append-drop at m)

-- one store is a write of one byte
pub set-write : (m : List ℕ) (at x : ℕ) → at < length m → set m at x ≡ write at (x ∷ []) m
unfolding write
set-write m at x h = rw add-one (set_split m at x h)

-- the part between two places, cut behind first
take-drop : (from n : ℕ) (m : List ℕ) → drop from (take (from + n) m) ≡ take n (drop from m)
take-drop zero n m = rw zero-add
take-drop (suc from) n [] = rw suc-add (sym (take-nil n))
take-drop (suc from) n (x ∷ m) = rw suc-add (take-drop from n m)

-- a write as what stands before it with the written bytes, and the rest
write-split : (at : ℕ) (xs m : List ℕ) → write at xs m ≡ (take at m ++ xs) ++ drop (at + length xs) m
unfolding write
write-split at xs m = sym (append_assoc (take at m) xs (drop (at + length xs) m))

-- a write behind a write is one write
pub write-join : (at : ℕ) (xs ys m : List ℕ) → at + length xs ≤ length m → write (at + length xs) ys (write at xs m) ≡ write at (xs ++ ys) m
write-join at xs ys m h =
    let e : length (take at m ++ xs) ≡ at + length xs = simp (length-append, length-take) (omega arith) in
    let front : take (at + length xs) (write at xs m) ≡ take at m ++ xs = rw write-split (take_at _ _ _ e) in
    let rest : drop (at + length xs + length ys) (write at xs m) ≡ drop (at + length xs + length ys) m =
    rw (write-split, ← e) (drop-append-add (take at m ++ xs) (drop (length (take at m ++ xs)) m) (length ys) ∙ drop-drop (length ys) (length
    (take at m ++ xs)) m)
    in
    rw (write-split (at + length xs), write-split at (xs ++ ys), front, rest, length-append, add_assoc) (simp append_assoc)

-- a part that ends before a write is as it was
pub part-before-write : (at : ℕ) (xs m : List ℕ) (from n : ℕ) → at + length xs ≤ length m → from + n ≤ at → part (write at xs m) from n ≡ part m from n
unfolding part
part-before-write at xs m from n fits before = rw (← take-drop from n (write at xs m), ← take-drop from n m) (ap (drop from) (shorter (from + n) before))
  where
    shorter : (k : ℕ) → k ≤ at → take k (write at xs m) ≡ take k m
    shorter k h = rw (← take-take k at (write at xs m) h, ← take-take k at m h) (ap (take k) (take-write at xs m fits))

-- a part that starts behind a write is as it was
pub part-after-write : (at : ℕ) (xs m : List ℕ) (from n : ℕ) → at + length xs ≤ length m → at + length xs ≤ from → part (write at xs m) from n ≡ part m from n
unfolding part
part-after-write at xs m from n fits after = ap (take n) (longer from after)
  where
    longer : (k : ℕ) → at + length xs ≤ k → drop k (write at xs m) ≡ drop k m
    longer k h =
        let e : at + length xs + (k - (at + length xs)) ≡ k = omega arith in
        rw (← e, ← drop-drop (k - (at + length xs)) (at + length xs) (write at xs m), ← drop-drop (k - (at + length xs)) (at + length xs) m)
        (ap (drop (k - (at + length xs))) (drop-write at xs m fits))

-- a part of a part
pub part-part : (m : List ℕ) (at n from k : ℕ) → from + k ≤ n → part (part m at n) from k ≡ part m (at + from) k
unfolding part
part-part m at n from k h =
    rw (← take-drop from k (take n (drop at m)), take-take (from + k) n (drop at m) h, take-drop from k (drop at m), drop-drop from at m)

-- one more byte stored behind a write
pub write-snoc : (at : ℕ) (xs m : List ℕ) (x k : ℕ) → at + length xs < length m → k ≡ at + length xs → set (write at xs m) k x ≡ write at (xs ++ (x ∷ [])) m
write-snoc at xs m x k h e =
    rw e
    (set-write (write at xs m) (at + length xs) x (rw (length-write at xs m (omega arith)) h)
    ∙ write-join at xs (x ∷ []) m (omega arith))

take_none : (l : List ℕ) → take 0 l ≡ []
take_none [] = refl
take_none (x ∷ l) = refl

-- a part by its first byte
pub part-cons : (m : List ℕ) (at n : ℕ) → at < length m → part m at (suc n) ≡ get_or m at 0 ∷ part m (at + 1) n
unfolding part
part-cons m at n h = rw (drop-cons m at 0 h, add-one)

pub part-nil : (m : List ℕ) (at : ℕ) → part m at 0 ≡ []
unfolding part
part-nil m at = take_none (drop at m)

-- bytes put in the place of a part, and bytes moved within a slice
pub put_mid-write : (at : ℕ) (source m : List ℕ) {bytes : List ℕ} → bytes ≡ source → put_mid at (at + length source - at) m bytes ≡ write at source m
unfolding write
put_mid-write at source m e =
    put_mid-paste at (at + length source - at) m _ source (length source) e (omega arith) refl ∙ paste_all m at source (length source) refl

pub paste-write : (at from count : ℕ) (m : List ℕ) → from + count ≤ length m → paste m at (drop from m) (from + count - from) ≡ write at (part m from count) m
unfolding write part
paste-write at from count m fits =
    let size : length (take count (drop from m)) ≡ count = length_part m from count fits in
    let moved : from + count - from ≡ count = omega arith in
    rw (moved, size) (append_assoc (take at m) (take count (drop from m)) (drop (at + count) m))
