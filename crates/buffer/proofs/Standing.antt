-- Laws of bytes that stand at a position of a slice: a write of them changes nothing, a write apart leaves them.
use mathlib.Core.Path.{◌≡◌, refl, sym, ◌∙◌, ap}
use Prim.Native.Nat.{ℕ, ◌+◌, ◌-◌, ◌≤◌}
use native.Mathlib.Nat.{add-zero}
use native.Mathlib.Omega.{arith}
use mathlib.Core.List.{List, ◌++◌, append_assoc}
use lib.ListN.{length, take, drop, length-append, length-take, length-drop, take-append-drop}
use lib.Seq.{take_at, drop_at, drop-drop, take-add, take_all, length-take-le}
use Rattle.buffer.specs.Slice.{part, write}
use Rattle.buffer.proofs.Writes.{length_part, length-write, part-written, write-join, part-before-write, part-after-write, part-part}

-- the bytes xs stand at position at of m
abbrev pub Stands : ℕ → List ℕ → List ℕ → Type 0
Stands at xs m = part m at (length xs) ≡ xs

-- a part cut in two
pub part-add : (m : List ℕ) (at a b : ℕ) → part m at (a + b) ≡ part m at a ++ part m (at + a) b
unfolding part
part-add m at a b = rw (take-add a b (drop at m), drop-drop a at m)

-- the whole as a part
pub part-whole : (m : List ℕ) (n : ℕ) → length m ≤ n → part m 0 n ≡ m
unfolding part
part-whole m n h = take_all n m h

-- a list that goes on behind the part
pub part-front : (xs ys : List ℕ) (n : ℕ) → length xs ≡ n → part (xs ++ ys) 0 n ≡ xs
unfolding part
part-front xs ys n e = take_at xs ys n e

pub part-back : (xs ys : List ℕ) (k at n : ℕ) → length xs ≡ k → part (xs ++ ys) (k + at) n ≡ part ys at n
unfolding part
part-back xs ys k at n e = ap (take n) (sym (drop-drop at k (xs ++ ys)) ∙ ap (drop at) (drop_at xs ys k e))

-- a write of what stands there
pub write-part : (at n : ℕ) (m : List ℕ) → at + n ≤ length m → write at (part m at n) m ≡ m
unfolding write part
write-part at n m h =
    let e : length (take n (drop at m)) ≡ n = simp (length-take, length-drop) (omega arith) in
    rw (e, ← drop-drop n at m, take-append-drop n (drop at m)) (take-append-drop at m)

pub write-stands : (at : ℕ) (xs m : List ℕ) → at + length xs ≤ length m → Stands at xs m → write at xs m ≡ m
write-stands at xs m h s = ap (λ l. write at l m) (sym s) ∙ write-part at (length xs) m h

-- a part stands where it was taken from
pub stands-part : (at n : ℕ) (m : List ℕ) {xs : List ℕ} → at + n ≤ length m → xs ≡ part m at n → Stands at xs m
stands-part at n m h e = rw (e, length_part m at n h)

-- bytes stand one behind the other
module _ (at : ℕ) (xs ys m : List ℕ) where
  pub stands-append : Stands at xs m → Stands (at + length xs) ys m → Stands at (xs ++ ys) m
  stands-append s t = rw (length-append, part-add m at (length xs) (length ys), s, t)

  pub stands-front : Stands at (xs ++ ys) m → Stands at xs m
  stands-front s =
      let e : part (part m at (length (xs ++ ys))) 0 (length xs) ≡ xs = ap (λ l. part l 0 (length xs)) s ∙ part-front xs ys (length xs) refl in
      sym (part-part m at (length (xs ++ ys)) 0 (length xs) (rw length-append (omega arith)) ∙ rw add-zero) ∙ e

  pub stands-back : Stands at (xs ++ ys) m → Stands (at + length xs) ys m
  stands-back s =
      let e : part (xs ++ ys) (length xs) (length ys) ≡ ys =
      rw add-zero at (part-back xs ys (length xs) 0 (length ys) refl) ∙ part-whole ys (length ys) (omega arith)
      in
      sym (part-part m at (length (xs ++ ys)) (length xs) (length ys) (rw length-append (omega arith)))
      ∙ (ap (λ l. part l (length xs) (length ys)) s ∙ e)

-- writes leave what stands apart from them
module _ (at : ℕ) (xs m : List ℕ) (fits : at + length xs ≤ length m) where
  pub stands-written : Stands at xs (write at xs m)
  stands-written = part-written at xs m fits

  pub stands-before : (from : ℕ) (ys : List ℕ) → from + length ys ≤ at → Stands from ys m → Stands from ys (write at xs m)
  stands-before from ys h s = part-before-write at xs m from (length ys) fits h ∙ s

  pub stands_after : (from : ℕ) (ys : List ℕ) → at + length xs ≤ from → Stands from ys m → Stands from ys (write at xs m)
  stands_after from ys h s = part-after-write at xs m from (length ys) fits h ∙ s

-- a longer write of which the front or the back stands there already
module _ (at : ℕ) (xs ys m : List ℕ) (fits : at + length xs + length ys ≤ length m) where
  pub write-past-front : Stands at xs m → write at (xs ++ ys) m ≡ write (at + length xs) ys m
  write-past-front s = sym (write-join at xs ys m (omega arith)) ∙ ap (write (at + length xs) ys) (write-stands at xs m (omega arith) s)

  pub write-past-back : Stands (at + length xs) ys m → write at (xs ++ ys) m ≡ write at xs m
  write-past-back s =
      sym (write-join at xs ys m (omega arith))
      ∙ write-stands (at + length xs) ys (write at xs m) (rw (length-write at xs m (omega arith)) fits) (stands_after at xs m (omega arith)
      (at + length xs) ys (omega arith) s)

-- a write into a list that is given in three pieces
pub write-pieces : (at : ℕ) (xs p q r : List ℕ) → length p ≡ at → length q ≡ length xs → write at xs (p ++ (q ++ r)) ≡ p ++ (xs ++ r)
unfolding write
write-pieces at xs p q r e d =
    let behind : drop (at + length xs) (p ++ (q ++ r)) ≡ r = rw (← append_assoc p q r) (drop_at (p ++ q) r (at + length xs) (rw length-append (omega arith))) in
    rw (take_at p (q ++ r) at e, behind)

-- of two writes to one place the later stays
pub write_again : (at : ℕ) (xs ys m : List ℕ) → at + length xs ≤ length m → length ys ≡ length xs → write at xs (write at ys m) ≡ write at xs m
unfolding write
write_again at xs ys m fits e = write-pieces at xs (take at m) ys (drop (at + length ys) m) (length-take-le at m (omega arith)) e ∙ rw e

-- a write that covers an earlier one
write-over : (at : ℕ) (xs ys zs m : List ℕ) → at + length xs ≤ length m → length zs ≡ length xs → write at (xs ++ ys) (write at zs m) ≡ write at (xs ++ ys) m
write-over at xs ys zs m fits e =
    sym (write-join at xs ys (write at zs m) (rw (length-write at zs m (omega arith)) fits))
    ∙ (ap (write (at + length xs) ys) (write_again at xs zs m fits e) ∙ write-join at xs ys m fits)

pub write-covers : (at : ℕ) (xs ys m : List ℕ) → at + length xs ≤ length m → length ys ≤ length xs → write at xs (write at ys m) ≡ write at xs m
write-covers at xs ys m fits h =
    let l : length (take (length ys) xs) ≡ length ys = length-take-le (length ys) xs h in
    rw (take-append-drop (length ys) xs) at (write-over at (take (length ys) xs) (drop (length ys) xs) ys m (omega arith) (sym l))

-- writes apart from each other go in either order
regroup : (p q g t : List ℕ) → p ++ (q ++ (g ++ t)) ≡ (p ++ (q ++ g)) ++ t
regroup p q g t = simp append_assoc

swap-pieces : (at from : ℕ) (xs ys p q g r s : List ℕ) → length p ≡ at → length q ≡ length xs → length r ≡ length ys → length p + length q + length g ≡ from
    → write from ys (write at xs (p ++ (q ++ (g ++ (r ++ s))))) ≡ write at xs (write from ys (p ++ (q ++ (g ++ (r ++ s)))))
swap-pieces at from xs ys p q g r s lp lq lr lg =
    let first = write-pieces at xs p q (g ++ (r ++ s)) lp lq ∙ regroup p xs g (r ++ s) in
    let second = write-pieces from ys (p ++ (q ++ g)) r s (simp length-append (omega arith)) lr ∙ sym (regroup p q g (ys ++ s)) in
    ap (write from ys) first
    ∙ (write-pieces from ys (p ++ (xs ++ g)) r s (simp length-append (omega arith)) lr ∙ (sym (regroup p xs g (ys ++ s))
    ∙ sym (ap (write at xs) (ap (write from ys) (regroup p q g (r ++ s)) ∙ second) ∙ write-pieces at xs p q (g ++ (ys ++ s)) lp lq)))

pub write-swap : (at : ℕ) (xs : List ℕ) (from : ℕ) (ys m : List ℕ) → at + length xs ≤ from → from + length ys ≤ length m
    → write from ys (write at xs m) ≡ write at xs (write from ys m)
write-swap at xs from ys m apart fits =
    let gap : ℕ = from - (at + length xs) in
    let behind : List ℕ = drop (length xs) (drop at m) in
    let cut : take at m ++ (take (length xs) (drop at m) ++ (take gap behind ++ (take (length ys) (drop gap behind) ++ drop (length ys)
    (drop gap behind)))) ≡ m =
    simp take-append-drop
    in
    rw cut at
    (swap-pieces at from xs ys (take at m) (take (length xs) (drop at m)) (take gap behind) (take (length ys) (drop gap behind)) (drop
    (length ys) (drop gap behind))
    (length-take-le at m (omega arith))
    (simp (length-take, length-drop) (omega arith))
    (simp (length-take, length-drop) (omega arith))
    (simp (length-take, length-drop) (omega arith)))

-- parts that agree agree within
pub part-within : (m k : List ℕ) (at n from len : ℕ) → from + len ≤ n → part m at n ≡ part k at n → part m (at + from) len ≡ part k (at + from) len
part-within m k at n from len h e = sym (part-part m at n from len h) ∙ (ap (λ l. part l from len) e ∙ part-part k at n from len h)

-- xs, ys and zs stand one behind the other: ys is replaced by as many bytes, or taken out
module _ (at : ℕ) (xs ys zs m : List ℕ) (fits : at + length xs + length ys + length zs ≤ length m) (stand : Stands at (xs ++ (ys ++ zs)) m) where
  last-stand : Stands (at + length xs + length ys) zs m
  last-stand = stands-back (at + length xs) ys zs m (stands-back at xs (ys ++ zs) m stand)

  pub write-replaced : (news : List ℕ) → length news ≡ length ys → write at (xs ++ (news ++ zs)) m ≡ write (at + length xs) news m
  write-replaced news e =
      write-past-front at xs (news ++ zs) m (simp length-append (omega arith)) (stands-front at xs (ys ++ zs) m stand)
      ∙ write-past-back (at + length xs) news zs m (omega arith) (rw e last-stand)

  pub write-removed : write at (xs ++ zs) m ≡ write (at + length xs) (part m (at + length xs + length ys) (length zs)) m
  write-removed = rw last-stand (write-past-front at xs zs m (omega arith) (stands-front at xs (ys ++ zs) m stand))

-- xs and zs stand one behind the other, and ys is put in between
pub write-inserted : (at : ℕ) (xs ys zs m : List ℕ) → at + length xs + length ys + length zs ≤ length m → Stands at (xs ++ zs) m
    → write at (xs ++ (ys ++ zs)) m ≡ write (at + length xs) ys (write (at + length xs + length ys) (part m (at + length xs) (length zs)) m)
write-inserted at xs ys zs m fits stand =
    rw (stands-back at xs zs m stand)
    (write-past-front at xs (ys ++ zs) m (simp length-append (omega arith)) (stands-front at xs zs m stand)
    ∙ (sym (write-join (at + length xs) ys zs m (omega arith)) ∙ write-swap (at + length xs) ys (at + length xs + length ys) zs m (omega arith) fits))
