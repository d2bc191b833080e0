-- Laws of places one behind the other, for any element and size: what is stored is read back, what is read is stored the
-- same, and a change of the list is a write of the places that change.
use mathlib.Core.Path.{◌≡◌, refl, sym, ◌∙◌, ap, ap₂}
use Prim.Native.Nat.{ℕ, zero, suc, ◌+◌, ◌-◌, ◌*◌, ◌≤◌, ◌<◌}
use native.Mathlib.Nat.{add-zero, zero-add, suc-add, mul-zero}
use native.Mathlib.Omega.{arith}
use mathlib.Core.List.{List, [], ◌∷◌, ◌++◌, map, append-nil}
use lib.ListN.{length, get_or, length-append}
use Rattle.lists.proofs.ListLaws.{joined-append}
use Rattle.lists.specs.Lists.{All, nil, cons, joined}
use Rattle.buffer.specs.Slice.{part, write}
use Rattle.buffer.proofs.Writes.{part-nil}
use Rattle.buffer.proofs.Standing.{Stands, part-add, part-within, stands-front, stands-back, write-past-front, write-replaced, write-removed, write-inserted}
use Rattle.memory.specs.Codec.{places_at}
use Rattle.memory.specs.Claims.{Apart}
use Rattle.memory.proofs.FourWrites.{part_apart}
use Rattle.lists.proofs.ListLaws.{all_left, all_right}

-- reading places: their number, some and then more, and that only their own bytes count
module _ {A : Type 0} (g : List ℕ → A) (size : ℕ) where
  pub length-read : (m : List ℕ) (at n : ℕ) → length (places_at g size m at n) ≡ n
  unfolding places_at
  length-read m at zero = refl
  length-read m at (suc n) = ap suc (length-read m (at + size) n)

  pub read-add : (m : List ℕ) (at k n : ℕ) → places_at g size m at (k + n) ≡ places_at g size m at k ++ places_at g size m (at + size * k) n
  unfolding places_at
  read-add m at zero n = rw (zero-add, mul-zero, add-zero)
  read-add m at (suc k) n =
      let e : at + size * suc k ≡ at + size + size * k = omega arith in
      rw (suc-add, e) (ap (◌∷◌ (g (part m at size))) (read-add m (at + size) k n))

  -- the place behind the first k
  pub read-split : (m : List ℕ) (at k n : ℕ)
      → places_at g size m at (k + suc n) ≡ places_at g size m at k ++ (g (part m (at + size * k) size) ∷ places_at g size m (at + size * (k + 1)) n)
  unfolding places_at
  read-split m at k n =
      let e : at + size * k + size ≡ at + size * (k + 1) = omega arith in
      rw e at (read-add m at k (suc n))

  pub read_same : (m k : List ℕ) (at n : ℕ) → part m at (size * n) ≡ part k at (size * n) → places_at g size m at n ≡ places_at g size k at n
  unfolding places_at
  read_same m k at zero e = refl
  read_same m k at (suc n) e =
      let whole : size * suc n ≡ size + size * n = omega arith in
      let here : part m at size ≡ part k at size = rw add-zero at (part-within m k at (size * suc n) 0 size (omega arith) e) in
      ap₂ ◌∷◌ (ap g here) (read_same m k (at + size) n (part-within m k at (size * suc n) size (size * n) (omega arith) e))

  -- a write apart from the places
  pub read-apart : (from : ℕ) (xs m : List ℕ) (at n : ℕ) → from + length xs ≤ length m → Apart at (size * n) from (length xs)
      → places_at g size (write from xs m) at n ≡ places_at g size m at n
  read-apart from xs m at n fits apart = read_same (write from xs m) m at n (part_apart from xs m at (size * n) fits apart)

-- the bytes of joined lists, and of one place
module _ {A : Type 0} (f : A → List ℕ) where
  pub place-one : (x : A) → joined f (x ∷ []) ≡ f x
  unfolding joined
  place-one x = append-nil (f x)

-- what is stored in places of one size
module _ {A : Type 0} (f : A → List ℕ) (size : ℕ) where
  -- x takes one place
  abbrev pub Sized : A → Type 0
  Sized x = length (f x) ≡ size

  pub length-places : {xs : List A} → All Sized xs → length (joined f xs) ≡ size * length xs
  unfolding joined
  length-places nil = sym (mul-zero size)
  length-places (cons {a = x} {l = xs} h hs) = rw (length-append (f x) (joined f xs), h, length-places hs) (omega arith)

-- what is stored and read again
module _ {A : Type 0} (f : A → List ℕ) (g : List ℕ → A) (size : ℕ) where
  -- x takes one place and is read back from it
  pub record ReadBack (x : A) : Type 0 where
    pub sized : length (f x) ≡ size
    pub back : g (f x) ≡ x

  -- these bytes are the ones that would be stored for what they are read as
  abbrev pub Exact : List ℕ → Type 0
  Exact b = f (g b) ≡ b

  module _ (x : A) (xs : List A) (m : List ℕ) (at : ℕ) (p : ReadBack x) (s : Stands at (joined f (x ∷ xs)) m) where
    first-place : part m at size ≡ f x
    unfolding joined
    first-place = rw p.sized at (stands-front at (f x) (joined f xs) m s)

    further-places : Stands (at + size) (joined f xs) m
    unfolding joined
    further-places = rw p.sized at (stands-back at (f x) (joined f xs) m s)

  pub read-stored : {xs : List A} (m : List ℕ) (at : ℕ) → All ReadBack xs → Stands at (joined f xs) m → places_at g size m at (length xs) ≡ xs
  unfolding places_at
  read-stored m at nil s = refl
  read-stored m at (cons {a = x} {l = xs} p ps) s =
      ap₂ ◌∷◌ (ap g (first-place x xs m at p s) ∙ p.back) (read-stored m (at + size) ps (further-places x xs m at p s))

  pub stored_exact : {xs : List A} (m : List ℕ) (at : ℕ) → All ReadBack xs → Stands at (joined f xs) m → All Exact (places_at (λ b. b) size m at (length xs))
  unfolding places_at
  stored_exact m at nil s = nil
  stored_exact m at (cons {a = x} {l = xs} p ps) s =
      let here : Exact (part m at size) = rw (first-place x xs m at p s) (ap f p.back) in
      cons here (stored_exact m (at + size) ps (further-places x xs m at p s))

  pub exact-stands : (m : List ℕ) (at n : ℕ) → All Exact (places_at (λ b. b) size m at n) → joined f (places_at g size m at n) ≡ part m at (size * n)
  unfolding places_at joined
  exact-stands m at zero hs = rw mul-zero (sym (part-nil m at))
  exact-stands m at (suc n) (cons h hs) =
      let whole : size * suc n ≡ size + size * n = omega arith in
      rw (whole, part-add m at size (size * n)) (ap₂ ◌++◌ h (exact-stands m (at + size) n hs))

-- a change of the list is a write of the places that change
module _ {A : Type 0} (f : A → List ℕ) (size at : ℕ) (m : List ℕ) where
  pub append_places : (xs ys : List A) → All (Sized f size) xs → All (Sized f size) ys → at + size * (length xs + length ys) ≤ length m
      → Stands at (joined f xs) m → write at (joined f (xs ++ ys)) m ≡ write (at + size * length xs) (joined f ys) m
  append_places xs ys ps qs fits stand =
      let l = length-places f size ps in
      let k = length-places f size qs in
      rw (joined-append f xs ys, ← l) (write-past-front at (joined f xs) (joined f ys) m (rw (l, k) (omega arith)) stand)

  module _ (xs ys zs : List A) (sized : All (Sized f size) (xs ++ (ys ++ zs))) (fits : at + size * (length xs + length ys + length zs) ≤ length m) where
    before : length (joined f xs) ≡ size * length xs
    before = length-places f size (all_left xs (ys ++ zs) sized)

    between : length (joined f ys) ≡ size * length ys
    between = length-places f size (all_left ys zs (all_right xs (ys ++ zs) sized))

    behind : length (joined f zs) ≡ size * length zs
    behind = length-places f size (all_right ys zs (all_right xs (ys ++ zs) sized))

    room : at + length (joined f xs) + length (joined f ys) + length (joined f zs) ≤ length m
    room = rw (before, between, behind) (omega arith)

    in_three : (us : List A) → joined f (xs ++ (us ++ zs)) ≡ joined f xs ++ (joined f us ++ joined f zs)
    in_three us = joined-append f xs (us ++ zs) ∙ ap (◌++◌ (joined f xs)) (joined-append f us zs)

    -- some are replaced by as many others
    pub replace-places : (news : List A) → All (Sized f size) news → length news ≡ length ys → Stands at (joined f (xs ++ (ys ++ zs))) m
        → write at (joined f (xs ++ (news ++ zs))) m ≡ write (at + size * length xs) (joined f news) m
    replace-places news ns e stand =
        let l : length (joined f news) ≡ length (joined f ys) = length-places f size ns ∙ (ap (λ n. size * n) e ∙ sym between) in
        rw (in_three news, ← before)
        (write-replaced at (joined f xs) (joined f ys) (joined f zs) m room (rw (in_three ys) at stand) (joined f news) l)

    -- some are taken out, and those behind them move down
    pub remove_places : Stands at (joined f (xs ++ (ys ++ zs))) m
        → write at (joined f (xs ++ zs)) m ≡ write (at + size * length xs) (part m (at + size * length xs + size * length ys) (size * length zs)) m
    remove_places stand =
        rw (joined-append f xs zs, ← before, ← between, ← behind)
        (write-removed at (joined f xs) (joined f ys) (joined f zs) m room (rw (in_three ys) at stand))

    -- some are put in, and those behind them move up first
    pub insert_places : Stands at (joined f (xs ++ zs)) m
        → write at (joined f (xs ++ (ys ++ zs))) m
        ≡ write (at + size * length xs) (joined f ys) (write (at + size * length xs + size * length ys) (part m (at + size * length xs) (size * length zs)) m)
    insert_places stand =
        rw (in_three ys, ← before, ← between, ← behind)
        (write-inserted at (joined f xs) (joined f ys) (joined f zs) m room (rw (joined-append f xs zs) at stand))

-- the same for one place
module _ {A : Type 0} (f : A → List ℕ) (size at : ℕ) (m : List ℕ) where
  pub append-place : (xs : List A) (x : A) → All (Sized f size) xs → Sized f size x → at + size * (length xs + 1) ≤ length m
      → Stands at (joined f xs) m → write at (joined f (xs ++ (x ∷ []))) m ≡ write (at + size * length xs) (f x) m
  append-place xs x ps p fits stand = append_places f size at m xs (x ∷ []) ps (cons p nil) fits stand ∙ rw (place-one f x)

  module _ (xs : List A) (x : A) (zs : List A) (fits : at + size * (length xs + 1 + length zs) ≤ length m) where
    next : at + size * length xs + size * length (x ∷ []) ≡ at + size * (length xs + 1)
    next = omega arith

    pub replace-place : (y : A) → All (Sized f size) (xs ++ (x ∷ zs)) → Sized f size y → Stands at (joined f (xs ++ (x ∷ zs))) m
        → write at (joined f (xs ++ (y ∷ zs))) m ≡ write (at + size * length xs) (f y) m
    replace-place y sized p stand = replace-places f size at m xs (x ∷ []) zs sized fits (y ∷ []) (cons p nil) refl stand ∙ rw (place-one f y)

    pub remove-place : All (Sized f size) (xs ++ (x ∷ zs)) → Stands at (joined f (xs ++ (x ∷ zs))) m
        → write at (joined f (xs ++ zs)) m ≡ write (at + size * length xs) (part m (at + size * (length xs + 1)) (size * length zs)) m
    remove-place sized stand = rw next at (remove_places f size at m xs (x ∷ []) zs sized fits stand)

    pub insert-place : All (Sized f size) (xs ++ (x ∷ zs)) → Stands at (joined f (xs ++ zs)) m
        → write at (joined f (xs ++ (x ∷ zs))) m
        ≡ write (at + size * length xs) (f x) (write (at + size * (length xs + 1)) (part m (at + size * length xs) (size * length zs)) m)
    insert-place sized stand = rw (next, place-one f x) at (insert_places f size at m xs (x ∷ []) zs sized fits stand)

-- the element at place i
pub place_at : {A : Type 0} (f : List ℕ → A) (size : ℕ) (m : List ℕ) (at n i : ℕ) (d : A) → i < n → get_or (places_at f size m at n) i d ≡ f
    (part m (at + size * i) size)
unfolding places_at
place_at f size m at zero i d h = absurd (omega arith)
place_at f size m at (suc n) zero d h = rw (mul-zero, add-zero)
place_at f size m at (suc n) (suc i) d h =
    let e : at + size * suc i ≡ at + size + size * i = omega arith in
    rw e (place_at f size m (at + size) n i d (omega arith))

-- places one after the other
module _ {A : Type 0} (f : List ℕ → A) (size : ℕ) (m : List ℕ) where
  pub places-map : (at n : ℕ) → places_at f size m at n ≡ map f (places_at (λ b. b) size m at n)
  unfolding places_at
  places-map at zero = refl
  places-map at (suc n) = ap (◌∷◌ (f (part m at size))) (places-map (at + size) n)

  pub next_place : (at left : ℕ) → 0 < left → places_at f size m at left ≡ f (part m at size) ∷ places_at f size m (at + size) (left - 1)
  unfolding places_at
  next_place at zero h = absurd (omega arith)
  next_place at (suc left) h = let e : suc left - 1 ≡ left = omega arith in rw e

  pub no_place : (at left : ℕ) → left ≤ 0 → places_at f size m at left ≡ []
  unfolding places_at
  no_place at zero h = refl
  no_place at (suc left) h = absurd (omega arith)
