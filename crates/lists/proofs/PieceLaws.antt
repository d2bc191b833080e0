-- Laws of the pieces of a list: where the next one stands, that there are no more at the end, and of a pass over them up to the first
-- that is refused.
use mathlib.Core.Path.{◌≡◌, refl, sym, ◌∙◌, ap, ap₂}
use mathlib.Core.Logic.{⊎_elim}
use mathlib.Core.Bool.{Bool, true, false, cond, not, true≢false}
use mathlib.Core.List.Memᴰ
use mathlib.Core.List.{List, [], ◌∷◌, ◌++◌, map}
use Prim.Native.Nat.{ℕ, zero, suc, ◌+◌, ◌-◌, ◌≤◌, ◌<◌, min}
use native.Mathlib.Omega.{arith}
use native.Mathlib.Decide.{ℕ_discrete, dec_lt}
use lib.Dec.{eqb}
use lib.ListN.{length, take, drop, get_or, length-take, length-drop, take-append-drop}
use lib.Seq.{drop-cons, drop-drop, take_all, length-take-le, take-append_seam, drop-append_seam}
use borrow.Author.Tests.{eq-eqb, ne_eqb}
use Rattle.lists.specs.Lists.{◌∈◌, All, nil, cons, before_first, first_number, joined, tally, cut_by}
use Rattle.lists.specs.Inside.Pieces.{pieces_from, piece_end, is_refused}

pub drop_past : {A : Type 0} (n : ℕ) (s : List A) → length s ≤ n → drop n s ≡ []
drop_past zero [] h = refl
drop_past zero (x ∷ s) h = absurd (omega arith)
drop_past (suc n) [] h = refl
drop_past (suc n) (x ∷ s) h = drop_past n s (omega arith)

-- a number and the one behind it come to 0 where both are 0
pub both_zero : (n m : ℕ) → cond (eqb n 0) m n ≡ 0 → (n ≡ 0) × (m ≡ 0)
both_zero n m = go (ℕ_discrete n 0)
  where
    go : Dec (n ≡ 0) → cond (eqb n 0) m n ≡ 0 → (n ≡ 0) × (m ≡ 0)
    go (yes e) z = (e, rw (eq-eqb n 0 e) at z)
    go (no d) z = absurd (d (rw (ne_eqb n 0 d) at z))

-- where no number is given other than 0
module _ {A : Type 0} (f : A → ℕ) where
  pub first-cons : (x : A) (xs : List A) → first_number f (x ∷ xs) ≡ 0 → (f x ≡ 0) × (first_number f xs ≡ 0)
  unfolding first_number
  first-cons x xs z = both_zero (f x) (first_number f xs) z

  pub first-none : (xs : List A) → first_number f xs ≡ 0 → (x : A) → x ∈ xs → f x ≡ 0
  first-none [] z x m = absurd (Memᴰ.not-nil m)
  first-none (y ∷ ys) z x m =
      let (here, rest) = first-cons y ys z in ⊎_elim (λ (d : x ≡ y). ap f d ∙ here) (first-none ys rest x) (Memᴰ.cases_cons m)

  pub first_below : (bound : ℕ) → 0 < bound → ((x : A) → f x < bound) → (xs : List A) → first_number f xs < bound
  unfolding first_number
  first_below bound some each [] = some
  first_below bound some each (x ∷ xs) = go (eqb (f x) 0) (first_below bound some each xs)
    where
      go : (b : Bool) → first_number f xs < bound → cond b (first_number f xs) (f x) < bound
      go true rest = rest
      go false rest = each x

  pub none_first : {xs : List A} → All (λ x. f x ≡ 0) xs → first_number f xs ≡ 0
  unfolding first_number
  none_first nil = refl
  none_first (cons {a = x} e a) = rw (eq-eqb (f x) 0 e) (none_first a)

  pub not-refused : (x : A) → is_refused f x ≡ false → f x ≡ 0
  not-refused x = go (ℕ_discrete (f x) 0)
    where
      go : Dec (f x ≡ 0) → is_refused f x ≡ false → f x ≡ 0
      go (yes e) z = e
      go (no d) z = absurd (true≢false (rw (ne_eqb (f x) 0 d) at z))

  pub none-refused : (xs : List A) → first_number f xs ≡ 0 → before_first (is_refused f) xs ≡ xs
  unfolding before_first
  none-refused [] z = refl
  none-refused (y ∷ ys) z = let (here, rest) = first-cons y ys z in rw (eq-eqb (f y) 0 here) (ap (◌∷◌ y) (none-refused ys rest))

-- where a piece's end stands
pub record Between (at end size : ℕ) : Type 0 where
  pub later : at < end
  pub inside : end ≤ size

-- every piece has an element
module _ (size : ℕ → ℕ) (some : (x : ℕ) → 1 ≤ size x) where
  -- turns that are enough
  cut-enough : (a b : ℕ) (s : List ℕ) → length s ≤ a → length s ≤ b → cut_by size a s ≡ cut_by size b s
  unfolding cut_by
  cut-enough zero zero s h k = refl
  cut-enough zero (suc b) [] h k = refl
  cut-enough zero (suc b) (x ∷ s) h k = absurd (omega arith)
  cut-enough (suc a) zero [] h k = refl
  cut-enough (suc a) zero (x ∷ s) h k = absurd (omega arith)
  cut-enough (suc a) (suc b) [] h k = refl
  cut-enough (suc a) (suc b) (x ∷ s) h k =
      let l : length (drop (size x) (x ∷ s)) ≡ suc (length s) - size x = length-drop (size x) (x ∷ s) in
      let w = some x in
      ap (◌∷◌ (take (size x) (x ∷ s))) (cut-enough a b (drop (size x) (x ∷ s)) (omega arith) (omega arith))

  -- one behind the other they are the list
  pub pieces-join : (turns : ℕ) (s : List ℕ) → length s ≤ turns → joined (λ p. p) (cut_by size turns s) ≡ s
  unfolding cut_by joined
  pieces-join zero [] h = refl
  pieces-join zero (x ∷ s) h = absurd (omega arith)
  pieces-join (suc turns) [] h = refl
  pieces-join (suc turns) (x ∷ s) h =
      let l : length (drop (size x) (x ∷ s)) ≡ suc (length s) - size x = length-drop (size x) (x ∷ s) in
      let w = some x in
      ap (λ rest. take (size x) (x ∷ s) ++ rest) (pieces-join turns (drop (size x) (x ∷ s)) (omega arith)) ∙ take-append-drop (size x) (x ∷ s)

  -- and none is longer than its first element says
  pub piece-short : (turns : ℕ) (s : List ℕ) (p : List ℕ) → p ∈ cut_by size turns s → length p ≤ size (get_or p 0 0)
  unfolding cut_by
  piece-short zero s p m = absurd (Memᴰ.not-nil m)
  piece-short (suc turns) [] p m = absurd (Memᴰ.not-nil m)
  piece-short (suc turns) (x ∷ s) p m = ⊎_elim first (piece-short turns (drop (size x) (x ∷ s)) p) (Memᴰ.cases_cons m)
    where
      first : p ≡ take (size x) (x ∷ s) → length p ≤ size (get_or p 0 0)
      first e =
          let more : size x ≡ suc (size x - 1) = omega (arith, some x) in
          let head : get_or (take (size x) (x ∷ s)) 0 0 ≡ x = rw more in
          rw (e, head) (omega (arith, length-take (size x) (x ∷ s)))

  pub pieces-all : (list : List ℕ) → pieces_from size list 0 ≡ cut_by size (length list) list
  unfolding pieces_from
  pieces-all list = refl

  pub pieces_none : (list : List ℕ) (at : ℕ) → length list ≤ at → pieces_from size list at ≡ []
  unfolding pieces_from cut_by
  pieces_none list at h = rw (drop_past at list h)

  -- the first piece of a list, and the pieces of the rest
  pub pieces-cons : (s : List ℕ) (x : ℕ) (rest : List ℕ) → s ≡ x ∷ rest
      → cut_by size (length s) s ≡ take (size x) s ∷ cut_by size (length (drop (size x) s)) (drop (size x) s)
  unfolding cut_by
  pieces-cons s x rest e =
      let l : length (drop (size x) (x ∷ rest)) ≡ suc (length rest) - size x = length-drop (size x) (x ∷ rest) in
      let w = some x in
      rw e (ap (◌∷◌ (take (size x) (x ∷ rest))) (cut-enough (length rest) (length (drop (size x) (x ∷ rest))) (drop (size x)
      (x ∷ rest)) (omega arith) (omega arith)))

  -- a piece as long as its first element says, and the pieces of the rest
  first_piece : (piece rest : List ℕ) → size (get_or piece 0 0) ≡ length piece
      → cut_by size (length (piece ++ rest)) (piece ++ rest) ≡ piece ∷ cut_by size (length rest) rest
  first_piece [] rest e = absurd (omega (arith, some 0, e))
  first_piece (x ∷ xs) rest e =
      pieces-cons (x ∷ xs ++ rest) x (xs ++ rest) refl
      ∙ ap (λ (n : ℕ). take n (x ∷ xs ++ rest) ∷ cut_by size (length (drop n (x ∷ xs ++ rest))) (drop n (x ∷ xs ++ rest))) e
      ∙ ap₂ (λ (p q : List ℕ). p ∷ cut_by size (length q) q) (take-append_seam (x ∷ xs) rest) (drop-append_seam (x ∷ xs) rest)

  -- such pieces one behind the other are cut into these
  pub pieces-joined : {B : Type 0} (f : B → List ℕ) (xs : List B) → All (λ x. size (get_or (f x) 0 0) ≡ length (f x)) xs
      → cut_by size (length (joined f xs)) (joined f xs) ≡ map f xs
  unfolding cut_by joined
  pieces-joined f [] a = refl
  pieces-joined f (x ∷ xs) (cons e a) = first_piece (f x) (joined f xs) e ∙ ap (◌∷◌ (f x)) (pieces-joined f xs a)

  module _ (list : List ℕ) (at : ℕ) (inside : at < length list) where
    -- up to its end, or as many as its first element says: the same
    pub same-piece : take (size (get_or list at 0)) (drop at list) ≡ take (piece_end size list at - at) (drop at list)
    unfolding piece_end
    same-piece = by-case (dec_lt (length list) (at + size (get_or list at 0)))
      where
        l : length (drop at list) ≡ length list - at
        l = length-drop at list

        by-case : Dec (length list < at + size (get_or list at 0)) → take (size (get_or list at 0)) (drop at list) ≡ take (min
            (length list) (at + size (get_or list at 0)) - at) (drop at list)
        by-case (yes h) = take_all (size (get_or list at 0)) (drop at list) (omega (arith, l)) ∙ sym (take_all (min (length list) (at +
            size (get_or list at 0)) - at) (drop at list) (omega (arith, l)))
        by-case (no h) = let e : size (get_or list at 0) ≡ min (length list) (at + size (get_or list at 0)) - at = omega arith in ap
            (λ (n : ℕ). take n (drop at list)) e

    same_rest : drop (size (get_or list at 0)) (drop at list) ≡ drop (piece_end size list at) list
    unfolding piece_end
    same_rest = drop-drop (size (get_or list at 0)) at list ∙ by-case (dec_lt (length list) (at + size (get_or list at 0)))
      where
        by-case : Dec (length list < at + size (get_or list at 0)) → drop (at + size (get_or list at 0)) list ≡ drop (min (length
            list) (at + size (get_or list at 0))) list
        by-case (yes h) = drop_past (at + size (get_or list at 0)) list (omega arith) ∙ sym (drop_past (min (length list) (at +
            size (get_or list at 0))) list (omega arith))
        by-case (no h) = let e : at + size (get_or list at 0) ≡ min (length list) (at + size (get_or list at 0)) = omega arith in ap
            (λ (n : ℕ). drop n list) e

    -- the piece at a position, and the pieces behind it
    pub pieces-next : pieces_from size list at ≡ take (piece_end size list at - at) (drop at list) ∷ pieces_from size list (piece_end size list at)
    unfolding pieces_from
    pieces-next =
        pieces-cons (drop at list) (get_or list at 0) (drop (suc at) list) (drop-cons list at 0 inside)
        ∙ ap₂ ◌∷◌ same-piece (ap (λ (s : List ℕ). cut_by size (length s) s) same_rest)

    pub end-between : {end : ℕ} → end ≡ piece_end size list at → Between at end (length list)
    unfolding piece_end
    end-between e = record { later = omega (arith, e, some (get_or list at 0)); inside = omega (arith, e) }

-- the end of a piece as code finds it
module _ (size : ℕ → ℕ) (list : List ℕ) (at : ℕ) (inside : at < length list) {n : ℕ} (e : n ≡ size (get_or list at 0)) where
  pub end-cut : length list - at < n → length list ≡ piece_end size list at
  unfolding piece_end
  end-cut h = omega (arith, e)

  pub end_whole : n ≤ length list - at → at + n ≡ piece_end size list at
  unfolding piece_end
  end_whole h = omega (arith, e)

-- a pass over the pieces up to the first for which f gives a number, adding up the weight of each: it has come to a position
pub record Passing (size : ℕ → ℕ) (f weight : List ℕ → ℕ) (list : List ℕ) (sum at : ℕ) : Type 0 where
  pub inside : at ≤ length list
  pub few : sum ≤ at
  pub rest : first_number f (pieces_from size list 0) ≡ first_number f (pieces_from size list at)
  pub counted : sum + tally weight (before_first (is_refused f) (pieces_from size list at)) ≡ tally weight (before_first (is_refused f) (pieces_from size list 0))

-- what the pass has found at its end: the first number, or 0, and the weights of the pieces before it or of all
pub record Passed (size : ℕ → ℕ) (f weight : List ℕ → ℕ) (list : List ℕ) (number sum : ℕ) : Type 0 where
  pub first : number ≡ first_number f (pieces_from size list 0)
  pub added : sum ≡ tally weight (before_first (is_refused f) (pieces_from size list 0))

-- the weight of a piece that is not refused is at most its length
module _ (size : ℕ → ℕ) (some : (x : ℕ) → 1 ≤ size x) (f weight : List ℕ → ℕ) (list : List ℕ)
    (light : (at n : ℕ) → let p = take n (drop at list) in 1 ≤ length p → f p ≡ 0 → weight p ≤ length p)
  where
    pub passing-start : Passing size f weight list 0 0
    passing-start = record { inside = omega arith; few = omega arith; rest = refl; counted = omega arith }

    module _ (sum at : ℕ) (p : Passing size f weight list sum at) where
      pub passing-end : length list ≤ at → Passed size f weight list 0 sum
      unfolding first_number before_first tally
      passing-end h =
          let e = pieces_none size some list at h in
          record { first = sym (p.rest ∙ rw e); added = omega (arith, rw e at p.counted) }

      module _ (h : at < length list) {end : ℕ} (e : end ≡ piece_end size list at) {number : ℕ} (n : number ≡ f (take (end - at) (drop at list))) where
        piece : List ℕ
        piece = take (end - at) (drop at list)

        next : pieces_from size list at ≡ piece ∷ pieces_from size list end
        unfolding piece
        next = rw e (pieces-next size some list at h)

        rest-next : first_number f (pieces_from size list 0) ≡ cond (eqb number 0) (first_number f (pieces_from size list end)) number
        unfolding first_number piece
        rest-next = p.rest ∙ rw (next, n)

        -- what is added up from here on
        added_next : tally weight (before_first (is_refused f) (pieces_from size list at)) ≡ tally weight (cond (not (eqb number 0)) [] (piece
            ∷ before_first (is_refused f) (pieces_from size list end)))
        unfolding before_first piece
        added_next = rw (next, n)

        pub passing-refused : (number ≡ 0 → ⊥) → Passed size f weight list number sum
        unfolding tally
        passing-refused d =
            let none = rw (ne_eqb number 0 d) at added_next in
            record { first = sym (rest-next ∙ rw (ne_eqb number 0 d)); added = omega (arith, none, p.counted) }

        -- the piece's weight is known
        module _ (z : number ≡ 0) where
          pub weight-few : sum + weight (take (end - at) (drop at list)) ≤ end
          weight-few =
              let b = end-between size some list at h e in
              let l : length (take (end - at) (drop at list)) ≡ end - at =
              length-take-le (end - at) (drop at list) (rw (length-drop at list) (omega (arith, b.inside))) in
              omega (arith, b.later, p.few, light at (end - at) (omega (arith, b.later)) (sym n ∙ z))

          pub passing-turn : {more : ℕ} → more ≡ weight (take (end - at) (drop at list)) → Passing size f weight list (sum + more) end
          unfolding tally piece
          passing-turn {more} w =
              let b = end-between size some list at h e in
              let one_more = rw (eq-eqb number 0 z) at added_next in
              record {
                inside = b.inside;
                few = omega (arith, weight-few, w);
                rest = rest-next ∙ rw (eq-eqb number 0 z);
                counted = omega (arith, one_more, p.counted, w);
              }
