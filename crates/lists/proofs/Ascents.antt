-- Lists whose elements may stand in the order in which they do, with some left out, one put in, or those behind changed.
use mathlib.Core.Path.{◌≡◌, refl, sym, ◌∙◌, subst}
use mathlib.Core.Logic.{⊎_elim}
use mathlib.Core.List.Memᴰ
use mathlib.Core.List.Memᴰ.{head as here}
use mathlib.Core.List.Memᴰ.{tail as there}
use mathlib.Core.List.{List, [], ◌∷◌, ◌++◌, map}
use mathlib.Core.List.Sublistᴰ.{slnil as neither}
use mathlib.Core.List.{Sublistᴰ}
use mathlib.Core.List.Sublistᴰ.{cons as leave}
use mathlib.Core.List.Sublistᴰ.{cons-cons as keep}
use Prim.Native.Nat.{ℕ, ◌≤◌}
use native.Mathlib.Omega.{arith}
use lib.ListN.{length}
use Rattle.lists.specs.Lists.{◌∈◌, Ascending, none, more, tally}

module _ {A : Type 0} where
  -- some elements left out
  pub part-member : {x : A} {xs ys : List A} → Sublistᴰ xs ys → x ∈ xs → x ∈ ys
  part-member neither m = m
  part-member (leave p) m = there (part-member p m)
  part-member (keep e p) m = ⊎_elim (λ d. here (d ∙ e)) (λ n. there (part-member p n)) (Memᴰ.cases_cons m)

  pub part_length : {xs ys : List A} → Sublistᴰ xs ys → length xs ≤ length ys
  part_length neither = omega arith
  part_length (leave p) = let h = part_length p in omega arith
  part_length (keep e p) = let h = part_length p in omega arith

  pub part-tally : (f : A → ℕ) {xs ys : List A} → Sublistᴰ xs ys → tally f xs ≤ tally f ys
  unfolding tally
  part-tally f neither = omega arith
  part-tally f (leave p) = let h = part-tally f p in omega arith
  part-tally f (keep e p) = let h = part-tally f p in rw e (omega arith)

  pub part-ascending : {R : A → A → Type 0} {xs ys : List A} → Sublistᴰ xs ys → Ascending R ys → Ascending R xs
  part-ascending neither a = none
  part-ascending (leave p) (more f a) = part-ascending p a
  part-ascending {R} (keep e p) (more f a) = more (λ y m. subst (λ x. R x y) (sym e) (f y (part-member p m))) (part-ascending p a)

  -- one put in
  pub insert-ascending : {R : A → A → Type 0} (us : List A) {vs : List A} (x : A) → Ascending R (us ++ vs)
      → ((u : A) → u ∈ us → R u x) → ((v : A) → v ∈ vs → R x v) → Ascending R (us ++ (x ∷ vs))
  insert-ascending [] x a before behind = more behind a
  insert-ascending {R} (u ∷ us) {vs} x (more f a) before behind =
      more
      (λ y m. ⊎_elim (λ n. f y (Memᴰ.append_left vs n)) (λ n. ⊎_elim (λ (e : y ≡ x). subst (λ z. R u z) (sym e) (before u (here refl))) (λ
      o. f y (Memᴰ.append_right us o)) (Memᴰ.cases_cons n)) (Memᴰ.append_cases us m))
      (insert-ascending us x a (λ w n. before w (there n)) behind)

-- an element of a list's image
pub map-member : {A B : Type 0} (f : A → B) (xs : List A) {y : B} → y ∈ map f xs → (x : A) × (x ∈ xs) × (y ≡ f x)
map-member f [] m = absurd (Memᴰ.not-nil m)
map-member f (x ∷ xs) {y} m = ⊎_elim (λ (e : y ≡ f x). (x, here refl, e)) (λ n. let r = map-member f xs n in (r.0, there r.1, r.2))
    (Memᴰ.cases_cons m)

-- those behind changed
module _ {A : Type 0} {R : A → A → Type 0} (f : A → A) (one : (x y : A) → R x y → R x (f y)) (both : (x y : A) → R x y → R (f x) (f y)) where
  pub map-ascending : {xs : List A} → Ascending R xs → Ascending R (map f xs)
  map-ascending none = none
  map-ascending (more {x = x} {xs = xs} g a) =
      more (λ y m. let r = map-member f xs m in subst (λ z. R (f x) z) (sym r.2) (both x r.0 (g r.0 r.1))) (map-ascending a)

  pub map-behind : (us vs : List A) → Ascending R (us ++ vs) → Ascending R (us ++ map f vs)
  map-behind [] vs a = map-ascending a
  map-behind (u ∷ us) vs (more g a) =
      more
      (λ y m. ⊎_elim
      (λ n. g y (Memᴰ.append_left vs n))
      (λ n. let r = map-member f vs n in subst (λ z. R u z) (sym r.2) (one u r.0 (g r.0 (Memᴰ.append_right us r.1))))
      (Memᴰ.append_cases us m))
      (map-behind us vs a)
