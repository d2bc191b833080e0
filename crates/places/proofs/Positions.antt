-- Laws of the position of the first or the last element that passes a test, and of searches through places.
use mathlib.Core.Path.{◌≡◌, sym, ◌∙◌, ap}
use mathlib.Core.Bool.{Bool, true, false, cond}
use mathlib.Core.List.{List, [], ◌∷◌, ◌++◌}
use Prim.Native.Nat.{ℕ, zero, suc, ◌+◌, ◌-◌, ◌*◌, ◌≤◌, ◌<◌}
use native.Mathlib.Nat.{add-zero, mul-zero}
use native.Mathlib.Omega.{arith}
use Rattle.lists.proofs.PositionLaws.{past-snoc, first-bound}
use Rattle.lists.specs.Inside.Positions.{first_where, past_last}
use Rattle.buffer.specs.Slice.{part}
use Rattle.memory.specs.Codec.{places_at, entry_of}
use Rattle.memory.specs.Layout.{header_size, queue_size}
use Rattle.memory.proofs.Places.{length-read}
use Rattle.model.specs.declared.Message.{Message}
use Rattle.gateway.specs.Taking.{is_later}
use Rattle.places.specs.Inside.Searching.{entries_in}

-- the places from place i on, by the first of them
pub more : {A : Type 0} (decode : List ℕ → A) (size base : ℕ) (m : List ℕ) (count i : ℕ) → i < count → places_at decode size m (base + size * i) (count - i)
    ≡ decode (part m (base + size * i) size) ∷ places_at decode size m (base + size * (i + 1)) (count - (i + 1))
unfolding places_at
more decode size base m count i h =
    let e : count - i ≡ suc (count - (i + 1)) = omega arith in
    let n : base + size * (i + 1) ≡ base + size * i + size = omega arith in
    rw (e, n)

-- a search of places from place start on, by what is left of it: at the start, past a place that does not pass, at one
-- that does, past the last
module _ {A : Type 0} (decode : List ℕ → A) (f : A → Bool) (size base : ℕ) (m : List ℕ) (count whole : ℕ) where
  abbrev pub Left : ℕ → Type 0
  Left i = whole ≡ i + first_where f (places_at decode size m (base + size * i) (count - i))

  module _ (i : ℕ) {x : A} {passing : Bool} (h : i < count) (l : Left i) (read : x ≡ decode (part m (base + size * i) size)) (test : passing ≡ f x) where
    pub search-passed : passing ≡ false → Left (i + 1)
    unfolding first_where
    search-passed e =
        let fails : f (decode (part m (base + size * i) size)) ≡ false = cc in
        l ∙ rw (more decode size base m count i h, fails) (omega arith)

    pub search-found : passing ≡ true → i ≡ whole
    unfolding first_where
    search-found e =
        let passes : f (decode (part m (base + size * i) size)) ≡ true = cc in
        sym (l ∙ rw (more decode size base m count i h, passes) (omega arith))

-- a backward search, by the places that are left
module _ {A : Type 0} (decode : List ℕ → A) (f : A → Bool) (size base : ℕ) (m : List ℕ) where
  read-snoc : (i : ℕ) (at : ℕ) → places_at decode size m at (suc i) ≡ places_at decode size m at i ++ (decode (part m (at + size * i) size) ∷ [])
  unfolding places_at
  read-snoc zero at = rw (mul-zero, add-zero)
  read-snoc (suc i) at =
      let e : at + size * suc i ≡ at + size + size * i = omega arith in
      rw e (ap (◌∷◌ (decode (part m at size))) (read-snoc i (at + size)))

  last-place : (left : ℕ) → 0 < left → past_last f (places_at decode size m base left)
      ≡ cond (f (decode (part m (base + size * (left - 1)) size))) left (past_last f (places_at decode size m base (left - 1)))
  last-place left h =
      let e : left ≡ suc (left - 1) = omega arith in
      ap (λ (n : ℕ). past_last f (places_at decode size m base n)) e
      ∙ ap (past_last f) (read-snoc (left - 1) base)
      ∙ past-snoc f (places_at decode size m base (left - 1)) (decode (part m (base + size * (left - 1)) size))
      ∙ rw (length-read decode size m base (left - 1), ← e)

  module _ (whole left : ℕ) {x : A} {passing : Bool} (h : 0 < left) (l : whole ≡ past_last f (places_at decode size m base left))
      (read : x ≡ decode (part m (base + size * (left - 1)) size)) (test : passing ≡ f x) where
    pub last-passed : passing ≡ false → whole ≡ past_last f (places_at decode size m base (left - 1))
    last-passed e =
        let fails : f (decode (part m (base + size * (left - 1)) size)) ≡ false = cc in
        l ∙ last-place left h ∙ rw fails

    pub last_found : passing ≡ true → left ≡ whole
    last_found e =
        let passes : f (decode (part m (base + size * (left - 1)) size)) ≡ true = cc in
        sym (l ∙ last-place left h ∙ rw passes)

  pub last_none : (whole left : ℕ) → left ≤ 0 → whole ≡ past_last f (places_at decode size m base left) → 0 ≡ whole
  unfolding places_at past_last
  last_none whole left h l = let e : left ≡ 0 = omega arith in sym (l ∙ rw e)

-- where a message enters
pub place-within : (count : ℕ) (m : Message) (memory : List ℕ) {k : ℕ} → k ≡ first_where (is_later m) (entries_in memory count) → k ≤ count
place-within count m memory e = rw e (omega (
  arith,
  first-bound (is_later m) (entries_in memory count),
  length-read entry_of queue_size
      memory header_size count,
))
