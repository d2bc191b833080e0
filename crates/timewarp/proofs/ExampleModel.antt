-- A small model for the examples: two gateways pass messages to each other, and what is sent depends on what was done before.
use mathlib.Core.Bool.{Bool, true, false, cond}
use mathlib.Core.List.{List, [], ◌∷◌}
use mathlib.Core.Path.{◌≡◌, refl}
use Prim.Native.Nat.{ℕ, zero, suc, ◌-◌, ◌≤◌, ◌<◌}
use native.Mathlib.Omega.{arith}
use lib.Dec.{ltb, ltb→lt, lit<}
use lib.ListN.{length}
use Rattle.lists.specs.Lists.{All, nil, cons}
use Rattle.event_steps.specs.Models.{Model, ModelLaws, first}
use Rattle.timewarp.specs.Worlds.{Setting}
use Rattle.timewarp.proofs.SmallGraphs.{two}

-- A message: its hour, how often it is passed on, how many messages its sender had done, and its gateways.
pub record Parcel : Type 0 where
  pub due : ℕ
  pub left : ℕ
  pub seen : ℕ
  pub source : ℕ
  pub target : ℕ

abbrev pub parcel : ℕ → ℕ → ℕ → ℕ → ℕ → Parcel
parcel d l n i j = record { due = d; left = l; seen = n; source = i; target = j }

-- The hour above all hours.
abbrev pub no_hour : ℕ
no_hour = 20

abbrev pub parcel_key : Parcel → List ℕ
parcel_key p = p.due ∷ (p.left ∷ (p.seen ∷ (p.source ∷ (p.target ∷ []))))

-- Gateway i passes it on to the other, one hour later.
unfoldable pub passed_on : ℕ → ℕ → ℕ → ℕ → List Parcel
passed_on i n d zero = []
passed_on i n d (suc l) = cond (ltb (suc d) no_hour) (parcel (suc d) l n i (1 - i) ∷ []) []

-- What is passed on, if anything.
pub data PassedOn (i n d : ℕ) : List Parcel → Type 0 where
  nothing : PassedOn i n d []
  one : (l : ℕ) → suc d < no_hour → PassedOn i n d (parcel (suc d) l n i (1 - i) ∷ [])

pub passed : (i n d l : ℕ) → PassedOn i n d (passed_on i n d l)
unfolding passed_on
passed i n d zero = nothing
passed i n d (suc l) = go (ltb (suc d) no_hour) refl
  where
    go : (b : Bool) → ltb (suc d) no_hour ≡ b → PassedOn i n d (cond (ltb (suc d) no_hour) (parcel (suc d) l n i (1 - i) ∷ []) [])
    go true e = rw e (one l (ltb→lt (suc d) no_hour (rw e tt)))
    go false e = rw e nothing

module _ {p : Parcel → Type 0} {i n d : ℕ} where
  pub each : ((l : ℕ) → suc d < no_hour → p (parcel (suc d) l n i (1 - i))) → {k : List Parcel} → PassedOn i n d k → All p k
  each f nothing = nil
  each f (one l h) = cons (f l h) nil

pub at_most_one : {i n d : ℕ} {k : List Parcel} → PassedOn i n d k → length k ≤ 1
at_most_one nothing = omega arith
at_most_one (one l h) = omega arith

-- Gateway 0 begins with a message of hour 1 that is passed on twice, gateway 1 with one of hour 5 that is passed on once.
unfoldable pub at_first : ℕ → List Parcel
at_first zero = parcel 1 2 0 0 0 ∷ []
at_first (suc zero) = parcel 5 1 0 1 1 ∷ []
at_first (suc (suc i)) = []

pub parcel-injective : (x y : Parcel) → parcel_key x ≡ parcel_key y → x ≡ y
parcel-injective x y e =
    let a : x.due ≡ y.due = cc in
    let b : x.left ≡ y.left = cc in
    let c : x.seen ≡ y.seen = cc in
    let f : x.source ≡ y.source = cc in
    let g : x.target ≡ y.target = cc in
    λ i. record { due = a i; left = b i; seen = c i; source = f i; target = g i }

pub first-here : (i : ℕ) → All (λ p. p.target ≡ i) (at_first i)
unfolding at_first
first-here zero = cons refl nil
first-here (suc zero) = cons refl nil
first-here (suc (suc i)) = nil

pub first-due : (i : ℕ) → All (λ p. first (parcel_key p) < no_hour) (at_first i)
unfolding at_first first
first-due zero = cons (lit< tt) nil
first-due (suc zero) = cons (lit< tt) nil
first-due (suc (suc i)) = nil

-- What is passed on is later, and due.
pub passed_later : (i n : ℕ) (p : Parcel) → All (λ q. first (parcel_key p) < first (parcel_key q)) (passed_on i n p.due p.left)
unfolding first
passed_later i n p = each (λ l h. omega arith) (passed i n p.due p.left)

pub passed-due : (i n : ℕ) (p : Parcel) → All (λ q. first (parcel_key q) < no_hour) (passed_on i n p.due p.left)
unfolding first
passed-due i n p = each (λ l h. h) (passed i n p.due p.left)

-- The state counts what was done.
abbrev pub relay : Model
relay =
    record {
      Message = Parcel;
      State = ℕ;
      key = parcel_key;
      from = λ p. p.source;
      to = λ p. p.target;
      last = 1;
      never = no_hour;
      start = λ i. 0;
      opening = at_first;
      step = λ i n p. suc n;
      sends = λ i n p. passed_on i n p.due p.left;
      key-injective = parcel-injective;
    }

-- It has what is asked of a model.
pub relay-laws : ModelLaws relay
relay-laws =
    record {
      opening-here = λ i inside. first-here i;
      opening-due = λ i inside. first-due i;
      sends-one = λ i inside n p. at_most_one (passed i n p.due p.left);
      sends-from = λ i inside n p. each (λ l h. refl) (passed i n p.due p.left);
      sends-inside = λ i inside n p. each (λ l h. omega arith) (passed i n p.due p.left);
      sends-later = λ i inside. passed_later i;
      sends-due = λ i inside. passed-due i;
    }

pub both-two : two.last ≡ 1
unfolding two
both-two = refl

abbrev pub relay_of_two : Setting
relay_of_two = record { model = relay; graph = two; same-gateways = both-two }
