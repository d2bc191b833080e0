-- Counts of messages, and of the events of either sense that carry or cancel them.
use mathlib.Core.List.{List, ◌∷◌, map}
use mathlib.Core.Path.{◌≡◌, refl}
use mathlib.Core.Logic.{◌≢◌}
use Prim.Native.Nat.{ℕ, ◌+◌}
use native.Mathlib.Omega.{arith}
use Rattle.lists.specs.Lists.{Insert, Inserts, count, matches}
use Rattle.lists.proofs.ListLaws.{count-cons, count-insert, count-inserts, count-image, count_none, matches-other, matches-image, all-image, all-every}
use Rattle.event_steps.specs.Models.{Model}
use Rattle.event_steps.specs.Gateways.{Event, plain, cancel}
use Rattle.event_steps.proofs.OrderLaws.{message-eq, event-eq}

pub plain-injective : {A : Type 0} (x y : A) → plain x ≡ plain y → x ≡ y
plain-injective x y p = cc

pub cancel-injective : {A : Type 0} (x y : A) → cancel x ≡ cancel y → x ≡ y
cancel-injective x y p = cc

pub plain-no-cancel : {A : Type 0} (x y : A) → plain x ≢ cancel y
plain-no-cancel x y p = let z : ◌≡◌ {A = ℕ} 0 1 = cc in omega arith

pub cancel-no-plain : {A : Type 0} (x y : A) → cancel x ≢ plain y
cancel-no-plain x y p = let z : ◌≡◌ {A = ℕ} 0 1 = cc in omega arith

module _ (M : Model) where
  open M use {Message}

  -- How often a message stands in a list, and how often an event does.
  abbrev pub times : Message → List Message → ℕ
  times x l = count (message-eq M) x l

  abbrev pub event_count : Event Message → List (Event Message) → ℕ
  event_count e l = count (event-eq M) e l

  -- Of the sense c, events of the sense c count as their messages do.
  module _ (c : Message → Event Message) (injective : (x y : Message) → c x ≡ c y → x ≡ y) (x : Message) where
    pub insert-own : {m : Message} {l k : List (Event Message)} → Insert (c m) l k → event_count (c x) k ≡ matches (message-eq M) x m + event_count (c x) l
    insert-own {m} i = omega (arith, count-insert (event-eq M) (c x) i, matches-image (message-eq M) (event-eq M) c injective x m)

    pub inserts-own : (s : List Message) {l k : List (Event Message)} → Inserts (map c s) l k → event_count (c x) k ≡ times x s + event_count (c x) l
    inserts-own s i = omega (arith, count-inserts (event-eq M) (c x) i, count-image (message-eq M) (event-eq M) c injective x s)

  -- Of the sense c, events of the sense d do not count.
  module _ (c d : Message → Event Message) (apart : (x y : Message) → c x ≢ d y) (x : Message) where
    pub insert-other : {m : Message} {l k : List (Event Message)} → Insert (d m) l k → event_count (c x) k ≡ event_count (c x) l
    insert-other {m} i = omega (arith, count-insert (event-eq M) (c x) i, matches-other (event-eq M) (apart x m))

    pub inserts-other : (s : List Message) {l k : List (Event Message)} → Inserts (map d s) l k → event_count (c x) k ≡ event_count (c x) l
    inserts-other s i =
        omega (
          arith,
          count-inserts (event-eq M) (c x) i,
          count_none (event-eq M) {p = λ e. c x ≢ e} (c x) (all-image d (all-every (apart x) s)) (λ f. f refl),
        )

  pub times-cons : (x m : Message) (l : List Message) → times x (m ∷ l) ≡ matches (message-eq M) x m + times x l
  times-cons x m l = count-cons (message-eq M) x m l

  pub times-insert : (x : Message) {m : Message} {l k : List Message} → Insert m l k → times x k ≡ matches (message-eq M) x m + times x l
  times-insert x i = count-insert (message-eq M) x i
