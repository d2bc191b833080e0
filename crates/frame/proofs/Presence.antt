-- Which fields the table of kinds gives a kind.
use mathlib.Core.Path.{◌≡◌, refl, sym}
use Prim.Native.Nat.{ℕ, zero, suc, ◌+◌, ◌/◌, ◌≤◌, ◌<◌}
use native.Mathlib.Omega.{arith}
use mathlib.Core.Bool.{Bool, true, false, cond, not}
use lib.Dec.{leb}
use lib.ListN.{get_or-eq_default}
use borrow.Author.Tests.{lt-leb}
use Rattle.model.specs.Messages.{kind_number, origin_of, quantity_of, kind_of}
use Rattle.model.proofs.KindNumbers.{kind-last}
use Rattle.model.specs.declared.Kind.{Kind}
use Rattle.model.specs.declared.Kind.TheVariants.{Failure, Request, Delivery, Restock, Start, Lvt, Update}
use Rattle.frame.specs.Layout.{odd}
use Rattle.frame.specs.Kinds.{maps, map_of_kind, has_hour, has_origin, has_lamp, has_quantity}
use Rattle.frame.specs.Claims.{OwnFields}

-- no kind's own map has the bit of the sense
pub map-small : (kind : ℕ) → map_of_kind kind < 128
unfolding map_of_kind
map-small zero = omega arith
map-small (suc zero) = omega arith
map-small (suc (suc zero)) = omega arith
map-small (suc (suc (suc zero))) = omega arith
map-small (suc (suc (suc (suc zero)))) = omega arith
map-small (suc (suc (suc (suc (suc zero))))) = omega arith
map-small (suc (suc (suc (suc (suc (suc zero)))))) = omega arith
map-small (suc (suc (suc (suc (suc (suc (suc kind))))))) = omega arith

-- past the table there is no map
pub no-map : (kind : ℕ) → 6 < kind → 0 ≡ map_of_kind kind
unfolding map_of_kind
no-map kind h = sym (get_or-eq_default maps 0 {n = kind} (omega arith))

-- kinds 0 to 2 have a lamp
pub lamp-kinds : (kind : ℕ) → has_lamp kind ≡ leb kind 2
unfolding has_lamp
lamp-kinds zero = refl
lamp-kinds (suc zero) = refl
lamp-kinds (suc (suc zero)) = refl
lamp-kinds (suc (suc (suc zero))) = refl
lamp-kinds (suc (suc (suc (suc zero)))) = refl
lamp-kinds (suc (suc (suc (suc (suc zero))))) = refl
lamp-kinds (suc (suc (suc (suc (suc (suc zero)))))) = refl
lamp-kinds (suc (suc (suc (suc (suc (suc (suc kind))))))) = sym (lt-leb (suc (suc (suc (suc (suc (suc (suc kind))))))) 2 (omega arith))

-- what the table gives the kinds of events: all an hour, and lamp and origin or a quantity
pub record EventFields (kind its_map : ℕ) (own : Bool) : Type 0 where
  pub map : map_of_kind kind ≡ its_map
  pub hour : has_hour kind ≡ true
  pub lamp : has_lamp kind ≡ own
  pub origin : has_origin kind ≡ own
  pub quantity : has_quantity kind ≡ not own

pub lamp-fields : (kind : ℕ) → kind ≤ 2 → EventFields kind 63 true
unfolding map_of_kind has_hour has_lamp has_origin has_quantity
lamp-fields zero h = record { map = refl; hour = refl; lamp = refl; origin = refl; quantity = refl }
lamp-fields (suc zero) h = record { map = refl; hour = refl; lamp = refl; origin = refl; quantity = refl }
lamp-fields (suc (suc zero)) h = record { map = refl; hour = refl; lamp = refl; origin = refl; quantity = refl }
lamp-fields (suc (suc (suc kind))) h = absurd (omega arith)

pub restock-fields : (kind : ℕ) → kind ≡ 3 → EventFields kind 79 false
unfolding map_of_kind has_hour has_lamp has_origin has_quantity
restock-fields kind e = record { map = rw e; hour = rw e; lamp = rw e; origin = rw e; quantity = rw e }

-- an hour stands in the map of a kind
pub hour-stands : (kind : ℕ) {map : ℕ} → map_of_kind kind ≡ map → odd (map / 8) ≡ true → has_hour kind ≡ true
unfolding has_hour
hour-stands kind e h = rw e h

-- a kind has an origin and a quantity just where its map has them
by-origin : (number origin quantity : ℕ) → origin_of (kind_of number origin quantity) ≡ cond (has_origin number) origin 0
unfolding has_origin
by-origin zero origin quantity = refl
by-origin (suc zero) origin quantity = refl
by-origin (suc (suc zero)) origin quantity = refl
by-origin (suc (suc (suc zero))) origin quantity = refl
by-origin (suc (suc (suc (suc zero)))) origin quantity = refl
by-origin (suc (suc (suc (suc (suc zero))))) origin quantity = refl
by-origin (suc (suc (suc (suc (suc (suc zero)))))) origin quantity = refl
by-origin (suc (suc (suc (suc (suc (suc (suc number))))))) origin quantity =
    rw (← kind-last (suc (suc (suc (suc (suc (suc (suc number))))))) origin quantity (λ e. omega arith) (λ e. omega arith) (λ e. omega arith) (λ e. omega arith) (λ e. omega arith) (λ e. omega arith))

by-quantity : (number origin quantity : ℕ) → quantity_of (kind_of number origin quantity) ≡ cond (has_quantity number) quantity 0
unfolding has_quantity
by-quantity zero origin quantity = refl
by-quantity (suc zero) origin quantity = refl
by-quantity (suc (suc zero)) origin quantity = refl
by-quantity (suc (suc (suc zero))) origin quantity = refl
by-quantity (suc (suc (suc (suc zero)))) origin quantity = refl
by-quantity (suc (suc (suc (suc (suc zero))))) origin quantity = refl
by-quantity (suc (suc (suc (suc (suc (suc zero)))))) origin quantity = refl
by-quantity (suc (suc (suc (suc (suc (suc (suc number))))))) origin quantity =
    rw (← kind-last (suc (suc (suc (suc (suc (suc (suc number))))))) origin quantity (λ e. omega arith) (λ e. omega arith) (λ e. omega arith) (λ e. omega arith) (λ e. omega arith) (λ e. omega arith))

pub own-fields : OwnFields
own-fields = record { origin = by-origin; quantity = by-quantity }

-- kind, from and to stand in every kind's map, with a sense or without
pub record HasHead (map : ℕ) : Type 0 where
  pub kind : odd map ≡ true
  pub from : odd (map / 2) ≡ true
  pub to : odd (map / 4) ≡ true

pub head-stands : (k : Kind) (sense : Bool) → HasHead (cond sense (map_of_kind (kind_number k) + 128) (map_of_kind (kind_number k)))
unfolding map_of_kind
head-stands (Failure origin) true = record { kind = refl; from = refl; to = refl }
head-stands (Failure origin) false = record { kind = refl; from = refl; to = refl }
head-stands (Request origin) true = record { kind = refl; from = refl; to = refl }
head-stands (Request origin) false = record { kind = refl; from = refl; to = refl }
head-stands (Delivery origin) true = record { kind = refl; from = refl; to = refl }
head-stands (Delivery origin) false = record { kind = refl; from = refl; to = refl }
head-stands (Restock quantity) true = record { kind = refl; from = refl; to = refl }
head-stands (Restock quantity) false = record { kind = refl; from = refl; to = refl }
head-stands Start true = record { kind = refl; from = refl; to = refl }
head-stands Start false = record { kind = refl; from = refl; to = refl }
head-stands Lvt true = record { kind = refl; from = refl; to = refl }
head-stands Lvt false = record { kind = refl; from = refl; to = refl }
head-stands Update true = record { kind = refl; from = refl; to = refl }
head-stands Update false = record { kind = refl; from = refl; to = refl }
