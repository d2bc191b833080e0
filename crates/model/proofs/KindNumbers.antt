-- The numbers of the kinds.
use mathlib.Core.Path.{◌≡◌, refl}
use Prim.Native.Nat.{ℕ, ◌≤◌, ◌<◌}
use native.Mathlib.Omega.{arith}
use borrow.Author.Tests.{ne_eqb}
use Rattle.model.specs.Messages.{kind_number, quantity_of, kind_of}
use Rattle.model.specs.declared.Kind.{Kind}
use Rattle.model.specs.declared.Kind.TheVariants.{Failure, Request, Delivery, Restock, Start, Lvt, Update}

pub kind-last : (n origin quantity : ℕ) → (n ≡ 0 → ⊥) → (n ≡ 1 → ⊥) → (n ≡ 2 → ⊥) → (n ≡ 3 → ⊥) → (n ≡ 4 → ⊥) → (n ≡ 5 → ⊥)
    → Update ≡ kind_of n origin quantity
kind-last n origin quantity a b c d e f = rw (ne_eqb n 0 a, ne_eqb n 1 b, ne_eqb n 2 c, ne_eqb n 3 d, ne_eqb n 4 e, ne_eqb n 5 f)

-- there are seven kinds
pub kind-below : (k : Kind) → kind_number k < 7
kind-below (Failure origin) = omega arith
kind-below (Request origin) = omega arith
kind-below (Delivery origin) = omega arith
kind-below (Restock quantity) = omega arith
kind-below Start = omega arith
kind-below Lvt = omega arith
kind-below Update = omega arith

-- only a Restock brings drivers
pub no-restock : (k : Kind) → kind_number k ≤ 2 → quantity_of k ≡ 0
no-restock (Failure origin) h = refl
no-restock (Request origin) h = refl
no-restock (Delivery origin) h = refl
no-restock (Restock quantity) h = absurd (omega arith)
no-restock Start h = refl
no-restock Lvt h = refl
no-restock Update h = refl
