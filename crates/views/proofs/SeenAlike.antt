-- Events give a reader the same fields just where they are alike in what it is to see.
use mathlib.Core.Path.{◌≡◌, refl, sym, ◌∙◌, ap}
use mathlib.Core.Bool.{Bool, true, false, cond}
use mathlib.Core.List.{List}
use Prim.Native.Nat.{ℕ}
use Rattle.model.specs.Messages.{kind_number, origin_of, quantity_of}
use Rattle.model.specs.declared.Kind.{Kind}
use Rattle.model.specs.declared.State.{State}
use Rattle.model.proofs.Ordered.{kind-again}
use Rattle.frame.specs.Kinds.{has_origin, has_lamp, has_quantity}
use Rattle.frame.proofs.Presence.{own-fields}
use Rattle.records.specs.Events.{Event}
use Rattle.views.specs.Fields.{Field, quantity, lamp, origin, holds, held_if, seen}
use Rattle.views.specs.Secrecy.{AlikeToPurchasing, AlikeToMaintenance}
use Rattle.views.specs.declared.Reader.TheVariants.{Purchasing, Maintenance}

-- a field counts only where it is held
held_same : (b : Bool) {f g : Field} → (b ≡ true → f ≡ g) → held_if b f ≡ held_if b g
held_same true h = ap holds (h refl)
held_same false h = refl

-- a lamp that is held is told by its place
lamp-told : (b c : Bool) {x y : List ℕ} → held_if b (lamp x) ≡ held_if c (lamp y) → b ≡ true → x ≡ y
lamp-told true true e h = cc
lamp-told true false e h = cc
lamp-told false c e h = cc

-- a number always is, since it counts as zero where it is not held
place-told : (make : ℕ → Field) → ((m n : ℕ) → make m ≡ make n → m ≡ n) → (b c : Bool) {m n : ℕ} → m ≡ cond b m 0 → n ≡ cond c n 0
    → held_if b (make m) ≡ held_if c (make n) → m ≡ n
place-told make told true true {m} {n} p q e = told m n (cc)
place-told make told true false p q e = cc
place-told make told false true p q e = cc
place-told make told false false p q e = p ∙ sym q

module _ (k : Kind) where
  quantity-counts : quantity_of k ≡ cond (has_quantity (kind_number k)) (quantity_of k) 0
  quantity-counts = sym (ap quantity_of (kind-again k)) ∙ own-fields.quantity (kind_number k) (origin_of k) (quantity_of k)

  origin-counts : origin_of k ≡ cond (has_origin (kind_number k)) (origin_of k) 0
  origin-counts = sym (ap origin_of (kind-again k)) ∙ own-fields.origin (kind_number k) (origin_of k) (quantity_of k)

module _ (k l : Kind) where
  quantity-told : held_if (has_quantity (kind_number k)) (quantity (quantity_of k)) ≡ held_if (has_quantity (kind_number l)) (quantity (quantity_of l))
      → quantity_of k ≡ quantity_of l
  quantity-told = place-told quantity (λ m n p. cc) (has_quantity (kind_number k)) (has_quantity (kind_number l)) (quantity-counts k) (quantity-counts l)

  origin-told : held_if (has_origin (kind_number k)) (origin (origin_of k)) ≡ held_if (has_origin (kind_number l)) (origin (origin_of l))
      → origin_of k ≡ origin_of l
  origin-told = place-told origin (λ m n p. cc) (has_origin (kind_number k)) (has_origin (kind_number l)) (origin-counts k) (origin-counts l)

state-told : (s t : State) → s.stock ≡ t.stock → s.failed ≡ t.failed → s.fitted ≡ t.fitted → s.short ≡ t.short → s ≡ t
state-told s t p q r u = λ i. record { stock = p i; failed = q i; fitted = r i; short = u i }

module _ (d e : Event) where
  pub alike-to-purchasing : AlikeToPurchasing d e → seen Purchasing d ≡ seen Purchasing e
  unfolding seen
  alike-to-purchasing a = rw (a.hour, a.kind, a.quantity, a.state)

  pub purchasing-told : seen Purchasing d ≡ seen Purchasing e → AlikeToPurchasing d e
  unfolding seen
  purchasing-told s = record {
    hour = cc;
    kind = cc;
    quantity = quantity-told d.message.kind e.message.kind (cc);
    state = state-told d.state e.state (cc) (cc) (cc) (cc);
  }

  pub alike-to-maintenance : AlikeToMaintenance d e → seen Maintenance d ≡ seen Maintenance e
  unfolding seen
  alike-to-maintenance a =
      let held = held_same (has_lamp (kind_number d.message.kind)) (λ h. ap lamp (a.lamp h)) in
      rw (← a.hour, ← a.kind, ← a.origin, held)

  pub maintenance-told : seen Maintenance d ≡ seen Maintenance e → AlikeToMaintenance d e
  unfolding seen
  maintenance-told s = record {
    hour = cc;
    kind = cc;
    lamp = λ h. lamp-told (has_lamp (kind_number d.message.kind)) (has_lamp (kind_number e.message.kind)) (cc) h;
    origin = origin-told d.message.kind e.message.kind (cc);
  }
