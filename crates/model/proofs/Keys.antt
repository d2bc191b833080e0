-- The event order of two messages from the comparisons that the code makes.
use mathlib.Core.Path.{◌≡◌, refl, sym, ◌∙◌, ap}
use Prim.Native.Nat.{ℕ}
use mathlib.Core.List.{List, [], ◌∷◌, ◌++◌}
use lib.ListN.{length}
use Rattle.std.specs.declared.cmp.Ordering.{Ordering}
use Rattle.std.specs.Ordering.{ordering_then, nat_cmp}
use Rattle.model.specs.Messages.{origin_of, quantity_of}
use Rattle.model.specs.EventOrder.{rank, key, compared}
use Rattle.model.specs.declared.Message.{Message}
use Rattle.model.proofs.Comparing.{then_assoc, then-equal, compared-append}

-- what stands before the lamp in the key, and what stands behind it
abbrev pub front : Message → List ℕ
front m = m.hour ∷ rank m.kind ∷ origin_of m.kind ∷ []

abbrev pub back : Message → List ℕ
back m = quantity_of m.kind ∷ m.from ∷ m.to ∷ []

-- three numbers, one after the other
pub three : (a b c a' b' c' : ℕ) → ordering_then (ordering_then (nat_cmp a a') (nat_cmp b b')) (nat_cmp c c') ≡ compared (a ∷ b ∷ c ∷ []) (a' ∷ b' ∷ c' ∷ [])
unfolding compared
three a b c a' b' c' =
    sym (then_assoc (nat_cmp a a') (nat_cmp b b') (nat_cmp c c'))
    ∙ ap (λ (r : Ordering). ordering_then (nat_cmp a a') (ordering_then (nat_cmp b b') r)) (sym (then-equal (nat_cmp c c')))

pub by-first : (a b c a' b' c' : ℕ) → ordering_then (nat_cmp a a') (ordering_then (nat_cmp b b') (nat_cmp c c')) ≡ compared (a ∷ b ∷ c ∷ []) (a' ∷ b' ∷ c' ∷ [])
by-first a b c a' b' c' = then_assoc (nat_cmp a a') (nat_cmp b b') (nat_cmp c c') ∙ three a b c a' b' c'

-- what stands before the lamp decides, and where it does not the lamp with what stands behind it
pub from-front : (a b : Message) → ordering_then (compared (front a) (front b)) (compared (a.lamp ++ back a) (b.lamp ++ back b)) ≡ compared (key a) (key b)
unfolding key
from-front a b = sym (compared-append (front a) (front b) (a.lamp ++ back a) (b.lamp ++ back b) refl)

-- the key by its three stretches: the first that differs decides
pub by-stretches : (a b : Message) → length a.lamp ≡ 18 → length b.lamp ≡ 18
    → ordering_then (ordering_then (compared (front a) (front b)) (compared a.lamp b.lamp)) (compared (back a) (back b)) ≡ compared (key a) (key b)
unfolding key
by-stretches a b la lb =
    sym (then_assoc (compared (front a) (front b)) (compared a.lamp b.lamp) (compared (back a) (back b)))
    ∙ ap (ordering_then (compared (front a) (front b))) (sym (compared-append a.lamp b.lamp (back a) (back b) (la ∙ sym lb)))
    ∙ sym (compared-append (front a) (front b) (a.lamp ++ back a) (b.lamp ++ back b) refl)
