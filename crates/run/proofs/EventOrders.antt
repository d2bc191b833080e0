-- The event order of messages is the order that the abstract theory knows.
use mathlib.Core.Path.{◌≡◌, refl, sym, ◌∙◌, ap}
use Prim.Native.Nat.{ℕ, ◌<◌}
use native.Mathlib.Omega.{arith}
use native.Mathlib.Decide.{dec_lt}
use mathlib.Core.Bool.{true, false, cond, not, false≢true}
use mathlib.Core.List.{List, [], ◌∷◌}
use lib.Dec.{ltb, eqb}
use borrow.Author.Tests.{lt-ltb, le-ltb, eq-eqb, ne_eqb}
use Rattle.std.specs.Ordering.{is_gt, ordering_then, nat_cmp}
use Rattle.model.specs.EventOrder.{key, compared}
use Rattle.model.specs.declared.Message.{Message}
use Rattle.memory.specs.Validity.{later}
use Rattle.memory.proofs.EventLaws.{later-flip}
use Rattle.event_steps.specs.Models.{KeyNotLater}
use Rattle.event_steps.specs.SingleQueue.{is_not_later}
use Rattle.event_steps.proofs.OrderLaws.{Compared, sooner, later as behind, compared as compared_keys}

-- the two tests of two keys agree
pub keys-agree : (k l : List ℕ) → is_not_later k l ≡ not (is_gt (compared k l))
unfolding is_not_later compared
keys-agree [] [] = refl
keys-agree [] (b ∷ l) = refl
keys-agree (a ∷ k) [] = refl
keys-agree (a ∷ k) (b ∷ l) = by_order (dec_lt a b) (dec_lt b a) (keys-agree k l)
  where
    by_order : Dec (a < b) → Dec (b < a) → is_not_later k l ≡ not (is_gt (compared k l))
        → cond (ltb a b) true (cond (eqb a b) (is_not_later k l) false) ≡ not (is_gt (ordering_then (nat_cmp a b) (compared k l)))
    by_order (yes h) d e = rw (lt-ltb a b h)
    by_order (no h) (yes g) e = rw (le-ltb a b (omega arith), ne_eqb a b (λ p. omega arith))
    by_order (no h) (no g) e = rw (le-ltb a b (omega arith), eq-eqb a b (omega arith)) e

-- what is not later, in both senses
pub not-later-keys : (a b : Message) → later a b ≡ false → KeyNotLater (key a) (key b)
unfolding later
not-later-keys a b h = by-case (compared_keys (key a) (key b))
  where
    by-case : Compared (key a) (key b) → KeyNotLater (key a) (key b)
    by-case (sooner p e) = p
    by-case (behind p e) = absurd (false≢true (sym e ∙ keys-agree (key a) (key b) ∙ ap not h))

-- what something is later than
pub later-keys : (a b : Message) → later a b ≡ true → KeyNotLater (key b) (key a)
later-keys a b h = not-later-keys b a (later-flip a b h)
