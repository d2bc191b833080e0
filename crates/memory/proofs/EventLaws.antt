-- Laws of "later" and "equal", by which the queue is searched and kept in order.
use mathlib.Core.Path.{◌≡◌, refl, sym, ◌∙◌, ap, subst}
use mathlib.Core.Bool.{Bool, true, false, true≢false, false≢true}
use Rattle.std.specs.Ordering.{is_eq, is_gt, ordering_reverse}
use Rattle.model.specs.EventOrder.{key, compared}
use Rattle.model.specs.declared.Message.{Message}
use Rattle.std.specs.declared.cmp.Ordering.{Ordering}
use Rattle.std.specs.declared.cmp.Ordering.TheVariants.{Less, Equal, Greater}
use Rattle.model.proofs.Ordered.{event-order}
use Rattle.memory.specs.Validity.{equal, later}

-- how two messages stand to each other
pub data Stands (a b : Message) : Ordering → Type 0 where
  before : later a b ≡ false → later b a ≡ true → Stands a b Less
  same : a ≡ b → Stands a b Equal
  behind : later a b ≡ true → later b a ≡ false → Stands a b Greater

pub stands : (a b : Message) → Stands a b (compared (key a) (key b))
unfolding later
stands a b = by-case (compared (key a) (key b)) refl
  where
    by-case : (c : Ordering) → compared (key a) (key b) ≡ c → Stands a b c
    by-case Less e = before (ap is_gt e) (ap is_gt (event-order.flips a b ∙ ap ordering_reverse e))
    by-case Equal e = same (event-order.same a b e)
    by-case Greater e = behind (ap is_gt e) (ap is_gt (event-order.flips a b ∙ ap ordering_reverse e))

pub not-later-self : (a : Message) → later a a ≡ false
unfolding later
not-later-self a = ap is_gt (event-order.reflexive a)

pub later-flip : (a b : Message) → later a b ≡ true → later b a ≡ false
later-flip a b h = by-case (stands a b)
  where
    by-case : {c : Ordering} → Stands a b c → later b a ≡ false
    by-case (before p q) = absurd (true≢false (sym h ∙ p))
    by-case (same e) = subst (λ (x : Message). later x a ≡ false) e (not-later-self a)
    by-case (behind p q) = q

-- neither is later only of equal messages
pub neither-later : (a b : Message) → later a b ≡ false → later b a ≡ false → a ≡ b
neither-later a b h k = by-case (stands a b)
  where
    by-case : {c : Ordering} → Stands a b c → a ≡ b
    by-case (before p q) = absurd (true≢false (sym q ∙ k))
    by-case (same e) = e
    by-case (behind p q) = absurd (true≢false (sym p ∙ h))

later-transitive : (a b c : Message) → later b a ≡ true → later c b ≡ true → later a c ≡ false
unfolding later
later-transitive a b c h k =
    ap is_gt (event-order.transitive a b c (earlier a b h) (earlier b c k))
  where
    earlier : (x y : Message) → is_gt (compared (key y) (key x)) ≡ true → compared (key x) (key y) ≡ Less
    earlier x y e = event-order.flips y x ∙ by-case (compared (key y) (key x)) e
      where
        by-case : (o : Ordering) → is_gt o ≡ true → ordering_reverse o ≡ Less
        by-case Less e = absurd (false≢true e)
        by-case Equal e = absurd (false≢true e)
        by-case Greater e = refl

pub not-later-transitive : (a b c : Message) → later a b ≡ false → later b c ≡ false → later a c ≡ false
not-later-transitive a b c h k = by-case (stands a b) (stands b c)
  where
    by-case : {x y : Ordering} → Stands a b x → Stands b c y → later a c ≡ false
    by-case (before p q) (before r s) = later-transitive a b c q s
    by-case (before p q) (same e) = subst (λ (x : Message). later a x ≡ false) e h
    by-case (before p q) (behind r s) = absurd (true≢false (sym r ∙ k))
    by-case (same e) s = subst (λ (x : Message). later x c ≡ false) (sym e) k
    by-case (behind p q) s = absurd (true≢false (sym p ∙ h))

-- what is not earlier than something later is later too
pub later-onward : (a b c : Message) → later b a ≡ true → later b c ≡ false → later c a ≡ true
later-onward a b c h k = by-case (later c a) refl
  where
    by-case : (t : Bool) → later c a ≡ t → later c a ≡ true
    by-case true e = e
    by-case false e = absurd (true≢false (sym h ∙ not-later-transitive b c a k e))

pub equal-same : (a b : Message) → equal a b ≡ true → a ≡ b
unfolding equal
equal-same a b h = by-case (compared (key a) (key b)) refl h
  where
    by-case : (c : Ordering) → compared (key a) (key b) ≡ c → is_eq c ≡ true → a ≡ b
    by-case Less e h = absurd (false≢true h)
    by-case Equal e h = event-order.same a b e
    by-case Greater e h = absurd (false≢true h)

pub same-equal : (a b : Message) → a ≡ b → equal a b ≡ true
unfolding equal
same-equal a b e = subst (λ (x : Message). is_eq (compared (key a) (key x)) ≡ true) e (ap is_eq (event-order.reflexive a))
