-- The laws of what doing a message sends.
use mathlib.Core.Path.{◌≡◌, refl}
use Prim.Native.Nat.{ℕ, ◌+◌, ◌≤◌, ◌<◌}
use native.Mathlib.Omega.{arith}
use mathlib.Core.List.{List, [], ◌∷◌}
use mathlib.Core.Bool.{Bool, true, false, cond}
use Rattle.std.specs.Prelude.{Option, IfSome}
use lib.Dec.{leb, ltb}
use lib.ListN.{length}
use borrow.Author.Tests.{leb-true}
use Rattle.model.specs.Messages.{kind_number}
use Rattle.model.specs.Doing.{not_past, reply, sent, sent_for, reply_with, reply_to, sent_by}
use Rattle.model.specs.Claims.{AtLeastOne, SendingLaws}
use Rattle.model.specs.declared.Kind.{Kind}
use Rattle.model.specs.declared.Kind.TheVariants.{Failure, Request, Delivery, Restock, Start, Lvt, Update}
use Rattle.model.specs.declared.Message.{Message}
use Rattle.model.specs.declared.State.{State}
use Rattle.model.specs.declared.Site.{Site}

-- at most one message, and what holds of it
data Sends (site : Site) (m : Message) : List Message → Type 0 where
  nothing : Sends site m []
  one : (x : Message) → (AtLeastOne site.hours → m.hour < x.hour) → x.hour ≤ site.last → x.from ≡ site.own → kind_number x.kind ≤ 2
      → Sends site m (x ∷ [])

module _ (site : Site) (m : Message) where
  replies : (hours to : ℕ) (kind : Kind) → kind_number kind ≤ 2 → (AtLeastOne site.hours → 0 < hours)
      → Sends site m (not_past site.last (reply site m hours to kind))
  replies hours to kind k h = timely (leb (m.hour + hours) site.last) refl
    where
      timely : (b : Bool) → leb (m.hour + hours) site.last ≡ b → Sends site m (cond b (reply site m hours to kind ∷ []) [])
      timely true e = one (reply site m hours to kind) (λ p. omega (arith, h p)) (leb-true (m.hour + hours) site.last e) refl k
      timely false e = nothing

  either : (b : Bool) {u v : List Message} → Sends site m u → Sends site m v → Sends site m (cond b u v)
  either true s t = s
  either false s t = t

  sends-for : (s : State) (kind : Kind) → Sends site m (sent_for site s m kind)
  sends-for s (Failure origin) = replies _ _ _ (omega arith) (λ p. omega (arith, p.request))
  sends-for s (Request origin) =
      either (ltb 0 s.stock)
      (replies site.hours.delivery origin (Delivery origin) (omega arith) (λ p. omega (arith, p.delivery)))
      (replies site.hours.request site.supplier (Request origin) (omega arith) (λ p. omega (arith, p.request)))
  sends-for s (Delivery origin) = replies _ _ _ (omega arith) (λ p. omega (arith, p.life))
  sends-for s (Restock quantity) = nothing
  sends-for s Start = nothing
  sends-for s Lvt = nothing
  sends-for s Update = nothing

  at_most_one : {l : List Message} → Sends site m l → length l ≤ 1
  at_most_one nothing = omega arith
  at_most_one (one x h k f n) = omega arith

  told : {l : List Message} → Sends site m l → (x : Message) → l ≡ x ∷ [] → (AtLeastOne site.hours → m.hour < x.hour) × (x.hour ≤ site.last) × (x.from ≡ site.own)
  told nothing x e = absurd (let z : ◌≡◌ {A = ℕ} 0 1 = cc in omega arith)
  told (one y h k f n) x e = let same : y ≡ x = cc in (λ p. rw same at (h p), rw same at k, rw same at f)

pub sending : (site : Site) (s : State) (m : Message) → SendingLaws site s m
unfolding sent
sending site s m =
    let sends = sends-for site m s m.kind in
    record {
      one = at_most_one site m sends;
      later = λ p x e. (told site m sends x e).0 p;
      inside = λ x e. (told site m sends x e).1;
      source = λ x e. (told site m sends x e).2;
    }

-- the reply is what doing its message sends
pub reply-sends : (site : Site) (s : State) (m : Message) {r : Option Message} → r ≡ reply_to site s m → sent_by r ≡ sent site s m
unfolding sent
reply-sends site s m e = rw e (whole (sends-for site m s m.kind))
  where
    whole : {l : List Message} → Sends site m l → sent_by (reply_with l) ≡ l
    whole nothing = refl
    whole (one x h k f n) = refl

-- and a message that it sends has a lamp
pub reply-kind : (site : Site) (s : State) (m : Message) {r : Option Message} → r ≡ reply_to site s m → IfSome r (λ x. kind_number x.kind ≤ 2)
unfolding sent
reply-kind site s m {r} e = rw e (few (sends-for site m s m.kind))
  where
    few : {l : List Message} → Sends site m l → IfSome (reply_with l) (λ x. kind_number x.kind ≤ 2)
    few nothing = _
    few (one x h k f n) = n
