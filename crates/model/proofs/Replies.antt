-- What a message brings to the stock, and what a Request sends with stock and without.
use mathlib.Core.Path.{◌≡◌, subst⁻¹}
use Prim.Native.Nat.{ℕ, ◌+◌, ◌-◌, ◌≤◌, ◌<◌}
use mathlib.Core.Bool.{Bool, true, false, cond}
use native.Mathlib.Omega.{arith}
use lib.Dec.{ltb}
use borrow.Author.Tests.{lt-ltb, le-ltb}
use Rattle.std.specs.Prelude.{Option}
use Rattle.model.specs.Doing.{after, counted, not_past, reply, sent, sent_for, reply_with, reply_to}
use Rattle.model.specs.Messages.{quantity_of}
use Rattle.model.specs.declared.Kind.{Kind}
use Rattle.model.specs.declared.Kind.TheVariants.{Failure, Request, Delivery, Restock, Start, Lvt, Update}
use Rattle.model.specs.declared.Message.{Message}
use Rattle.model.specs.declared.State.{State}
use Rattle.model.specs.declared.Site.{Site}

-- no message brings more to the stock than its quantity
pub after_less : (s : State) (k : Kind) → (after s k).stock ≤ s.stock + quantity_of k
after_less s (Failure origin) = omega arith
after_less s (Request origin) = by-case (ltb 0 s.stock)
  where
    by-case : (b : Bool)
        → (cond {A = State} b (record { stock = s.stock - 1; failed = s.failed; fitted = s.fitted; short = s.short }) (record {
          stock = s.stock;
          failed = s.failed;
          fitted = s.fitted;
          short = counted s.short;
        })).stock ≤ s.stock + 0
    by-case true = omega arith
    by-case false = omega arith
after_less s (Delivery origin) = omega arith
after_less s (Restock quantity) = omega arith
after_less s Start = omega arith
after_less s Lvt = omega arith
after_less s Update = omega arith

-- what a Request sends
module _ (site : Site) (s : State) (m : Message) {r : Option Message} where
  -- what is sent for the message's own kind
  pub of-kind : (kind : Kind) → m.kind ≡ kind → r ≡ reply_with (sent_for site s m kind) → r ≡ reply_to site s m
  unfolding sent
  of-kind kind e g = subst⁻¹ (λ (k : Kind). r ≡ reply_with (sent_for site s m k)) e g

  pub with-stock : (origin : ℕ) → m.kind ≡ Kind.Request origin → 0 < s.stock
      → r ≡ reply_with (not_past site.last (reply site m site.hours.delivery origin (Kind.Delivery origin))) → r ≡ reply_to site s m
  with-stock origin e h g = of-kind (Kind.Request origin) e (rw (lt-ltb 0 s.stock h) g)

  pub without-stock : (origin : ℕ) → m.kind ≡ Kind.Request origin → s.stock ≤ 0
      → r ≡ reply_with (not_past site.last (reply site m site.hours.request site.supplier (Kind.Request origin))) → r ≡ reply_to site s m
  without-stock origin e h g = of-kind (Kind.Request origin) e (rw (le-ltb 0 s.stock h) g)
