-- Histories balance: what one message does to the stock, and so what all of them do.
use mathlib.Core.Path.{◌≡◌, refl, ap}
use mathlib.Core.Bool.{Bool, true, false, cond}
use mathlib.Core.List.{List, [], ◌∷◌}
use Prim.Native.Nat.{ℕ, ◌+◌, ◌-◌, ◌≤◌}
use native.Mathlib.Omega.{arith}
use lib.Dec.{ltb}
use borrow.Author.Tests.{ltb-true}
use Rattle.model.specs.Doing.{opening_state, after, counted}
use Rattle.model.specs.Messages.{quantity_of}
use Rattle.model.specs.declared.Kind.{Kind}
use Rattle.model.specs.declared.Kind.TheVariants.{Failure, Request, Delivery, Restock, Start, Lvt, Update}
use Rattle.model.specs.declared.Message.{Message}
use Rattle.model.specs.declared.State.{State}
use Rattle.records.specs.Events.{Event}
use Rattle.records.specs.Histories.{events_from}
use Rattle.records.specs.Balancing.{received, finds_stock, served, last_stock}
use Rattle.records.specs.Claims.{HistoriesBalance}

-- 1 for a Request that finds stock, else 0
abbrev found : State → Kind → ℕ
found s k = cond (finds_stock s k) 1 0

pub found-one : (s : State) (k : Kind) → cond (finds_stock s k) 1 0 ≤ 1
found-one s k = by (finds_stock s k)
  where
    by : (x : Bool) → cond x 1 0 ≤ 1
    by true = omega arith
    by false = omega arith

-- one message: the stock after it and a driver drawn are the stock before it and what came in
pub stock-step : (s : State) (k : Kind) → (after s k).stock + cond (finds_stock s k) 1 0 ≡ s.stock + quantity_of k
stock-step s (Failure origin) = refl
stock-step s (Request origin) = by (ltb 0 s.stock) refl
  where
    by : (x : Bool) → ltb 0 s.stock ≡ x
        → (cond {A = State} x (record { stock = s.stock - 1; failed = s.failed; fitted = s.fitted; short = s.short })
        (record { stock = s.stock; failed = s.failed; fitted = s.fitted; short = counted s.short })).stock + cond x 1 0 ≡ s.stock + 0
    by true e = omega (arith, ltb-true 0 s.stock e)
    by false e = refl
stock-step s (Delivery origin) = refl
stock-step s (Restock quantity) = omega arith
stock-step s Start = refl
stock-step s Lvt = refl
stock-step s Update = refl

-- all messages of a history
history-balances : (s : State) (ms : List Message)
    → s.stock + received (events_from s ms) ≡ last_stock s.stock (events_from s ms) + served s (events_from s ms)
unfolding events_from received last_stock served
history-balances s [] = refl
history-balances s (m ∷ ms) = omega (arith, history-balances (after s m.kind) ms, stock-step s m.kind)

pub histories-balance : HistoriesBalance
histories-balance opening messages = history-balances (opening_state opening) messages

-- which Requests find stock goes by the stock alone
finds-same : (s t : State) → s.stock ≡ t.stock → (k : Kind) → finds_stock s k ≡ finds_stock t k
finds-same s t e (Failure origin) = refl
finds-same s t e (Request origin) = ap (ltb 0) e
finds-same s t e (Delivery origin) = refl
finds-same s t e (Restock quantity) = refl
finds-same s t e Start = refl
finds-same s t e Lvt = refl
finds-same s t e Update = refl

pub served-same : (s t : State) → s.stock ≡ t.stock → (es : List Event) → served s es ≡ served t es
unfolding served
served-same s t e [] = refl
served-same s t e (d ∷ ds) =
    let k = d.message.kind in
    let one : found s k ≡ found t k = ap (λ (x : Bool). cond x 1 0) (finds-same s t e k) in
    let next : (after s k).stock ≡ (after t k).stock = omega (arith, stock-step s k, stock-step t k, one, e) in
    omega (arith, one, served-same (after s k) (after t k) next ds)
