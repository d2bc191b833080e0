-- "Opening stock plus the quantities of all committed Restocks equals the stock in the last record (before the first, the opening stock)
-- plus the number of committed Requests that found stock. The Requests are counted by following the committed history from the opening
-- stock, not taken from a stored figure."
use Rattle.std.specs.Prelude.{◌≡◌, ℕ, ◌+◌, ◌^◌, Bool, false, cond, ◌&&◌, Result, Ok, Err, List, [], ◌∷◌, leb, ltb, eqb, length}
use Rattle.refusal.specs.Numbers.{refusal_number}
use Rattle.refusal.specs.declared.Refusal.{Refusal}
use Rattle.model.specs.Doing.{opening_state, after}
use Rattle.model.specs.Messages.{quantity_of}
use Rattle.model.specs.declared.Kind.{Kind}
use Rattle.model.specs.declared.Kind.TheVariants.{Failure, Request, Delivery, Restock, Start, Lvt, Update}
use Rattle.model.specs.declared.State.{State}
use Rattle.records.specs.Events.{Event, record_refusal, events_of}
use Rattle.records.specs.declared.StockField.TheVariants.{Present}
use Rattle.records.specs.declared.balance.Figures.{Figures}

-- the quantities of all Restocks; a field that a kind lacks counts as zero
unfoldable pub received : List Event → ℕ
received [] = 0
received (e ∷ es) = quantity_of e.message.kind + received es

-- whether a message of that kind, done in that state, is a Request that finds stock
abbrev pub finds_stock : State → Kind → Bool
finds_stock s (Failure origin) = false
finds_stock s (Request origin) = ltb 0 s.stock
finds_stock s (Delivery origin) = false
finds_stock s (Restock quantity) = false
finds_stock s Start = false
finds_stock s Lvt = false
finds_stock s Update = false

-- the Requests that found stock: the messages are followed from a state on by the lamp model, and the states beside them are not looked at
unfoldable pub served : State → List Event → ℕ
served s [] = 0
served s (e ∷ es) = cond (finds_stock s e.message.kind) 1 0 + served (after s e.message.kind) es

-- the stock in the last event's state; before the first event the opening stock
unfoldable pub last_stock : ℕ → List Event → ℕ
last_stock opening [] = opening
last_stock opening (e ∷ es) = last_stock e.state.stock es

-- events balance: opening stock and Restocks come to the last stock and the Requests that found stock
abbrev pub Balances : ℕ → List Event → Type 0
Balances opening events = opening + received events ≡ last_stock opening events + served (opening_state opening) events

-- The call: the three figures of a whole record and an opening stock. Whether they balance is for its caller to see.

-- what it answers: 0 and the figures, or what it is refused with
pub record BalanceAnswer : Type 0 where
  pub number : ℕ
  pub received : ℕ
  pub served : ℕ
  pub stock : ℕ

-- an opening stock of at most 65,535 and a record of fewer than 2^48 bytes; else 8
abbrev pub balanceable : ℕ → List ℕ → Bool
balanceable opening bytes = leb opening 65535 && ltb (length bytes) (2 ^ 48)

-- what is refused has no figures
abbrev pub refused_balance : ℕ → BalanceAnswer
refused_balance number = record { number = number; received = 0; served = 0; stock = 0 }

-- the figures of events
abbrev pub figures_of : ℕ → List Event → BalanceAnswer
figures_of opening events = record {
  number = 0;
  received = received events;
  served = served (opening_state opening) events;
  stock = last_stock opening events;
}

-- the refusals of a record, event by event, as the views give them
unfoldable pub balance_for : ℕ → List ℕ → BalanceAnswer
unfolding record_refusal events_of received served last_stock
balance_for opening bytes =
    let number = record_refusal Present bytes in
    cond (eqb number 0) (figures_of opening (events_of Present bytes)) (refused_balance number)

-- 8 first of all
unfoldable pub balanced : ℕ → List ℕ → BalanceAnswer
unfolding balance_for
balanced opening bytes = cond (balanceable opening bytes) (balance_for opening bytes) (refused_balance 8)

-- the answer that gives the figures, or is a refusal
abbrev pub balance_in : Result Figures Refusal → BalanceAnswer
balance_in (Ok figures) = record { number = 0; received = figures.received; served = figures.served; stock = figures.stock }
balance_in (Err why) = refused_balance (refusal_number why)
