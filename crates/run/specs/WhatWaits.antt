-- What waits by the ledger is what waits in the memory: the ledger is followed through the calls and never read from a memory, and yet it
-- has the very messages of the queue that the gateway's memory holds.
use Rattle.std.specs.Prelude.{◌≡◌, ℕ, ◌<◌, cond, List, [], ◌∷◌, ◌++◌, length}
use Rattle.lists.specs.Lists.{passing}
use Rattle.model.specs.declared.Message.{Message}
use Rattle.memory.specs.Validity.{is_processed, is_waiting, equal}
use Rattle.memory.specs.Codec.{decode}
use Rattle.memory.specs.declared.Entry.{Entry}
use Rattle.gateway.specs.Working.{pending_of}
use Rattle.run.specs.Forecast.{SetUpInput, Forecast}
use Rattle.run.specs.Ledger.{Item, Ledger, waiting}
use Rattle.run.specs.World.{Call, opening_world, after_calls, AllAllowed}

-- a plain entry as an item
abbrev pub item_of : Entry → Item
item_of e = record { message = e.message; done = is_processed e }

-- the plain messages of a queue, in its order
unfoldable pub items_of : List Entry → List Item
items_of [] = []
items_of (e ∷ es) = let rest = items_of es in cond (is_waiting e) rest (item_of e ∷ rest)

-- the waiting cancels of a queue
unfoldable pub waiting_of : List Entry → List Message
waiting_of [] = []
waiting_of (e ∷ es) = let rest = waiting_of es in cond (is_waiting e) (e.message ∷ rest) rest

-- how often a message stands in a list
abbrev pub times_in : Message → List Message → ℕ
times_in m l = length (passing (equal m) l)

-- A ledger and a queue have the same messages.
pub record SameMessages (l : Ledger) (queue : List Entry) : Type 0 where
  -- the plain ones in the same order, done where they are processed
  pub items : l.items ≡ items_of queue
  -- what waits is what is pending, in event order, and then the cancels
  pub waits : waiting l ≡ pending_of queue ++ l.cancels
  -- which are the waiting cancels of the queue, each as often
  pub cancels : (m : Message) → times_in m l.cancels ≡ times_in m (waiting_of queue)

-- After every list of calls that demand 3 allows, each gateway's ledger and the queue that its memory holds have the same messages.
abbrev pub LedgersHold : Type 0
LedgersHold =
    (n last : ℕ) (setups : ℕ → SetUpInput) (lent : ℕ → List ℕ) → Forecast n last setups lent
    → (calls : List Call) → AllAllowed n (opening_world setups lent) calls
    → (i : ℕ) → i < n
    → let w = after_calls n (opening_world setups lent) calls in
    SameMessages (w.ledgers i) (decode (w.memories i)).queue
