-- "Stores want the forecast to balance like their stock book. For each gateway and after each commit: opening stock plus the quantities of
-- all committed Restocks equals the stock in the last record (before the first, the opening stock) plus the number of committed Requests
-- that found stock. [...] It is to hold for every list of calls and carrier that demand 3 allows."
use Rattle.std.specs.Prelude.{◌≡◌, ℕ, ◌+◌, ◌<◌, ◌^◌, List, length}
use Rattle.records.specs.Events.{events_of}
use Rattle.records.specs.Balancing.{Balances, balanced}
use Rattle.records.specs.declared.StockField.TheVariants.{Present}
use Rattle.run.specs.Forecast.{SetUpInput, Forecast}
use Rattle.run.specs.World.{Call, opening_world, after_calls, AllAllowed}

-- The events and states read from the bytes of each gateway's record balance with the stock that the gateway was set up with: the stock is
-- followed from that one, the Requests that found stock are counted on the way, and of the states in the record the last stock alone is taken.
abbrev pub Balanced : Type 0
Balanced =
    (n last : ℕ) (setups : ℕ → SetUpInput) (lent : ℕ → List ℕ) → Forecast n last setups lent
    → (calls : List Call) → AllAllowed n (opening_world setups lent) calls
    → (i : ℕ) → i < n
    → let bytes = (after_calls n (opening_world setups lent) calls).records i in
    Balances (setups i).opening.stock (events_of Present bytes)

-- So the call that stores make on their own copy of such a record, of fewer than 2^48 bytes, answers 0, and its figures balance.
abbrev pub CopiesBalance : Type 0
CopiesBalance =
    (n last : ℕ) (setups : ℕ → SetUpInput) (lent : ℕ → List ℕ) → Forecast n last setups lent
    → (calls : List Call) → AllAllowed n (opening_world setups lent) calls
    → (i : ℕ) → i < n
    → let bytes = (after_calls n (opening_world setups lent) calls).records i in
    let opening = (setups i).opening.stock in
    let answer = balanced opening bytes in
    length bytes < 2 ^ 48 → (answer.number ≡ 0) × (opening + answer.received ≡ answer.stock + answer.served)
