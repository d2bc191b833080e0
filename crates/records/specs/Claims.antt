-- What is proved of histories beside the contracts.
use Rattle.std.specs.Prelude.{ℕ, List}
use Rattle.model.specs.Doing.{opening_state}
use Rattle.model.specs.declared.Message.{Message}
use Rattle.records.specs.Histories.{events_from}
use Rattle.records.specs.Balancing.{Balances}

-- every history balances: whatever messages a gateway does, from whatever stock
abbrev pub HistoriesBalance : Type 0
HistoriesBalance = (opening : ℕ) (messages : List Message) → Balances opening (events_from (opening_state opening) messages)
