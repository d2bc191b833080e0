-- What reads records takes what commit wrote: in every run that demand 3 speaks of, no event of a committed record is refused.
use Rattle.std.specs.Prelude.{◌≡◌, ℕ, ◌<◌, List, length}
use Rattle.records.specs.Events.{record_refusal, events_of}
use Rattle.records.specs.declared.StockField.TheVariants.{Present}
use Rattle.run.specs.Forecast.{SetUpInput, Forecast}
use Rattle.run.specs.World.{Call, opening_world, after_calls, AllAllowed}
use Rattle.run.specs.ExampleRun.{world_at_end}
use Rattle.run.specs.OrderExamples.{same_hour_set_up, same_hour_memory, same_hour_calls}

-- After every list of calls that demand 3 allows, at each gateway, no event of the record is refused.
abbrev pub RecordsTaken : Type 0
RecordsTaken =
    (n last : ℕ) (setups : ℕ → SetUpInput) (lent : ℕ → List ℕ) → Forecast n last setups lent
    → (calls : List Call) → AllAllowed n (opening_world setups lent) calls
    → (i : ℕ) → i < n → record_refusal Present ((after_calls n (opening_world setups lent) calls).records i) ≡ 0

-- the record of gateway 0 at the end of the run with a Failure, a Restock and a Request
abbrev pub example_record : List ℕ
example_record = (world_at_end 1 10 same_hour_set_up same_hour_memory same_hour_calls).records 0

-- It is not refused, and three events are read from it.
pub record RecordsTakenExample : Type 0 where
  pub not_refused : record_refusal Present example_record ≡ 0
  pub events : length (events_of Present example_record) ≡ 3
