-- Examples of histories and of the balance, as one table: of the run with a Failure, a Restock and a Request of the Restock's hour, and of
-- the run of two gateways.
use Rattle.std.specs.Prelude.{◌≡◌, ℕ, List, [], ◌∷◌, take}
use Rattle.model.specs.declared.Kind.TheVariants.{Failure}
use Rattle.model.specs.declared.Message.{Message}
use Rattle.frame.specs.Reasons.{frame_read}
use Rattle.records.specs.Events.{events_of}
use Rattle.records.specs.Balancing.{BalanceAnswer, Balances, balanced}
use Rattle.records.specs.declared.StockField.TheVariants.{Present}
use Rattle.run.specs.ExampleRun.{world_at_end, example_memory, two_set_ups, request, two_calls}
use Rattle.run.specs.OrderExamples.{message_at, restock_at, same_hour_set_up, same_hour_memory, failures_request, same_hour_calls, same_hour_record}
use Rattle.run.specs.History.{single_history, events_at, writing}

-- gateway 0's record after so many calls of the first run; its last three are commits
abbrev pub record_after : ℕ → List ℕ
record_after count = (world_at_end 1 10 same_hour_set_up same_hour_memory (take count same_hour_calls)).records 0

-- its history: a Failure, the Restock of 3 and the Failure's Request
abbrev three_messages : List Message
three_messages = message_at 4 (Failure 0) ∷ restock_at 5 3 ∷ failures_request ∷ []

-- gateway i's record at the end of the run of two gateways
abbrev pub record_of_two : ℕ → List ℕ
record_of_two i = (world_at_end 2 10 two_set_ups example_memory two_calls).records i

-- the figures of the balance: received, served, the last stock
abbrev figures : (received served stock : ℕ) → BalanceAnswer
figures received served stock = record { number = 0; received = received; served = served; stock = stock }

pub record HistoryExamples : Type 0 where
  -- the single queue's history there, whose writing the record is, and which is read back from it
  pub history : single_history 1 10 same_hour_set_up 0 ≡ three_messages
  pub written : record_after 8 ≡ writing (events_at same_hour_set_up 0 three_messages)
  pub read : events_of Present (same_hour_record 0) ≡ events_at same_hour_set_up 0 three_messages
  -- a beginning of it, after two of the three commits
  pub beginning : record_after 7 ≡ writing (events_at same_hour_set_up 0 (take 2 three_messages))
  -- the balance from an opening stock of 0: before the first commit, and after each of the three
  pub before : (record_after 5 ≡ []) × (balanced 0 (record_after 5) ≡ figures 0 0 0)
  pub after_each : (balanced 0 (record_after 6) ≡ figures 0 0 0) × (balanced 0 (record_after 7) ≡ figures 3 0 3)
      × (balanced 0 (record_after 8) ≡ figures 3 1 2)
  -- as the claim says it: 0 + 3 = 2 + 1
  pub balances : Balances 0 (events_of Present (same_hour_record 0))
  -- of two gateways: what the single queue does at each, a Failure and its Request, which finds the one driver of gateway 1
  pub histories : (single_history 2 10 two_set_ups 0 ≡ message_at 5 (Failure 0) ∷ []) × (single_history 2 10 two_set_ups 1 ≡ (frame_read request).message ∷ [])
  pub of_two : (balanced 0 (record_of_two 0) ≡ figures 0 0 0) × (balanced 1 (record_of_two 1) ≡ figures 0 1 0)
