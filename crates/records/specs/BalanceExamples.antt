-- Examples of the balance, as one table: the figures of records, and what they are refused with.
use Rattle.std.specs.Prelude.{◌≡◌, ℕ, List, [], ◌++◌, take}
use Rattle.records.specs.Balancing.{BalanceAnswer, refused_balance, balanced}
use Rattle.records.specs.ExampleRecords.{lamp, blanks, frame, failure_frame, restock_frame, state}

-- a Request at gateway 3 for its own lamp at that hour, and a Delivery to it, with the state after it
abbrev request : (hour : ℕ) → (state : List ℕ) → List ℕ
request hour state = frame 1 3 3 hour 3 lamp ++ state

abbrev delivery : (hour : ℕ) → (state : List ℕ) → List ℕ
delivery hour state = frame 2 3 3 hour 3 lamp ++ state

-- a Failure, and a Restock of that quantity
abbrev failure : (hour : ℕ) → (state : List ℕ) → List ℕ
failure hour state = failure_frame hour lamp ++ state

abbrev restock : (hour quantity : ℕ) → (state : List ℕ) → List ℕ
restock hour quantity state = restock_frame hour quantity ++ state

-- the figures: received, served, the last stock
abbrev figures : (received served stock : ℕ) → BalanceAnswer
figures received served stock = record { number = 0; received = received; served = served; stock = stock }

-- a bad event: its lamp is of blanks
abbrev bad : List ℕ
bad = failure_frame 10 blanks ++ state 0 1 0 0

pub record BalanceExamples : Type 0 where
  -- before the first event the last stock is the opening one
  pub empty : (balanced 0 [] ≡ figures 0 0 0) × (balanced 65535 [] ≡ figures 0 0 65535)
  -- stock 1 and two Requests: the first finds stock, the second does not and is not counted. 1 + 0 = 0 + 1
  pub one : balanced 1 (request 10 (state 0 0 0 0) ++ request 11 (state 0 0 0 1)) ≡ figures 0 1 0
  -- a Restock and a Request of its hour, which finds stock. 0 + 3 = 2 + 1
  pub same_hour : balanced 0 (restock 10 3 (state 3 0 0 0) ++ request 10 (state 2 0 0 0)) ≡ figures 3 1 2
  -- a Request the hour before finds none, and the Restock counts that is the last event. 0 + 3 = 3 + 0
  pub hour_before : balanced 0 (request 9 (state 0 0 0 1) ++ restock 10 3 (state 3 0 0 1)) ≡ figures 3 0 3
  -- Failures and Deliveries count for nothing: drivers that other gateways sent were fitted here. 5 + 0 = 5 + 0
  pub fitted : balanced 5 (failure 10 (state 5 1 0 0) ++ delivery 34 (state 5 1 1 0)) ≡ figures 0 0 5
  -- a shelf of more than 65,535. 65,535 + 131,070 = 196,604 + 1
  pub large : balanced 65535 (restock 1 65535 (state 131070 0 0 0) ++ restock 2 65535 (state 196605 0 0 0) ++ request 3 (state 196604 0 0 0))
      ≡ figures 131070 1 196604
  -- the Requests are followed from the stock that is given: from 0 neither of the two finds stock
  pub other_opening : balanced 0 (request 10 (state 0 0 0 0) ++ request 11 (state 0 0 0 1)) ≡ figures 0 0 0
  -- and by the messages alone: what the states say on the way is not looked at, of the last one the stock alone. Made up like that the
  -- figures do not balance, 1 + 0 and 7 + 1, which is for the caller to see
  pub made_up : balanced 1 (request 10 (state 9 9 9 9) ++ request 11 (state 7 8 8 8)) ≡ figures 0 1 7
  -- an opening stock of 65,536 is 8, before what the record is refused with
  pub out_of_range : (balanced 65536 [] ≡ refused_balance 8) × (balanced 65536 bad ≡ refused_balance 8) × (balanced 4294967295 [] ≡ refused_balance 8)
  -- a record is refused as for the views: the first event that is refused decides, and a cut state is 11; there are no figures then
  pub refused : (balanced 65535 bad ≡ refused_balance 12) × (balanced 0 (request 10 (state 0 0 0 1) ++ bad) ≡ refused_balance 12)
      × (balanced 0 (request 10 (take 15 (state 0 0 0 1))) ≡ refused_balance 11)
