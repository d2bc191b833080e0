-- Examples of the order within an hour, as one table: Failure, Restock, Request, Delivery, wherever event order counts.
use Rattle.std.specs.Prelude.{◌≡◌, ℕ, true, false, List, [], ◌∷◌, ◌++◌, map, get_or, replicate}
use Rattle.model.specs.EventOrder.{key, compared}
use Rattle.model.specs.declared.Kind.{Kind}
use Rattle.model.specs.declared.Kind.TheVariants.{Failure, Request, Delivery, Restock}
use Rattle.model.specs.declared.Message.{Message}
use Rattle.model.specs.declared.State.{State}
use Rattle.std.specs.declared.cmp.Ordering.TheVariants.{Less}
use Rattle.frame.specs.Writing.{written}
use Rattle.memory.specs.Codec.{entry_bytes, encode}
use Rattle.memory.specs.Records.{Gateway}
use Rattle.memory.specs.Validity.{no_state, frame_if}
use Rattle.memory.specs.declared.Entry.{Entry}
use Rattle.memory.specs.declared.Mark.TheVariants.{Processed}
use Rattle.memory.specs.declared.Sent.{Sent}
use Rattle.gateway.specs.Effects.{Outcome, with_agreed}
use Rattle.gateway.specs.Undoing.{pending_entry}
use Rattle.gateway.specs.Working.{Progress, worked}
use Rattle.gateway.specs.Taking.{acknowledgment, take_plain}
use Rattle.gateway.specs.Rounds.{idle}
use Rattle.gateway.specs.Committing.{commit}
use Rattle.gateway.specs.SettingUp.{queued}
use Rattle.gateway.specs.Calls.{take_bytes, agreed_time}
use Rattle.gateway.specs.Examples.{town_hours}
use Rattle.run.specs.Forecast.{SetUpInput}
use Rattle.run.specs.World.{Call, works, takes, starts, commits}
use Rattle.run.specs.Ledger.{Item, after_plain}
use Rattle.run.specs.SingleQueue.{whole_record}
use Rattle.run.specs.ExampleRun.{WholeRun, example_output}

-- a message at gateway 0, which is alone and its own supplier, about the lamp L, sixteen zeros and that character
abbrev about_lamp : ℕ → ℕ → Kind → Message
about_lamp character hour kind = record { hour = hour; from = 0; to = 0; kind = kind; lamp = 76 ∷ (replicate 16 48 ++ (character ∷ [])) }

-- about lamp L00000000000000001
abbrev pub message_at : ℕ → Kind → Message
message_at hour kind = about_lamp 49 hour kind

-- a Restock has no lamp
abbrev pub restock_at : ℕ → ℕ → Message
restock_at hour quantity = record { hour = hour; from = 0; to = 0; kind = Restock quantity; lamp = replicate 18 0 }

-- the events of hour 7
abbrev failure : Message
failure = message_at 7 (Failure 0)

abbrev restock : ℕ → Message
restock quantity = restock_at 7 quantity

abbrev request : Message
request = message_at 7 (Request 0)

abbrev second_request : Message
second_request = about_lamp 50 7 (Request 0)

abbrev delivery : Message
delivery = message_at 7 (Delivery 0)

-- the frame of a message, of its cancel, and of the acknowledgment of either
abbrev pub plain : Message → List ℕ
plain m = written (frame_if false m)

abbrev pub cancel : Message → List ℕ
cancel m = written (frame_if true m)

abbrev pub acknowledged : Message → List ℕ
acknowledged m = written (acknowledgment false m)

abbrev pub cancel_acknowledged : Message → List ℕ
cancel_acknowledged m = written (acknowledgment true m)

-- a state, by stock, fitted and short
abbrev state : ℕ → ℕ → ℕ → State
state stock fitted short = record { stock = stock; failed = 0; fitted = fitted; short = short }

-- the gateway in that state, with what is queued and outstanding
abbrev gateway : State → List Entry → List Sent → Gateway
gateway state queue outstanding = record {
  settings = record { n = 1; own = 0; supplier = 0; last = 50000; q = 4; u = 4; hours = town_hours };
  state = state;
  agreed = 0;
  round = idle;
  queue = queue;
  outstanding = outstanding;
}

-- the gateway with that stock, where these messages wait in this order
abbrev stocked : ℕ → List Message → Gateway
stocked stock messages = gateway (state stock 0 0) (map pending_entry messages) []

-- what a call on the memory of such a gateway, with no stock, answers
abbrev answer_where_queued : List Message → ℕ
answer_where_queued messages = (agreed_time (encode (stocked 0 messages) (replicate 640 0))).number

-- a processed message, with the state before it
abbrev processed : State → Message → Entry
processed before m = record { message = m; mark = Processed; before = before }

-- a message comes: the gateway after taking it. (No carrier brings a Restock; this is what taking one would do)
abbrev comes : Message → Gateway → Gateway
comes m g = (take_plain m g).gateway

-- a Request and then a Restock of 10 come to a shelf of 65,535; two Requests and then a Restock of 1 to an empty one; and work
abbrev restocked : Progress
restocked = worked 9 100 (comes (restock 10) (comes request (stocked 65535 [])))

abbrev one_for_two : Progress
one_for_two = worked 9 100 (comes (restock 1) (comes second_request (comes request (stocked 0 []))))

-- all four come, the last of the order first; work, and the agreed time behind them; then commits, one after the other
abbrev all_done : Gateway
all_done = with_agreed 8 (worked 9 100 (comes failure (comes (restock 3) (comes request (comes delivery (stocked 0 [])))))).gateway

abbrev first_commit : Outcome
first_commit = commit 100 all_done

abbrev next_commit : Outcome → Outcome
next_commit o = commit 100 o.gateway

-- a state's bytes: that stock, one failed, so many fitted, none short
abbrev state_after : ℕ → ℕ → List ℕ
state_after stock fitted = 0 ∷ 0 ∷ 0 ∷ stock ∷ 0 ∷ 0 ∷ 0 ∷ 1 ∷ 0 ∷ 0 ∷ 0 ∷ fitted ∷ replicate 4 0

-- in a ledger, not done
abbrev not_yet : Message → Item
not_yet m = record { message = m; done = false }

-- A run: stock 0, the last hour 10, and an opening list of a Restock of 3 at hour 5 and a Failure at hour 4.
abbrev pub same_hour_set_up : ℕ → SetUpInput
same_hour_set_up i = record {
  opening = record { n = 1; own = 0; supplier = 0; stock = 0; last = 10; q = 3; u = 1; hours = town_hours };
  list = plain (restock_at 5 3) ++ plain (message_at 4 (Failure 0));
}

abbrev pub same_hour_memory : ℕ → List ℕ
same_hour_memory i = replicate 480 0

-- the Failure's Request, whose hour is the Restock's
abbrev pub failures_request : Message
failures_request = message_at 5 (Request 0)

-- the Failure and the Restock are done, then the Request comes and is done; a round, and three commits
abbrev pub same_hour_calls : List Call
same_hour_calls =
    works 0 9 example_output ∷ takes 0 (plain failures_request) example_output ∷ takes 0 (acknowledged failures_request) example_output
    ∷ works 0 9 example_output ∷ starts 0 example_output ∷ commits 0 example_output ∷ commits 0 example_output ∷ commits 0 example_output ∷ []

-- its record: Failure, Restock, Request, which has found stock
abbrev pub same_hour_record : ℕ → List ℕ
same_hour_record i =
    plain (message_at 4 (Failure 0)) ++ state_after 0 0 ++ (plain (restock_at 5 3) ++ state_after 3 0) ++ (plain failures_request ++ state_after 2 0)

pub record OrderWithinAnHour : Type 0 where
  -- the rank weighs more than the origin, this more than the lamp; of two Restocks the smaller quantity comes first
  pub rank_first : compared (key (message_at 7 (Request 1))) (key (message_at 7 (Delivery 0))) ≡ Less
  pub then_origin : compared (key (about_lamp 50 7 (Request 0))) (key (about_lamp 49 7 (Request 1))) ≡ Less
  pub by_quantity : compared (key (restock 5)) (key (restock 6)) ≡ Less
  -- set up: the Failure comes before the Restock, whichever stands first in the list
  pub opening : (queued [] (plain (restock 5) ∷ plain failure ∷ []) ≡ map pending_entry (failure ∷ restock 5 ∷ []))
      × (queued [] (plain failure ∷ plain (restock 5) ∷ []) ≡ map pending_entry (failure ∷ restock 5 ∷ []))
  -- a Restock and a Request, in either order of arrival: the Restock stands first
  pub request_comes : (take_bytes (plain request) 100 (stocked 0 (restock 5 ∷ []))).gateway ≡ stocked 0 (restock 5 ∷ request ∷ [])
  pub restock_comes : comes (restock 5) (stocked 0 (request ∷ [])) ≡ stocked 0 (restock 5 ∷ request ∷ [])
  -- a Request taken late: a processed Restock of its hour stays, and nothing is undone
  pub restock_stays : take_bytes (plain request) 100 (gateway (state 5 0 0) (processed no_state (restock 5) ∷ []) []) ≡ record {
    number = 0;
    gateway = gateway (state 5 0 0) (processed no_state (restock 5) ∷ pending_entry request ∷ []) [];
    output = acknowledged request;
  }
  -- a processed Delivery of its hour is undone, and the Failure that it had sent, 43,800 hours later, is cancelled
  pub delivery_undone : take_bytes (plain request) 100 (gateway (state 0 1 0) (processed no_state delivery ∷ []) []) ≡ record {
    number = 0;
    gateway = gateway no_state (map pending_entry (request ∷ delivery ∷ [])) (record { message = message_at 43807 (Failure 0); cancel = true } ∷ []);
    output = acknowledged request ++ cancel (message_at 43807 (Failure 0));
  }
  -- the cancel of a processed Request undoes it, and not the Restock of its hour; the Delivery that it had sent, 24 hours later, is cancelled
  pub request_cancelled : take_bytes (cancel request) 100 (gateway (state 4 0 0) (processed no_state (restock 5) ∷ processed (state 5 0 0) request ∷ []) [])
      ≡ record {
        number = 0;
        gateway = gateway (state 5 0 0) (processed no_state (restock 5) ∷ []) (record { message = message_at 31 (Delivery 0); cancel = true } ∷ []);
        output = cancel_acknowledged request ++ cancel (message_at 31 (Delivery 0));
      }
  -- memory: all four in their order are sound; 10 where a Restock stands behind a Request or a Delivery of its hour, a Request behind a
  -- Delivery, a Failure behind a Restock
  pub sound : answer_where_queued (failure ∷ restock 5 ∷ request ∷ delivery ∷ []) ≡ 0
  pub unsound : (answer_where_queued (request ∷ restock 5 ∷ []) ≡ 10) × (answer_where_queued (delivery ∷ restock 5 ∷ []) ≡ 10)
      × (answer_where_queued (delivery ∷ request ∷ []) ≡ 10) × (answer_where_queued (restock 5 ∷ failure ∷ []) ≡ 10)
  -- the hour weighs more: a Delivery of hour 6 comes before a Restock of hour 7
  pub hour_first : (answer_where_queued (message_at 6 (Delivery 0) ∷ restock 5 ∷ []) ≡ 0) × (answer_where_queued (restock 5 ∷ message_at 6 (Delivery 0) ∷ []) ≡ 10)
  -- the Restock comes to the shelf before the Request draws; the shelf does not stop at 65,535
  pub large_shelf : restocked.gateway.state ≡ state 65544 0 0
  -- Requests of the Restock's hour are served while stock lasts: the first sends a Delivery, the second falls short and is passed on
  pub while_stock_lasts : (one_for_two.gateway.state ≡ state 0 0 1)
      × (one_for_two.output ≡ plain (message_at 31 (Delivery 0)) ++ plain (about_lamp 50 8 (Request 0)))
  -- the record: Failure, Restock, Request, Delivery, each with the state after it
  pub committed : (first_commit.output ≡ plain failure ++ state_after 0 0)
      × ((next_commit first_commit).output ≡ plain (restock 3) ++ state_after 3 0)
      × ((next_commit (next_commit first_commit)).output ≡ plain request ++ state_after 2 0)
      × ((next_commit (next_commit (next_commit first_commit))).output ≡ plain delivery ++ state_after 2 1)
  -- the ledger: all four come, the last of the order first
  pub ledger : (after_plain failure (after_plain (restock 5) (after_plain request (after_plain delivery (record { items = []; cancels = [] }))))).items
      ≡ map not_yet (failure ∷ restock 5 ∷ request ∷ delivery ∷ [])
  -- the run comes to its end with that record, and the single queue's is the same
  pub whole_run : WholeRun 1 10 same_hour_set_up same_hour_memory same_hour_calls same_hour_record 0
  pub single_queue : whole_record 1 10 same_hour_set_up 0 ≡ same_hour_record 0
  -- kinds keep their numbers in frames and in memory: a Restock is 3
  pub numbers : (plain (restock 5) ≡ 79 ∷ 3 ∷ 0 ∷ 0 ∷ 0 ∷ 0 ∷ 0 ∷ 7 ∷ 0 ∷ 5 ∷ []) × (get_or (entry_bytes (pending_entry (restock 5))) 1 0 ≡ 3)
