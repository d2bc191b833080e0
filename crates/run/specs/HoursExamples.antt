-- Examples of lead times for each district, as one table: hours in and outside their range, whose hours count, the end of the forecast,
-- undoing, and a run in which each gateway has its own.
use Rattle.std.specs.Prelude.{◌≡◌, ℕ, zero, suc, true, List, [], ◌∷◌, ◌++◌, get_or, replicate}
use Rattle.buffer.specs.Slice.{part}
use Rattle.model.specs.Doing.{opening_state, sent}
use Rattle.model.specs.declared.Kind.{Kind}
use Rattle.model.specs.declared.Kind.TheVariants.{Failure, Request, Delivery}
use Rattle.model.specs.declared.LeadTimes.{LeadTimes}
use Rattle.model.specs.declared.Message.{Message}
use Rattle.memory.specs.Codec.{encode}
use Rattle.memory.specs.Records.{Gateway}
use Rattle.memory.specs.declared.Entry.{Entry}
use Rattle.memory.specs.declared.Mark.TheVariants.{Processed}
use Rattle.memory.specs.declared.Sent.{Sent}
use Rattle.gateway.specs.Undoing.{pending_entry}
use Rattle.gateway.specs.Working.{worked}
use Rattle.gateway.specs.Rounds.{idle}
use Rattle.gateway.specs.SettingUp.{set_up_refusal}
use Rattle.gateway.specs.Calls.{take_bytes, set_up, agreed_time}
use Rattle.gateway.specs.declared.Opening.{Opening}
use Rattle.run.specs.Forecast.{SetUpInput}
use Rattle.run.specs.World.{Call, works, takes, starts, commits}
use Rattle.run.specs.SingleQueue.{whole_record}
use Rattle.run.specs.ExampleRun.{WholeRun, example_output, start_frame, lvt_frame, update_frame}
use Rattle.run.specs.OrderExamples.{plain, cancel, acknowledged}

-- lead times, by request, delivery and life hours
abbrev hours : ℕ → ℕ → ℕ → LeadTimes
hours request delivery life = record { request = request; delivery = delivery; life = life }

-- gateway 1 of two is set up with these hours, its own supplier, H = 100, in memory that is just long enough: the settings, and what it
-- is refused with
abbrev told : LeadTimes → Opening
told t = record { n = 2; own = 1; supplier = 1; stock = 0; last = 100; q = 4; u = 4; hours = t }

abbrev refused_with : LeadTimes → ℕ
refused_with t = set_up_refusal (told t) 640 []

-- the memory that set up leaves, of bytes that were 7
abbrev after_set_up : LeadTimes → List ℕ
after_set_up t = (set_up (told t) [] (replicate 640 7)).memory

-- that gateway with a last hour, lead times, a stock, and what is queued and outstanding
abbrev gateway : ℕ → LeadTimes → ℕ → List Entry → List Sent → Gateway
gateway last t stock queue outstanding = record {
  settings = record { n = 2; own = 1; supplier = 1; last = last; q = 4; u = 4; hours = t };
  state = opening_state stock;
  agreed = 0;
  round = idle;
  queue = queue;
  outstanding = outstanding;
}

-- what a call answers to memory that holds it with these hours
abbrev answer_with : LeadTimes → ℕ
answer_with t = (agreed_time (encode (gateway 100 t 0 [] []) (replicate 640 0))).number

-- a message from one gateway to another at that hour, about lamp L00000000000000001
abbrev pub message : ℕ → ℕ → ℕ → Kind → Message
message from to hour kind = record { hour = hour; from = from; to = to; kind = kind; lamp = 76 ∷ (replicate 16 48 ++ (49 ∷ [])) }

-- an island depot: an order takes 12 hours, a delivery three days, and a driver lives 30,000 hours
abbrev island_hours : LeadTimes
island_hours = hours 12 72 30000

-- what it puts out when it does that message, with that stock
abbrev put_out : ℕ → Message → List ℕ
put_out stock m = (worked 1 100 (gateway 50000 island_hours stock (pending_entry m ∷ []) [])).output

-- what doing a message sends with the longest hours, where the last hour is the last that there can be
abbrev last_of_all : ℕ
last_of_all = 4294967294

abbrev sent_near_the_end : ℕ → Message → List Message
sent_near_the_end stock m =
    sent (record { own = 1; supplier = 1; last = last_of_all; hours = hours 1000000 1000000 1000000 }) (record {
      stock = stock;
      failed = 0;
      fitted = 0;
      short = 0;
    }) m

-- A run, H = 10. Gateway 0, whose supplier is 1, has a Failure at hour 4, and request, delivery and life hours 2, 4 and 1; gateway 1 has a
-- stock of 1, and the hours 1, 3 and 2.
abbrev opening_of : ℕ → ℕ → LeadTimes → Opening
opening_of own stock t = record { n = 2; own = own; supplier = 1; stock = stock; last = 10; q = 3; u = 1; hours = t }

abbrev set_ups_with : LeadTimes → LeadTimes → ℕ → SetUpInput
set_ups_with t u zero = record { opening = opening_of 0 0 t; list = plain (message 0 0 4 (Failure 0)) }
set_ups_with t u (suc i) = record { opening = opening_of 1 1 u; list = [] }

abbrev pub district_set_ups : ℕ → SetUpInput
district_set_ups = set_ups_with (hours 2 4 1) (hours 1 3 2)

abbrev pub district_memory : ℕ → List ℕ
district_memory i = replicate 480 0

-- gateway 0's request hours later, the Request; gateway 1's delivery hours after that, the Delivery; gateway 0's life hours after that, the
-- next Failure, whose Request would be past H
abbrev pub district_request : Message
district_request = message 0 1 6 (Request 0)

abbrev pub district_delivery : Message
district_delivery = message 1 0 9 (Delivery 0)

abbrev pub next_failure : Message
next_failure = message 0 0 10 (Failure 0)

-- work and the frames that it leads to, a round, and commits
abbrev pub district_calls : List Call
district_calls =
    works 0 9 example_output ∷ takes 1 (plain district_request) example_output ∷ takes 0 (acknowledged district_request) example_output
    ∷ works 1 9 example_output ∷ takes 0 (plain district_delivery) example_output ∷ takes 1 (acknowledged district_delivery) example_output
    ∷ works 0 9 example_output ∷ takes 0 (plain next_failure) example_output ∷ takes 0 (acknowledged next_failure) example_output
    ∷ works 0 9 example_output ∷ starts 0 example_output ∷ takes 1 start_frame example_output ∷ takes 0 lvt_frame example_output
    ∷ takes 1 update_frame example_output ∷ commits 0 example_output ∷ commits 0 example_output ∷ commits 0 example_output
    ∷ commits 1 example_output ∷ []

-- a state's bytes: no stock, so many failed and fitted, none short
abbrev state_after : ℕ → ℕ → List ℕ
state_after failed fitted = 0 ∷ 0 ∷ 0 ∷ 0 ∷ 0 ∷ 0 ∷ 0 ∷ failed ∷ 0 ∷ 0 ∷ 0 ∷ fitted ∷ replicate 4 0

-- gateway 0's record: Failure, Delivery, Failure; gateway 1's: the Request, which found its one driver
abbrev pub district_records : ℕ → List ℕ
district_records zero =
    plain (message 0 0 4 (Failure 0)) ++ state_after 1 0 ++ (plain district_delivery ++ state_after 1 1) ++ (plain next_failure ++ state_after 2 1)
district_records (suc i) = plain district_request ++ state_after 0 0

pub record HoursOfEachGateway : Type 0 where
  -- set up: 1 and 1,000,000 hours are accepted
  pub shortest : refused_with (hours 1 1 1) ≡ 0
  pub longest : refused_with (hours 1000000 1000000 1000000) ≡ 0
  -- 0 and 1,000,001 are 8, each of the three, and so is the largest number of all
  pub none : (refused_with (hours 0 24 43800) ≡ 8) × (refused_with (hours 1 0 43800) ≡ 8) × (refused_with (hours 1 24 0) ≡ 8)
  pub too_long : (refused_with (hours 1000001 24 43800) ≡ 8) × (refused_with (hours 1 1000001 43800) ≡ 8) × (refused_with (hours 1 24 1000001) ≡ 8)
  pub far_too_long : refused_with (hours 1 4294967295 43800) ≡ 8
  -- before any frame of the opening list is looked at
  pub before_frames : (set_up_refusal (told (hours 0 24 43800)) 640 (63 ∷ []) ≡ 8) × (set_up_refusal (told (hours 1 24 43800)) 640 (63 ∷ []) ≡ 11)
  -- they stand in the header from byte 26 on, four bytes each; byte 54, behind the header's last, stays as it was
  pub stored : (part (after_set_up (hours 1 258 1000000)) 26 12 ≡ 0 ∷ 0 ∷ 0 ∷ 1 ∷ 0 ∷ 0 ∷ 1 ∷ 2 ∷ 0 ∷ 15 ∷ 66 ∷ 64 ∷ [])
      × (get_or (after_set_up (hours 1 258 1000000)) 54 0 ≡ 7)
  -- memory with hours in their range is sound; 10 where one is 0 or 1,000,001
  pub sound : (answer_with (hours 1 1000000 1) ≡ 0) × (answer_with (hours 1000000 1 1000000) ≡ 0)
  pub unsound_none : (answer_with (hours 0 24 43800) ≡ 10) × (answer_with (hours 1 0 43800) ≡ 10) × (answer_with (hours 1 24 0) ≡ 10)
  pub unsound_long : (answer_with (hours 1000001 24 43800) ≡ 10) × (answer_with (hours 1 1000001 43800) ≡ 10) × (answer_with (hours 1 24 1000001) ≡ 10)
  -- the island depot: its Failure's Request comes 12 hours later; it serves a Request of gateway 0 with a Delivery 72 hours later, or
  -- passes it on 12 hours later; a driver fitted to one of its own lamps fails 30,000 hours later
  pub failure : put_out 0 (message 1 1 5 (Failure 1)) ≡ plain (message 1 1 17 (Request 1))
  pub served : put_out 1 (message 0 1 5 (Request 0)) ≡ plain (message 1 0 77 (Delivery 0))
  pub passed_on : put_out 0 (message 0 1 5 (Request 0)) ≡ plain (message 1 1 17 (Request 0))
  pub fitted : put_out 0 (message 1 1 5 (Delivery 1)) ≡ plain (message 1 1 30005 (Failure 1))
  -- 1,000,000 hours before the last hour of all what is sent comes just in it, and one hour later nothing is sent
  pub just_in_time : (sent_near_the_end 0 (message 1 1 4293967294 (Failure 1)) ≡ message 1 1 last_of_all (Request 1) ∷ [])
      × (sent_near_the_end 1 (message 0 1 4293967294 (Request 0)) ≡ message 1 0 last_of_all (Delivery 0) ∷ [])
      × (sent_near_the_end 0 (message 0 1 4293967294 (Request 0)) ≡ message 1 1 last_of_all (Request 0) ∷ [])
      × (sent_near_the_end 0 (message 1 1 4293967294 (Delivery 1)) ≡ message 1 1 last_of_all (Failure 1) ∷ [])
  pub an_hour_too_late : (sent_near_the_end 0 (message 1 1 4293967295 (Failure 1)) ≡ []) × (sent_near_the_end 1 (message 0 1 4293967295 (Request 0)) ≡ [])
      × (sent_near_the_end 0 (message 0 1 4293967295 (Request 0)) ≡ []) × (sent_near_the_end 0 (message 1 1 4293967295 (Delivery 1)) ≡ [])
  -- in the last hour of all the sum would be 999,998 in 32 bits: nothing is sent
  pub no_sum_wraps : (sent_near_the_end 0 (message 1 1 last_of_all (Failure 1)) ≡ []) × (sent_near_the_end 1 (message 0 1 last_of_all (Request 0)) ≡ [])
      × (sent_near_the_end 0 (message 0 1 last_of_all (Request 0)) ≡ []) × (sent_near_the_end 0 (message 1 1 last_of_all (Delivery 1)) ≡ [])
  -- a Request that comes late undoes the later one, and the Delivery that this had sent, 72 hours after it, is cancelled
  pub undone : take_bytes (plain (message 0 1 4 (Request 0))) 100 (gateway 50000 island_hours 0 (record {
    message = message 0 1 5 (Request 0);
    mark = Processed;
    before = record { stock = 1; failed = 0; fitted = 0; short = 0 };
  } ∷ []) []) ≡ record {
    number = 0;
    gateway = gateway 50000 island_hours 1 (pending_entry (message 0 1 4 (Request 0)) ∷ pending_entry (message 0 1 5 (Request 0)) ∷ []) (record {
      message = message 1 0 77 (Delivery 0);
      cancel = true;
    } ∷ []);
    output = acknowledged (message 0 1 4 (Request 0)) ++ cancel (message 1 0 77 (Delivery 0));
  }
  -- the run comes to its end with these records, and the single queue's are the same
  pub whole_run : WholeRun 2 10 district_set_ups district_memory district_calls district_records 3
  pub single_queue : (whole_record 2 10 district_set_ups 0 ≡ district_records 0) × (whole_record 2 10 district_set_ups 1 ≡ district_records 1)
  -- with gateway 0's hours at both, the driver is fitted at hour 10 and not at hour 9; with gateway 1's at both, the Request comes at hour 5
  pub other_hours : (whole_record 2 10 (set_ups_with (hours 2 4 1) (hours 2 4 1)) 0
      ≡ plain (message 0 0 4 (Failure 0)) ++ state_after 1 0 ++ (plain (message 1 0 10 (Delivery 0)) ++ state_after 1 1))
      × (whole_record 2 10 (set_ups_with (hours 1 3 2) (hours 1 3 2)) 1 ≡ plain (message 0 1 5 (Request 0)) ++ state_after 0 0)
