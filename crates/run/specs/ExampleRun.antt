-- Two runs from their set up to their whole records, computed: all that demand 3 supposes can be had.
use Rattle.std.specs.Prelude.{◌≡◌, ℕ, zero, suc, ◌<◌, List, [], ◌∷◌, ◌++◌, replicate}
use Rattle.frame.specs.Limits.{nothing_due}
use Rattle.gateway.specs.Examples.{town_hours}
use Rattle.run.specs.Forecast.{SetUpInput, Forecast}
use Rattle.run.specs.World.{World, Call, works, takes, starts, commits, opening_world, after_calls, AllAllowed}
use Rattle.run.specs.Demand3.{agreed, NothingToCommit, Completed}

module _ (n last : ℕ) (setups : ℕ → SetUpInput) (lent : ℕ → List ℕ) (calls : List Call) where
  -- the world after the calls
  unfoldable pub world_at_end : World
  world_at_end = after_calls n (opening_world setups lent) calls

  -- A run to its end: it is a forecast and an allowed list of calls; nothing is under way, and at each gateway nothing is due and
  -- nothing left to commit; the records are these; round 1 is completed and took so many messages.
  pub record WholeRun (records : ℕ → List ℕ) (messages : ℕ) : Type 0 where
    pub forecast : Forecast n last setups lent
    pub allowed : AllAllowed n (opening_world setups lent) calls
    pub nothing_under_way : world_at_end.under_way ≡ []
    pub nothing_is_due : (i : ℕ) → i < n → agreed world_at_end i ≡ nothing_due
    pub nothing_left : (i : ℕ) → i < n → NothingToCommit world_at_end i
    pub whole : (i : ℕ) → i < n → world_at_end.records i ≡ records i
    pub completed : Completed n world_at_end.rounds 1
    pub took : world_at_end.rounds.took 1 ≡ messages

-- memory for one queue place and one outstanding place, 256 + 64 + 32 bytes; an output
abbrev pub example_memory : ℕ → List ℕ
example_memory i = replicate 352 0

abbrev pub example_output : List ℕ
example_output = replicate 43 0

-- One gateway, with a stock of 2, the last hour 10, and a Restock of 3 at hour 5 as the opening list.
abbrev restock : List ℕ
restock = 79 ∷ 3 ∷ 0 ∷ 0 ∷ 0 ∷ 0 ∷ 0 ∷ 5 ∷ 0 ∷ 3 ∷ []

abbrev pub one_set_up : ℕ → SetUpInput
one_set_up i = record { opening = record { n = 1; own = 0; supplier = 0; stock = 2; last = 10; q = 1; u = 1; hours = town_hours }; list = restock }

-- work, a round, a commit
abbrev pub one_calls : List Call
one_calls = works 0 9 example_output ∷ starts 0 example_output ∷ commits 0 example_output ∷ []

-- the Restock and the state after it, a stock of 5
abbrev pub one_records : ℕ → List ℕ
one_records i = restock ++ (0 ∷ 0 ∷ 0 ∷ 5 ∷ 0 ∷ 0 ∷ 0 ∷ 0 ∷ 0 ∷ 0 ∷ 0 ∷ 0 ∷ 0 ∷ 0 ∷ 0 ∷ 0 ∷ [])

-- Two gateways, with the last hour 10: 0, whose supplier is 1, has a Failure at hour 5, and 1 has a stock of 1.
abbrev lamp : List ℕ
lamp = 76 ∷ (replicate 16 48 ++ (49 ∷ []))

abbrev failure : List ℕ
failure = 63 ∷ 0 ∷ 0 ∷ 0 ∷ 0 ∷ 0 ∷ 0 ∷ 5 ∷ 0 ∷ lamp

abbrev pub two_set_ups : ℕ → SetUpInput
two_set_ups zero = record { opening = record { n = 2; own = 0; supplier = 1; stock = 0; last = 10; q = 1; u = 1; hours = town_hours }; list = failure }
two_set_ups (suc i) = record { opening = record { n = 2; own = 1; supplier = 1; stock = 1; last = 10; q = 1; u = 1; hours = town_hours }; list = [] }

-- the frames in the order written: the Request at hour 6, its acknowledgment, Start, Lvt and Update, with nothing due in both
abbrev pub request : List ℕ
request = 63 ∷ 1 ∷ 0 ∷ 1 ∷ 0 ∷ 0 ∷ 0 ∷ 6 ∷ 0 ∷ lamp

abbrev pub request_acknowledged : List ℕ
request_acknowledged = 191 ∷ 1 ∷ 0 ∷ 1 ∷ 0 ∷ 0 ∷ 0 ∷ 6 ∷ 0 ∷ (lamp ++ (2 ∷ []))

abbrev pub start_frame : List ℕ
start_frame = 7 ∷ 4 ∷ 0 ∷ 1 ∷ []

abbrev pub lvt_frame : List ℕ
lvt_frame = 15 ∷ 5 ∷ 1 ∷ 0 ∷ 255 ∷ 255 ∷ 255 ∷ 255 ∷ []

abbrev pub update_frame : List ℕ
update_frame = 15 ∷ 6 ∷ 0 ∷ 1 ∷ 255 ∷ 255 ∷ 255 ∷ 255 ∷ []

-- work and the frames that it leads to, a round, two commits
abbrev pub two_calls : List Call
two_calls =
    works 0 9 example_output ∷ takes 1 request example_output ∷ works 1 9 example_output ∷ takes 0 request_acknowledged example_output
    ∷ starts 0 example_output ∷ takes 1 start_frame example_output ∷ takes 0 lvt_frame example_output ∷ takes 1 update_frame example_output
    ∷ commits 0 example_output ∷ commits 1 example_output ∷ []

-- 0 has done the Failure, failed 1; 1 the Request, from its stock: the Delivery at hour 30 is past the last
abbrev pub two_records : ℕ → List ℕ
two_records zero = failure ++ (0 ∷ 0 ∷ 0 ∷ 0 ∷ 0 ∷ 0 ∷ 0 ∷ 1 ∷ 0 ∷ 0 ∷ 0 ∷ 0 ∷ 0 ∷ 0 ∷ 0 ∷ 0 ∷ [])
two_records (suc i) = request ++ (0 ∷ 0 ∷ 0 ∷ 0 ∷ 0 ∷ 0 ∷ 0 ∷ 0 ∷ 0 ∷ 0 ∷ 0 ∷ 0 ∷ 0 ∷ 0 ∷ 0 ∷ 0 ∷ [])

-- one gateway does its round without a frame; two take 3 messages
pub record ExampleRuns : Type 0 where
  pub one : WholeRun 1 10 one_set_up example_memory one_calls one_records 0
  pub two : WholeRun 2 10 two_set_ups example_memory two_calls two_records 3
