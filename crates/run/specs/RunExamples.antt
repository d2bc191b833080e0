-- Two runs, seen along their calls, as one table: four gateways with two rounds, of which the carrier holds Updates back, and two gateways
-- that supply each other, with refused calls, an event that is undone, and a cancel that comes before its message.
use Rattle.std.specs.Prelude.{◌≡◌, ℕ, zero, suc, Bool, true, false, List, [], ◌∷◌, ◌++◌, map, replicate}
use Rattle.model.specs.declared.Kind.TheVariants.{Failure, Request}
use Rattle.model.specs.declared.Message.{Message}
use Rattle.gateway.specs.Calls.{taken, started, committed, set_up}
use Rattle.gateway.specs.declared.Opening.{Opening}
use Rattle.gateway.specs.Examples.{town_hours}
use Rattle.run.specs.Forecast.{SetUpInput, Forecast}
use Rattle.run.specs.Ledger.{waiting}
use Rattle.run.specs.World.{World, Call, Carried, works, takes, starts, commits, sets_up, opening_world, after_call, after_calls, AllAllowed}
use Rattle.run.specs.Demand3.{Completed}
use Rattle.run.specs.ExampleRun.{WholeRun, world_at_end, example_memory, example_output}
use Rattle.run.specs.OrderExamples.{plain, cancel, acknowledged, cancel_acknowledged}
use Rattle.run.specs.HoursExamples.{message}

-- what is seen of a world, and of the one after each call
unfoldable pub seen_along : {A : Type 0} → (World → A) → ℕ → World → List Call → List A
seen_along look n w [] = look w ∷ []
seen_along look n w (c ∷ cs) = look w ∷ seen_along look n (after_call n w c) cs

-- Four gateways with nothing to do: 0 tells 1 and 2, and both tell 3.
abbrev pub four_set_ups : ℕ → SetUpInput
four_set_ups i = record { opening = record { n = 4; own = i; supplier = 0; stock = 0; last = 10; q = 1; u = 1; hours = town_hours }; list = [] }

-- a Start, an Lvt and an Update from one gateway to another, with nothing due, are brought
abbrev bring_start : ℕ → ℕ → Call
bring_start sender receiver = takes receiver (7 ∷ 4 ∷ sender ∷ receiver ∷ []) example_output

abbrev bring_lvt : ℕ → ℕ → Call
bring_lvt sender receiver = takes receiver (15 ∷ 5 ∷ sender ∷ receiver ∷ 255 ∷ 255 ∷ 255 ∷ 255 ∷ []) example_output

abbrev update : ℕ → ℕ → List ℕ
update sender receiver = 15 ∷ 6 ∷ sender ∷ receiver ∷ 255 ∷ 255 ∷ 255 ∷ 255 ∷ []

abbrev bring_update : ℕ → ℕ → Call
bring_update sender receiver = takes receiver (update sender receiver) example_output

-- the Starts and the Lvts of a round, up to the one that closes it
abbrev starts_and_lvts : List Call
starts_and_lvts =
    bring_start 0 1 ∷ bring_start 0 2 ∷ bring_start 1 3 ∷ bring_start 2 3
    ∷ bring_lvt 3 1 ∷ bring_lvt 3 2 ∷ bring_lvt 1 0 ∷ bring_lvt 2 0 ∷ []

-- two rounds: the first's Updates to 1 and 3 are brought when the second is open, those to 2 not yet
abbrev until_held : List Call
until_held =
    starts 0 example_output ∷ starts_and_lvts
    ++ (starts 0 example_output ∷ bring_update 0 1 ∷ bring_update 1 3 ∷ starts_and_lvts
    ++ (bring_update 0 1 ∷ bring_update 1 3 ∷ []))

-- the two Updates to gateway 2
abbrev both_brought : List Call
both_brought = bring_update 0 2 ∷ bring_update 0 2 ∷ []

abbrev pub four_calls : List Call
four_calls = until_held ++ both_brought

-- the Update to gateway 2 under way, of that round
abbrev held : ℕ → Carried
held tag = record { frame = update 0 2; tag = tag }

-- what is seen of a round: whether it is closed, how many messages it took, and whether gateways 1, 2 and 3 accepted its Update
abbrev RoundSeen : Type 0
RoundSeen = Bool × ℕ × List Bool

abbrev round_seen : World → ℕ → RoundSeen
round_seen w t = (w.rounds.closed t, w.rounds.took t, map (w.rounds.accepted t) (1 ∷ 2 ∷ 3 ∷ []))

-- what is under way, and both rounds
abbrev RoundsSeen : Type 0
RoundsSeen = List Carried × RoundSeen × RoundSeen

abbrev rounds_seen : World → RoundsSeen
rounds_seen w = (w.under_way, round_seen w 1, round_seen w 2)

-- a round that is closed and took 11 messages, completed where gateway 2 accepted the Update
abbrev closed_round : Bool → RoundSeen
closed_round accepted = (true, 11, true ∷ accepted ∷ true ∷ [])

-- Two gateways, each the other's supplier, with the last hour 10: 0 has a Failure at hour 5, and 1 has Failures at hours 2 and 8.
abbrev failure_at5 : Message
failure_at5 = message 0 0 5 (Failure 0)

abbrev failure_at2 : Message
failure_at2 = message 1 1 2 (Failure 1)

abbrev failure_at8 : Message
failure_at8 = message 1 1 8 (Failure 1)

-- gateway i's settings, with that supplier
abbrev opening_of : ℕ → ℕ → Opening
opening_of own supplier = record { n = 2; own = own; supplier = supplier; stock = 0; last = 10; q = 3; u = 2; hours = town_hours }

abbrev pub mutual_set_ups : ℕ → SetUpInput
mutual_set_ups zero = record { opening = opening_of 0 1; list = plain failure_at5 }
mutual_set_ups (suc i) = record { opening = opening_of 1 0; list = plain failure_at2 ++ plain failure_at8 }

abbrev pub mutual_memory : ℕ → List ℕ
mutual_memory i = replicate 512 0

-- the Requests of the Failures at hours 2 and 5
abbrev request_at3 : Message
request_at3 = message 1 0 3 (Request 1)

abbrev request_at6 : Message
request_at6 = message 0 1 6 (Request 0)

-- work at both, at gateway 1 with B = 1
abbrev mutual_work : List Call
mutual_work = works 0 9 example_output ∷ works 1 1 example_output ∷ []

-- calls that are refused then: a set up with a supplier that there is not, a start by another than 0, a commit with nothing to commit, a frame that
-- nobody wrote, and the Request at hour 3 with too little output for its acknowledgment and a cancel
abbrev bad_opening : Opening
bad_opening = opening_of 1 2

abbrev bad_set_up : Call
bad_set_up = sets_up 1 bad_opening []

abbrev start_by_another : Call
start_by_another = starts 1 example_output

abbrev nothing_to_commit : Call
nothing_to_commit = commits 0 example_output

abbrev no_frame : Call
no_frame = takes 1 (63 ∷ []) example_output

abbrev no_room : Call
no_room = takes 0 (plain request_at3) example_output

-- these, and work with B = 0
abbrev refused_calls : List Call
refused_calls = bad_set_up ∷ start_by_another ∷ nothing_to_commit ∷ no_frame ∷ no_room ∷ works 0 0 example_output ∷ []

-- the Request comes again, and the Failure at hour 5 is undone; the cancel of its Request is brought first, then that Request; then the
-- acknowledgments
abbrev mutual_frames : List Call
mutual_frames =
    takes 0 (plain request_at3) (replicate 56 0) ∷ takes 1 (cancel request_at6) example_output ∷ takes 1 (plain request_at6) example_output
    ∷ takes 1 (acknowledged request_at3) example_output ∷ takes 0 (cancel_acknowledged request_at6) example_output
    ∷ takes 0 (acknowledged request_at6) example_output ∷ []

abbrev pub mutual_calls : List Call
mutual_calls = mutual_work ++ (refused_calls ++ mutual_frames)

-- before the first call, and when both have worked
abbrev pub at_first : World
at_first = opening_world mutual_set_ups mutual_memory

abbrev pub both_worked : World
both_worked = after_calls 2 at_first mutual_work

-- what the refused calls answer in a world
abbrev pub numbers_in : World → List ℕ
numbers_in w =
    (set_up bad_opening [] (w.memories 1)).answer.number ∷ (started (w.memories 1) example_output).answer.number
    ∷ (committed (w.memories 0) example_output).answer.number ∷ (taken (w.memories 1) (63 ∷ []) example_output).answer.number
    ∷ (taken (w.memories 0) (plain request_at3) example_output).answer.number ∷ []

-- the call leaves that world as it was
abbrev Leaves : World → Call → Type 0
Leaves w c = after_call 2 w c ≡ w

-- what is seen of a world: what waits at 0 and at 1, and the frames under way
abbrev pub Waits : Type 0
Waits = List Message × List Message × List (List ℕ)

abbrev pub waits : World → Waits
waits w = (waiting (w.ledgers 0), waiting (w.ledgers 1), map (λ c. c.frame) w.under_way)

-- when both have worked
abbrev with_requests : Waits
with_requests = ([], failure_at8 ∷ [], plain request_at6 ∷ plain request_at3 ∷ [])

-- when the Request at hour 6 and its cancel have vanished
abbrev with_acknowledgments : List (List ℕ) → Waits
with_acknowledgments frames = (request_at3 ∷ failure_at5 ∷ [], failure_at8 ∷ [], frames)

-- at first and after each call
abbrev pub mutual_seen : List Waits
mutual_seen =
    (failure_at5 ∷ [], failure_at2 ∷ failure_at8 ∷ [], [])
    ∷ ([], failure_at2 ∷ failure_at8 ∷ [], plain request_at6 ∷ [])
    ∷ with_requests
    ∷ with_requests ∷ with_requests ∷ with_requests ∷ with_requests ∷ with_requests ∷ with_requests
    ∷ (request_at3 ∷ failure_at5 ∷ [], failure_at8 ∷ [], plain request_at6 ∷ acknowledged request_at3 ∷ cancel request_at6 ∷ [])
    ∷ (request_at3 ∷ failure_at5 ∷ [], failure_at8 ∷ request_at6 ∷ [], plain request_at6 ∷ acknowledged request_at3 ∷ cancel_acknowledged request_at6 ∷ [])
    ∷ with_acknowledgments (acknowledged request_at3 ∷ cancel_acknowledged request_at6 ∷ acknowledged request_at6 ∷ [])
    ∷ with_acknowledgments (cancel_acknowledged request_at6 ∷ acknowledged request_at6 ∷ [])
    ∷ with_acknowledgments (acknowledged request_at6 ∷ [])
    ∷ with_acknowledgments []
    ∷ []

pub record RunExamples : Type 0 where
  -- four gateways: nothing is under way at the end, and both rounds are completed with 11 messages
  pub four : WholeRun 4 10 four_set_ups example_memory four_calls (λ i. []) 11
  pub second : Completed 4 (world_at_end 4 10 four_set_ups example_memory four_calls).rounds 2
  -- both Updates to gateway 2 are under way, and equal; brought once, the oldest counts, that of round 1; then that of round 2
  pub oldest_first : seen_along rounds_seen 4 (world_at_end 4 10 four_set_ups example_memory until_held) both_brought
      ≡ (held 1 ∷ held 2 ∷ [], closed_round false, closed_round false)
      ∷ (held 2 ∷ [], closed_round true, closed_round false)
      ∷ ([], closed_round true, closed_round true)
      ∷ []
  -- two gateways: it is a forecast, every call may stand in the list, and after each this is seen
  pub forecast : Forecast 2 10 mutual_set_ups mutual_memory
  pub allowed : AllAllowed 2 at_first mutual_calls
  pub after_each : seen_along waits 2 at_first mutual_calls ≡ mutual_seen
  -- what is refused answers its number and leaves the world as it was
  pub numbers : numbers_in both_worked ≡ 8 ∷ 4 ∷ 6 ∷ 11 ∷ 5 ∷ []
  pub unchanged : Leaves both_worked bad_set_up × Leaves both_worked start_by_another × Leaves both_worked nothing_to_commit × Leaves both_worked no_frame
      × Leaves both_worked no_room
