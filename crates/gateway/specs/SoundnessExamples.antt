-- Examples of memory that is not sound, as one table, in the order of row 10 of document 01: what a call answers to it, and to the memory
-- most like it that is sound.
use Rattle.std.specs.Prelude.{◌≡◌, ℕ, true, false, List, [], ◌∷◌, ◌++◌, take, replicate}
use Rattle.buffer.specs.Slice.{write}
use Rattle.model.specs.Doing.{opening_state}
use Rattle.model.specs.declared.Kind.{Kind}
use Rattle.model.specs.declared.Kind.TheVariants.{Failure, Delivery, Restock, Start, Lvt}
use Rattle.model.specs.declared.LeadTimes.{LeadTimes}
use Rattle.model.specs.declared.Message.{Message}
use Rattle.model.specs.declared.State.{State}
use Rattle.memory.specs.Layout.{size_for}
use Rattle.memory.specs.Codec.{encode}
use Rattle.memory.specs.Records.{Gateway}
use Rattle.memory.specs.Validity.{no_state, valid}
use Rattle.memory.specs.declared.Entry.{Entry}
use Rattle.memory.specs.declared.Sent.{Sent}
use Rattle.memory.specs.declared.Settings.{Settings}
use Rattle.memory.specs.declared.Round.{Round}
use Rattle.memory.specs.declared.Phase.{Phase}
use Rattle.memory.specs.declared.Phase.TheVariants.{Idle, Counting, Stopped}
use Rattle.memory.specs.declared.Mark.{Mark}
use Rattle.memory.specs.declared.Mark.TheVariants.{Pending, Processed, Waiting}
use Rattle.gateway.specs.Undoing.{pending_entry}
use Rattle.gateway.specs.Taking.{waiting_entry}
use Rattle.gateway.specs.Rounds.{frame_in_round, idle}
use Rattle.gateway.specs.Calls.{agreed_time}
use Rattle.gateway.specs.Examples.{town_hours, lamp_with, failure, request}
use Rattle.gateway.specs.StockExamples.{restock}

-- what a call answers to memory: 0, or 10
abbrev answer_to : List ℕ → ℕ
answer_to memory = (agreed_time memory).number

-- a gateway of these settings, where it stands in a round, and what is queued and outstanding
abbrev gateway : Settings → Round → List Entry → List Sent → Gateway
gateway settings round queue outstanding = record {
  settings = settings;
  state = no_state;
  agreed = 12;
  round = round;
  queue = queue;
  outstanding = outstanding;
}

-- its memory, so many bytes
abbrev memory_of : ℕ → Gateway → List ℕ
memory_of size g = encode g (replicate size 0)

-- Settings: what is answered to memory with them, just long enough, and with nothing in it.
abbrev settings_with : (n own supplier last q u : ℕ) → LeadTimes → Settings
settings_with n own supplier last q u hours = record { n = n; own = own; supplier = supplier; last = last; q = q; u = u; hours = hours }

abbrev with_settings : (n own supplier last q u : ℕ) → LeadTimes → ℕ
with_settings n own supplier last q u hours = answer_to (memory_of (size_for q u) (gateway (settings_with n own supplier last q u hours) idle [] []))

-- request, delivery and life hours
abbrev hours : (request delivery life : ℕ) → LeadTimes
hours request delivery life = record { request = request; delivery = delivery; life = life }

-- a gateway's number among so many, its supplier gateway 0, H = 100, so many queue places and outstanding ones
abbrev among : (n own q u : ℕ) → Settings
among n own q u = settings_with n own 0 100 q u town_hours

-- Arrivals: the memory of gateway own of n in that phase, and what is answered to it
abbrev in_round : (n own : ℕ) → Phase → ℕ → List ℕ
in_round n own phase arrived = memory_of 352 (gateway (among n own 1 1) (record { phase = phase; arrived = arrived; note = 0 }) [] [])

abbrev with_arrivals : (n own : ℕ) → Phase → ℕ → ℕ
with_arrivals n own phase arrived = answer_to (in_round n own phase arrived)

-- Messages: the memory of gateway 0 of two with these in its two queue places, and what is answered to it
abbrev holding : List Entry → List ℕ
holding queue = memory_of 416 (gateway (among 2 0 2 1) idle queue [])

abbrev with_queued : List Entry → ℕ
with_queued queue = answer_to (holding queue)

-- with one pending message, and with one that was sent and is outstanding
abbrev queued_one : Message → ℕ
queued_one m = with_queued (pending_entry m ∷ [])

abbrev awaiting : Message → List ℕ
awaiting m = memory_of 352 (gateway (among 2 0 1 1) idle [] (record { message = m; cancel = false } ∷ []))

abbrev sent_one : Message → ℕ
sent_one m = answer_to (awaiting m)

-- a message of that mark with that state saved
abbrev marked : Mark → State → Message → Entry
marked mark before m = record { message = m; mark = mark; before = before }

abbrev processed : Message → Entry
processed m = marked Processed no_state m

-- a message of any kind from a gateway to another, of that lamp, at hour 7
abbrev message : Kind → (from to : ℕ) → List ℕ → Message
message kind from to lamp = record { hour = 7; from = from; to = to; kind = kind; lamp = lamp }

-- a Failure whose lamp ends with that byte
abbrev ending : ℕ → Message
ending byte = message (Failure 0) 0 0 (replicate 17 48 ++ (byte ∷ []))

-- two Failures that are pending, a Request and a cancel that were sent, and memory with one Failure, and with one Request outstanding
abbrev two_failures : List Entry
two_failures = pending_entry (failure 0 7 49) ∷ pending_entry (failure 0 8 49) ∷ []

abbrev two_requests : List Sent
two_requests = record { message = request 0 1 7 0 49; cancel = false } ∷ record { message = request 0 1 8 0 49; cancel = true } ∷ []

abbrev one_failure : List ℕ
one_failure = holding (pending_entry (failure 0 7 49) ∷ [])

abbrev one_request : List ℕ
one_request = awaiting (request 0 1 7 0 49)

pub record SoundnessExamples : Type 0 where
  -- shorter than a header; a byte too short for its settings
  pub no_header : answer_to (take 255 (holding [])) ≡ 10
  pub too_short : (answer_to (take 415 (holding [])) ≡ 10) × (answer_to (holding []) ≡ 0)
  -- settings: N = 0; own number N; supplier N; H nothing due
  pub no_gateways : (with_settings 0 0 0 100 1 1 town_hours ≡ 10) × (with_settings 1 0 0 100 1 1 town_hours ≡ 0)
  pub own_number : (with_settings 2 2 0 100 1 1 town_hours ≡ 10) × (with_settings 2 1 0 100 1 1 town_hours ≡ 0)
  pub supplier : (with_settings 2 0 2 100 1 1 town_hours ≡ 10) × (with_settings 2 0 1 100 1 1 town_hours ≡ 0)
  pub last_hour : (with_settings 2 0 0 4294967295 1 1 town_hours ≡ 10) × (with_settings 2 0 0 4294967294 1 1 town_hours ≡ 0)
  -- no queue place, no outstanding place; 513 of either, of which the gateway alone is looked at
  pub no_place : (with_settings 2 0 0 100 0 1 town_hours ≡ 10) × (with_settings 2 0 0 100 1 0 town_hours ≡ 10) × (with_settings 2 0 0 100 1 1 town_hours ≡ 0)
  pub many_places : (valid (gateway (among 2 0 513 512) idle [] []) ≡ false) × (valid (gateway (among 2 0 512 513) idle [] []) ≡ false)
      × (valid (gateway (among 2 0 512 512) idle [] []) ≡ true)
  -- hours of 0, and one more than a million
  pub no_hours : (with_settings 2 0 0 100 1 1 (hours 0 1 1) ≡ 10) × (with_settings 2 0 0 100 1 1 (hours 1 1 1) ≡ 0)
  pub long_hours : (with_settings 2 0 0 100 1 1 (hours 1 1 1000001) ≡ 10) × (with_settings 2 0 0 100 1 1 (hours 1 1 1000000) ≡ 0)
  -- counts: more queued, or more outstanding, than there are places, in memory that has room for it
  pub queued_count : (answer_to (memory_of 416 (gateway (among 2 0 1 1) idle two_failures [])) ≡ 10)
      × (answer_to (memory_of 416 (gateway (among 2 0 2 1) idle two_failures [])) ≡ 0)
  pub sent_count : (answer_to (memory_of 384 (gateway (among 2 0 1 1) idle [] two_requests)) ≡ 10)
      × (answer_to (memory_of 384 (gateway (among 2 0 1 2) idle [] two_requests)) ≡ 0)
  -- a phase that there is not, in byte 3
  pub phase : (answer_to (write 3 (3 ∷ []) (in_round 4 0 Stopped 1)) ≡ 10) × (answer_to (write 3 (2 ∷ []) (in_round 4 0 Stopped 1)) ≡ 0)
  -- arrivals. Idle: the Start of a gateway that hears one; both of one that hears two
  pub only_start : (with_arrivals 4 1 Idle 1 ≡ 10) × (with_arrivals 4 1 Idle 0 ≡ 0)
  pub both_starts : (with_arrivals 4 3 Idle 3 ≡ 10) × (with_arrivals 4 3 Idle 2 ≡ 0) × (with_arrivals 4 3 Idle 1 ≡ 0)
  -- counting: an Lvt has come; the last gateway, which tells none, never counts
  pub counting_arrival : (with_arrivals 4 0 Counting 1 ≡ 10) × (with_arrivals 4 0 Counting 0 ≡ 0)
  pub last_counting : (with_arrivals 4 3 Counting 0 ≡ 10) × (with_arrivals 4 3 Idle 0 ≡ 0)
  -- stopped: no Lvt has come, or both have; a gateway that tells one never waits when it has stopped
  pub stopped_arrival : (with_arrivals 4 0 Stopped 0 ≡ 10) × (with_arrivals 4 0 Stopped 3 ≡ 10) × (with_arrivals 4 0 Stopped 1 ≡ 0)
  pub one_to_stopped : (with_arrivals 4 1 Stopped 1 ≡ 10) × (with_arrivals 4 1 Counting 0 ≡ 0)
  -- the queue not in order: by the hour; by the last byte of the lamp alone
  pub hour_order : (with_queued (pending_entry (failure 0 8 49) ∷ pending_entry (failure 0 7 49) ∷ []) ≡ 10)
      × (with_queued (pending_entry (failure 0 7 49) ∷ pending_entry (failure 0 8 49) ∷ []) ≡ 0)
  pub lamp_order : (with_queued (pending_entry (ending 49) ∷ pending_entry (ending 48) ∷ []) ≡ 10)
      × (with_queued (pending_entry (ending 48) ∷ pending_entry (ending 49) ∷ []) ≡ 0)
  -- a processed message behind a pending one; before it, and behind a waiting cancel, it may stand
  pub processed_behind : (with_queued (pending_entry (failure 0 7 49) ∷ processed (failure 0 8 49) ∷ []) ≡ 10)
      × (with_queued (processed (failure 0 7 49) ∷ pending_entry (failure 0 8 49) ∷ []) ≡ 0)
      × (with_queued (waiting_entry (failure 0 7 49) ∷ processed (failure 0 8 49) ∷ []) ≡ 0)
  -- a waiting cancel beside its equal plain message, either way round, pending or processed; beside another, or another cancel, it may stand
  pub cancel_before : (with_queued (waiting_entry (failure 0 7 49) ∷ pending_entry (failure 0 7 49) ∷ []) ≡ 10)
      × (with_queued (waiting_entry (failure 0 7 49) ∷ processed (failure 0 7 49) ∷ []) ≡ 10)
      × (with_queued (waiting_entry (failure 0 7 49) ∷ waiting_entry (failure 0 7 49) ∷ []) ≡ 0)
  pub cancel_behind : (with_queued (pending_entry (failure 0 7 49) ∷ waiting_entry (failure 0 7 49) ∷ []) ≡ 10)
      × (with_queued (processed (failure 0 7 49) ∷ waiting_entry (failure 0 7 49) ∷ []) ≡ 10)
      × (with_queued (pending_entry (failure 0 7 49) ∷ waiting_entry (failure 0 7 50) ∷ []) ≡ 0)
  -- a message whose gateways disagree: a Failure of another's lamp, or from another; a Delivery to another than its origin
  pub failure_form : (queued_one (message (Failure 1) 0 0 (lamp_with 49)) ≡ 10) × (queued_one (message (Failure 0) 1 0 (lamp_with 49)) ≡ 10)
      × (queued_one (message (Failure 0) 0 0 (lamp_with 49)) ≡ 0)
  pub delivery_form : (queued_one (message (Delivery 1) 1 0 (lamp_with 49)) ≡ 10) × (queued_one (message (Delivery 0) 1 0 (lamp_with 49)) ≡ 0)
  -- a Restock from another, with a lamp, or cancelled
  pub restock_form : (queued_one (message (Restock 5) 1 0 (replicate 18 0)) ≡ 10) × (queued_one (message (Restock 5) 0 0 (lamp_with 49)) ≡ 10)
      × (with_queued (waiting_entry (restock 7 5) ∷ []) ≡ 10) × (queued_one (restock 7 5) ≡ 0)
  -- a lamp's byte below 33, and above 126
  pub lamp_byte : (queued_one (ending 32) ≡ 10) × (queued_one (ending 33) ≡ 0) × (queued_one (ending 127) ≡ 10) × (queued_one (ending 126) ≡ 0)
  -- a Start and an Lvt are never stored, a Restock is never sent
  pub stored_start : queued_one (frame_in_round Start 0 1 0).message ≡ 10
  pub stored_lvt : queued_one (frame_in_round Lvt 7 1 0).message ≡ 10
  pub sent_restock : (sent_one (restock 7 5) ≡ 10) × (sent_one (request 0 1 7 0 49) ≡ 0)
  -- a byte that is no mark, and bytes between and behind the fields that are not zero: in a queue place, in an outstanding place
  pub queued_mark : (answer_to (write 256 (3 ∷ []) one_failure) ≡ 10) × (answer_to (write 256 (2 ∷ []) one_failure) ≡ 0)
  pub queued_stray : (answer_to (write 265 (1 ∷ []) one_failure) ≡ 10) × (answer_to (write 319 (1 ∷ []) one_failure) ≡ 10) × (answer_to one_failure ≡ 0)
  pub sent_mark : (answer_to (write 320 (2 ∷ []) one_request) ≡ 10) × (answer_to (write 320 (1 ∷ []) one_request) ≡ 0)
  pub sent_stray : (answer_to (write 329 (1 ∷ []) one_request) ≡ 10) × (answer_to (write 351 (1 ∷ []) one_request) ≡ 10) × (answer_to one_request ≡ 0)
  -- numbers: from N, origin N; a queued message to another gateway, an outstanding one from another or to N
  pub from_number : (queued_one (request 2 0 7 0 49) ≡ 10) × (queued_one (request 1 0 7 0 49) ≡ 0)
  pub origin_number : (queued_one (request 1 0 7 2 49) ≡ 10) × (queued_one (request 1 0 7 1 49) ≡ 0)
  pub queued_elsewhere : (queued_one (request 0 1 7 0 49) ≡ 10) × (queued_one (request 0 0 7 0 49) ≡ 0)
  pub sent_elsewhere : (sent_one (request 1 0 7 0 49) ≡ 10) × (sent_one (request 0 2 7 0 49) ≡ 10) × (sent_one (request 0 1 7 0 49) ≡ 0)
  -- an hour past H, queued and outstanding
  pub queued_hour : (queued_one (failure 0 101 49) ≡ 10) × (queued_one (failure 0 100 49) ≡ 0)
  pub sent_hour : (sent_one (request 0 1 101 0 49) ≡ 10) × (sent_one (request 0 1 100 0 49) ≡ 0)
  -- a state saved beside a pending message, and beside a waiting cancel; beside a processed one it may stand
  pub saved_state : (with_queued (marked Pending (opening_state 1) (failure 0 7 49) ∷ []) ≡ 10)
      × (with_queued (marked Waiting (opening_state 1) (failure 0 7 49) ∷ []) ≡ 10)
      × (with_queued (marked Processed (opening_state 1) (failure 0 7 49) ∷ []) ≡ 0)
