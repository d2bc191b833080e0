-- The starred examples of document 01, as one table, in its order.
use Rattle.std.specs.Prelude.{◌≡◌, ℕ, true, false, cond, ◌&&◌, List, [], ◌∷◌, ◌++◌, leb, replicate}
use Rattle.lists.specs.Lists.{every}
use Rattle.lists.specs.Families.{together}
use Rattle.routing.specs.Arcs.{figure2, from, to, mid0, mid1, arcs, round_messages}
use Rattle.routing.specs.Answers.{neighbours_of, totals_of}
use Rattle.refusal.specs.Numbers.{number_in}
use Rattle.model.specs.declared.LeadTimes.{LeadTimes}
use Rattle.model.specs.declared.Message.{Message}
use Rattle.model.specs.declared.Kind.TheVariants.{Failure, Request}
use Rattle.frame.specs.Writing.{written}
use Rattle.memory.specs.Records.{Gateway}
use Rattle.memory.specs.Validity.{no_state, frame_if, valid}
use Rattle.memory.specs.declared.Entry.{Entry}
use Rattle.memory.specs.declared.Sent.{Sent}
use Rattle.memory.specs.declared.Mark.TheVariants.{Processed}
use Rattle.gateway.specs.Effects.{Outcome}
use Rattle.gateway.specs.Undoing.{pending_entry}
use Rattle.gateway.specs.Rounds.{idle, start}
use Rattle.gateway.specs.Committing.{commit}
use Rattle.gateway.specs.Calls.{take_bytes, set_up}
use Rattle.gateway.specs.declared.Opening.{Opening}

-- the gateways that are in both trees: the first has those up to mid0, the second those from mid1 on
abbrev in_both_trees : ℕ → List ℕ
in_both_trees N = together N (λ (i : ℕ). cond (leb i (mid0 N) && leb (mid1 N) i) (i ∷ []) [])

-- document 01's request, delivery and life hours, which suit a town
abbrev pub town_hours : LeadTimes
town_hours = record { request = 1; delivery = 24; life = 43800 }

-- set up told N = 0, with the other settings as given
abbrev no_gateways : Opening → Opening
no_gateways o = record { n = 0; own = o.own; supplier = o.supplier; stock = o.stock; last = o.last; q = o.q; u = o.u; hours = o.hours }

-- lamps alike in sixteen characters: L and fifteen zeros, then one character twice
abbrev pub lamp_with : ℕ → List ℕ
lamp_with character = 76 ∷ (replicate 15 48 ++ (character ∷ character ∷ []))

-- a Failure of that lamp at that gateway and hour
abbrev pub failure : ℕ → ℕ → ℕ → Message
failure own hour character = record { hour = hour; from = own; to = own; kind = Failure own; lamp = lamp_with character }

-- a Request from that gateway to another, of that origin and lamp, at that hour
abbrev pub request : (from to hour origin character : ℕ) → Message
request from to hour origin character = record { hour = hour; from = from; to = to; kind = Request origin; lamp = lamp_with character }

-- one of two gateways, with its agreed time and what is queued and outstanding
abbrev pub among_two : ℕ → ℕ → List Entry → List Sent → Gateway
among_two own agreed queue outstanding = record {
  settings = record { n = 2; own = own; supplier = 0; last = 100; q = 4; u = 4; hours = town_hours };
  state = no_state;
  agreed = agreed;
  round = idle;
  queue = queue;
  outstanding = outstanding;
}

-- gateway 0 with a Failure due at 7; gateway 1 with one due at 9, and with or without an unacknowledged Request at 5
abbrev due7 : Gateway
due7 = among_two 0 0 (pending_entry (failure 0 7 49) ∷ []) []

abbrev due9 : Gateway
due9 = among_two 1 0 (pending_entry (failure 1 9 50) ∷ []) []

abbrev due9sent5 : Gateway
due9sent5 = among_two 1 0 (pending_entry (failure 1 9 50) ∷ [])
    (record { message = request 1 0 5 1 50; cancel = false } ∷ [])

-- a round of two gateways, each frame taken as it was written: 0 starts, 1 answers the Start with its Lvt, 0 closes the round,
-- 1 takes the Update. What the close comes to at 0, and what the Update comes to at 1
unfoldable pub round_of_two : Gateway → Gateway → Outcome × Outcome
round_of_two g h =
    let started = start 100 g in
    let answered = take_bytes started.output 100 h in
    let closed = take_bytes answered.output 100 started.gateway in
    (closed, take_bytes closed.output 100 answered.gateway)

-- both were accepted, and left both gateways with that agreed time
abbrev Agreed : Outcome × Outcome → ℕ → Type 0
Agreed (closed, updated) hour =
    (closed.number ≡ 0) × (closed.gateway.agreed ≡ hour) × (updated.number ≡ 0) × (updated.gateway.agreed ≡ hour)

-- a processed Failure at that hour, the agreed time 12
abbrev processed_at : ℕ → Entry
processed_at hour = record { message = failure 0 hour 49; mark = Processed; before = no_state }

abbrev pub agreed12 : ℕ → Gateway
agreed12 hour = among_two 0 12 (processed_at hour ∷ []) []

-- the record of the event at 11: the frame's map, kind, from, to, hour, origin and lamp, then stock, failed, fitted and short
abbrev record_at11 : List ℕ
record_at11 =
    63 ∷ 0 ∷ 0 ∷ 0 ∷ 0 ∷ 0 ∷ 0 ∷ 11 ∷ 0
    ∷ 76 ∷ 48 ∷ 48 ∷ 48 ∷ 48 ∷ 48 ∷ 48 ∷ 48 ∷ 48 ∷ 48 ∷ 48 ∷ 48 ∷ 48 ∷ 48 ∷ 48 ∷ 48 ∷ 49 ∷ 49
    ∷ 0 ∷ 0 ∷ 0 ∷ 0 ∷ 0 ∷ 0 ∷ 0 ∷ 1 ∷ 0 ∷ 0 ∷ 0 ∷ 0 ∷ 0 ∷ 0 ∷ 0 ∷ 0 ∷ []

-- two Failures, of lamps alike in sixteen characters
abbrev alike : Gateway
alike = among_two 0 0 (pending_entry (failure 0 7 49) ∷ pending_entry (failure 0 7 50) ∷ []) []

pub record Starred : Type 0 where
  -- N = 1: no arcs, 0 round messages. N = 2: 0 to 1, 3 messages
  pub one : (arcs 1 ≡ []) × (round_messages 1 ≡ 0)
  pub two : (arcs 2 ≡ (0, 1) ∷ []) × (round_messages 2 ≡ 3)
  -- N = 4: 0 to 1, 0 to 2, 1 to 3, 2 to 3; 11 messages
  pub four : (arcs 4 ≡ (0, 1) ∷ (0, 2) ∷ (1, 3) ∷ (2, 3) ∷ []) × (round_messages 4 ≡ 11)
  -- N = 10 shares its row: gateway 3 hears 1, tells 7
  pub ten : ((figure2 10 3).row.shared ≡ true) × (from 10 3 ≡ 1 ∷ []) × (to 10 3 ≡ 7 ∷ [])
  -- N = 11: gateway 3 tells 7, not shared; only 5 is in both trees
  pub eleven : ((figure2 11 3).row.shared ≡ false) × (to 11 3 ≡ 7 ∷ []) × (in_both_trees 11 ≡ 5 ∷ [])
  -- N = 0 gives 8: in routing, and at set up, whatever the other settings, the opening list and the memory
  pub zero : (number_in (neighbours_of 0 0) ≡ 8) × (number_in (totals_of 0) ≡ 8)
  pub zero_set_up : (o : Opening) (list memory : List ℕ) → (set_up (no_gateways o) list memory).answer.number ≡ 8
  -- N = 2, least due hours 7 and 9, an unacknowledged 5 sent by 1: agreed time 5. Without it: 7
  pub unacknowledged : Agreed (round_of_two due7 due9sent5) 5
  pub acknowledged : Agreed (round_of_two due7 due9) 7
  -- agreed time 12: a processed event at 11 commits, at 12 gives 6
  pub below : commit 100 (agreed12 11) ≡ record { number = 0; gateway = among_two 0 12 [] []; output = record_at11 }
  pub at_agreed : (commit 100 (agreed12 12)).number ≡ 6
  -- lamps alike in sixteen characters, cancel for the second: the first stays
  pub second : ((take_bytes (written (frame_if true (failure 0 7 50))) 100 alike).number ≡ 0)
      × ((take_bytes (written (frame_if true (failure 0 7 50))) 100 alike).gateway.queue ≡ pending_entry (failure 0 7 49) ∷ [])
  -- and these gateways are valid
  pub proper : every valid (due7 ∷ due9 ∷ due9sent5 ∷ agreed12 11 ∷ agreed12 12 ∷ alike ∷ []) ≡ true
