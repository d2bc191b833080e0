-- Examples of taking, as one table: the order in which a call looks for its refusals, messages that differ in one gateway alone, and undoing two
-- events that both had sent.
use Rattle.std.specs.Prelude.{◌≡◌, ℕ, true, false, List, [], ◌∷◌, ◌++◌, take, replicate}
use Rattle.lists.specs.Lists.{every}
use Rattle.model.specs.EventOrder.{key, compared}
use Rattle.model.specs.declared.Kind.{Kind}
use Rattle.model.specs.declared.Kind.TheVariants.{Failure, Request, Delivery, Start, Lvt, Update}
use Rattle.model.specs.declared.Message.{Message}
use Rattle.model.specs.declared.State.{State}
use Rattle.std.specs.declared.cmp.Ordering.TheVariants.{Less}
use Rattle.frame.specs.Writing.{written}
use Rattle.frame.specs.declared.Frame.{Frame}
use Rattle.memory.specs.Records.{Gateway}
use Rattle.memory.specs.Codec.{encode}
use Rattle.memory.specs.Validity.{no_state, frame_if, valid}
use Rattle.memory.specs.declared.Entry.{Entry}
use Rattle.memory.specs.declared.Sent.{Sent}
use Rattle.memory.specs.declared.Mark.TheVariants.{Processed}
use Rattle.memory.specs.declared.Phase.{Phase}
use Rattle.memory.specs.declared.Phase.TheVariants.{Idle, Counting, Stopped}
use Rattle.gateway.specs.Effects.{Outcome, bytes_of_frames, refused, with_state, with_round}
use Rattle.gateway.specs.Undoing.{pending_entry}
use Rattle.gateway.specs.Taking.{acknowledgment, waiting_entry}
use Rattle.gateway.specs.Working.{worked}
use Rattle.gateway.specs.Committing.{commit}
use Rattle.gateway.specs.Rounds.{frame_in_round, start}
use Rattle.gateway.specs.Calls.{refused_with, take_bytes, taken, started, committed, worked_off}
use Rattle.gateway.specs.Examples.{town_hours, lamp_with, failure, request, among_two, agreed12}

-- what taking a frame comes to, with so many bytes for output
abbrev taking : Frame → ℕ → Gateway → Outcome
taking frame room g = take_bytes (written frame) room g

-- a message that was sent, and a cancel
abbrev sent_message : Message → Sent
sent_message m = record { message = m; cancel = false }

abbrev sent_cancel : Message → Sent
sent_cancel m = record { message = m; cancel = true }

-- gateway 0 of two at agreed time 12: with nothing queued and no round open; in an open round, with that note and state; and with nothing queued then
abbrev between_rounds : Gateway
between_rounds = among_two 0 12 [] []

abbrev counting : ℕ → State → List Entry → List Sent → Gateway
counting note state queue outstanding = with_round (record { phase = Counting; arrived = 0; note = note }) (with_state state (among_two 0 12 queue outstanding))

abbrev in_round : Gateway
in_round = counting 50 no_state [] []

-- what it answers to a plain Request of that sender and hour, to its cancel, and to an acknowledgment of a Request of its own of that hour
abbrev to_request : (from hour room : ℕ) → ℕ
to_request from hour room = (taking (frame_if false (request from 0 hour 1 49)) room between_rounds).number

abbrev to_cancel : (hour room : ℕ) → ℕ
to_cancel hour room = (taking (frame_if true (request 1 0 hour 1 49)) room between_rounds).number

abbrev to_acknowledgment : (hour : ℕ) → List Sent → ℕ
to_acknowledgment hour outstanding = (taking (acknowledgment false (request 0 1 hour 0 49)) 0 (among_two 0 12 [] outstanding)).number

-- what it answers to an Lvt of gateway 1 at that hour
abbrev to_lvt : (hour room : ℕ) → Gateway → ℕ
to_lvt hour room g = (taking (frame_in_round Lvt hour 1 0) room g).number

-- what gateway own of four answers to a frame of the round from another, in that phase with those arrivals
abbrev among_four : Kind → (hour sender own : ℕ) → Phase → ℕ → ℕ
among_four kind hour sender own phase arrived =
    (taking (frame_in_round kind hour sender own) 100
    (record {
      settings = record { n = 4; own = own; supplier = 0; last = 100; q = 1; u = 1; hours = town_hours };
      state = no_state;
      agreed = 12;
      round = record { phase = phase; arrived = arrived; note = 50 };
      queue = [];
      outstanding = [];
    })
    ).number

-- from 0 to a gateway that there is not, past H: a Request, and a Failure, whose gateways then disagree
abbrev nowhere : Kind → Frame
nowhere kind = frame_if false (record { hour = 101; from = 0; to = 2; kind = kind; lamp = lamp_with 49 })

-- Requests that differ in from alone, and in to alone
abbrev sent_from : ℕ → Message
sent_from sender = request sender 0 20 0 49

abbrev sent_to : ℕ → Message
sent_to receiver = request 0 receiver 20 0 49

abbrev both_sent : List Sent
both_sent = sent_message (sent_to 0) ∷ sent_message (sent_to 1) ∷ []

-- Two events that are processed: a Failure at 20, which sent a Request to the supplier, gateway 0 itself; and a Request at 30 that found stock,
-- which sent a Delivery. What they sent is outstanding.
abbrev failed : Message
failed = failure 0 20 49

abbrev asked : Message
asked = request 1 0 30 1 50

abbrev to_supplier : Message
to_supplier = request 0 0 21 0 49

abbrev to_origin : Message
to_origin = record { hour = 54; from = 0; to = 1; kind = Delivery 1; lamp = lamp_with 50 }

-- a state with that stock and so many failed, an event done from it, and the gateway after both
abbrev stock_and_failed : (stock failed : ℕ) → State
stock_and_failed stock failed = record { stock = stock; failed = failed; fitted = 0; short = 0 }

abbrev done : State → Message → Entry
done before m = record { message = m; mark = Processed; before = before }

abbrev both_done : Gateway
both_done =
    counting 50 (stock_and_failed 0 1) (done (stock_and_failed 1 0) failed ∷ done (stock_and_failed 1 1) asked ∷ [])
    (sent_message to_supplier ∷ sent_message to_origin ∷ [])

-- a Request that comes late, at that hour
abbrev late : ℕ → Message
late hour = request 1 0 hour 1 51

-- the memory of gateway 0 between rounds
abbrev memory : List ℕ
memory = encode between_rounds (replicate 640 0)

-- an output of so many bytes, each 9
abbrev room : ℕ → List ℕ
room n = replicate n 9

pub record TakingExamples : Type 0 where
  -- 10 first of all: there is no memory, no frame and no room
  pub unsound : ((started [] []).answer.number ≡ 10) × ((committed [] []).answer.number ≡ 10) × ((worked_off 1 [] []).answer.why ≡ 10)
  -- 11, for a byte too many, and 1, for gateways that disagree, before 2, for a gateway number of N, before 3, for an hour past H
  pub length_first : (take_bytes (written (nowhere (Request 0)) ++ (0 ∷ [])) 100 between_rounds).number ≡ 11
  pub form_first : ((taking (nowhere (Failure 0)) 100 between_rounds).number ≡ 1) × ((taking (nowhere (Request 0)) 100 between_rounds).number ≡ 2)
  pub number_first : (to_request 2 101 100 ≡ 2) × (to_request 1 101 100 ≡ 3)
  -- 3 before 9: the agreed time is nothing due, so that all that is not past H is below it
  pub hour_first : ((taking (frame_if false (request 1 0 101 1 49)) 100 (among_two 0 4294967295 [] [])).number ≡ 3)
      × ((taking (frame_if false (request 1 0 100 1 49)) 100 (among_two 0 4294967295 [] [])).number ≡ 9)
  -- 9 before 4: no round is open. In an open one an Lvt of 12 is in turn
  pub below_first : (to_lvt 11 100 between_rounds ≡ 9) × (to_lvt 12 100 between_rounds ≡ 4) × (to_lvt 11 100 in_round ≡ 9) × (to_lvt 12 100 in_round ≡ 0)
  -- 9 before 5, for a plain message and for a cancel: the acknowledgment takes 28 bytes
  pub below_before_room : (to_request 1 11 0 ≡ 9) × (to_request 1 12 0 ≡ 5) × (to_request 1 12 27 ≡ 5) × (to_request 1 12 28 ≡ 0)
  pub cancel_below : (to_cancel 11 0 ≡ 9) × (to_cancel 12 0 ≡ 5) × (to_cancel 12 27 ≡ 5) × (to_cancel 12 28 ≡ 0)
  -- 4 before 5: a Start to gateway 0, and an Lvt where none is awaited; awaited, its Update takes 8 bytes. The start call in an open round
  pub turn_first : ((taking (frame_in_round Start 0 1 0) 0 between_rounds).number ≡ 4) × (to_lvt 12 0 between_rounds ≡ 4)
      × (to_lvt 12 0 in_round ≡ 5) × (to_lvt 12 8 in_round ≡ 0)
  pub start_first : ((start 0 in_round).number ≡ 4) × ((start 0 between_rounds).number ≡ 5) × ((start 4 between_rounds).number ≡ 0)
  -- 4: a Start twice, an Lvt twice; the other's is in turn
  pub start_twice : (among_four Start 0 2 3 Idle 1 ≡ 4) × (among_four Start 0 1 3 Idle 1 ≡ 0)
  pub lvt_twice : (among_four Lvt 20 1 0 Stopped 1 ≡ 4) × (among_four Lvt 20 2 0 Stopped 1 ≡ 0)
  -- in the wrong half: a Start where it counts, an Lvt where it does not
  pub wrong_half : (among_four Start 0 0 1 Counting 0 ≡ 4) × (among_four Start 0 0 1 Idle 0 ≡ 0) × (among_four Lvt 20 3 1 Idle 0 ≡ 4)
      × (among_four Lvt 20 3 1 Counting 0 ≡ 0)
  -- not from its arc: 3 hears 1 and 2, 0 tells 1 and 2; and an Update from another than the parent, which at 3 is 1
  pub not_from_its_arc : (among_four Start 0 0 3 Idle 0 ≡ 4) × (among_four Lvt 20 3 0 Counting 0 ≡ 4)
  pub not_from_the_parent : (among_four Update 20 2 3 Idle 0 ≡ 4) × (among_four Update 20 1 3 Idle 0 ≡ 0) × (among_four Update 20 1 0 Idle 0 ≡ 4)
  -- 3 before 7; an acknowledgment is never below the agreed time, and needs no room
  pub acknowledgment_hour : (to_acknowledgment 101 [] ≡ 3) × (to_acknowledgment 11 [] ≡ 7)
      × (to_acknowledgment 11 (sent_message (request 0 1 11 0 49) ∷ []) ≡ 0)
  -- an Update is never below it either: the larger time is kept
  pub late_update : taking (frame_in_round Update 11 0 1) 0 (among_two 1 12 [] []) ≡ record { number = 0; gateway = among_two 1 12 [] []; output = [] }
  -- 6 before 5: the record of a Failure takes 43 bytes, the Request that it sends 27
  pub nothing_to_commit : ((commit 0 (agreed12 12)).number ≡ 6) × ((commit 0 (agreed12 11)).number ≡ 5) × ((commit 42 (agreed12 11)).number ≡ 5)
      × ((commit 43 (agreed12 11)).number ≡ 0)
  pub nothing_to_do : ((worked 1 0 between_rounds).why ≡ 6) × ((worked 1 26 (among_two 0 12 (pending_entry (failure 0 20 49) ∷ []) [])).why ≡ 5)
      × ((worked 1 27 (among_two 0 12 (pending_entry (failure 0 20 49) ∷ []) [])).why ≡ 0)
  -- messages that differ in from alone, or in to alone, are different: that of the lower number comes first
  pub by_from : compared (key (sent_from 0)) (key (sent_from 1)) ≡ Less
  pub by_to : compared (key (sent_to 0)) (key (sent_to 1)) ≡ Less
  -- a cancel of one strikes out no other: it waits behind it; and that one does not vanish with it
  pub other_cancel : (taking (frame_if true (sent_from 1)) 28 (among_two 0 12 (pending_entry (sent_from 0) ∷ []) [])).gateway.queue
      ≡ pending_entry (sent_from 0) ∷ waiting_entry (sent_from 1) ∷ []
  pub other_message : (taking (frame_if false (sent_from 0)) 28 (among_two 0 12 (waiting_entry (sent_from 1) ∷ []) [])).gateway.queue
      ≡ pending_entry (sent_from 0) ∷ waiting_entry (sent_from 1) ∷ []
  -- the acknowledgment of one removes no other: 7 where only the other is outstanding
  pub other_acknowledgment : ((taking (acknowledgment false (sent_to 1)) 0 (among_two 0 12 [] (sent_message (sent_to 0) ∷ []))).number ≡ 7)
      × ((taking (acknowledgment false (sent_to 1)) 0 (among_two 0 12 [] both_sent)).gateway.outstanding ≡ sent_message (sent_to 0) ∷ [])
  -- nor does that of a message remove its cancel
  pub cancel_outstanding : (taking (acknowledgment false (sent_to 1)) 0 (among_two 0 12 [] (sent_cancel (sent_to 1) ∷ []))).number ≡ 7
  -- a message that comes late undoes both events: the state is that before the first, the cancels go out latest event first, behind the
  -- acknowledgment, each takes an outstanding place, and the lower of their hours lowers the note
  pub both_undone : taking (frame_if false (late 15)) 84 both_done ≡ record {
    number = 0;
    gateway = counting 21 (stock_and_failed 1 0) (pending_entry (late 15) ∷ pending_entry failed ∷ pending_entry asked ∷ [])
        (sent_message to_supplier ∷ sent_message to_origin ∷ sent_cancel to_origin ∷ sent_cancel to_supplier ∷ []);
    output = bytes_of_frames (acknowledgment false (late 15) ∷ frame_if true to_origin ∷ frame_if true to_supplier ∷ []);
  }
  -- a cancel of the first undoes both too, and the first goes
  pub first_struck_out : taking (frame_if true failed) 84 both_done ≡ record {
    number = 0;
    gateway = counting 21 (stock_and_failed 1 0) (pending_entry asked ∷ [])
        (sent_message to_supplier ∷ sent_message to_origin ∷ sent_cancel to_origin ∷ sent_cancel to_supplier ∷ []);
    output = bytes_of_frames (acknowledgment true failed ∷ frame_if true to_origin ∷ frame_if true to_supplier ∷ []);
  }
  -- a message between the two undoes the second alone
  pub second_undone : taking (frame_if false (late 25)) 84 both_done ≡ record {
    number = 0;
    gateway = counting 50 (stock_and_failed 1 1) (done (stock_and_failed 1 0) failed ∷ pending_entry (late 25) ∷ pending_entry asked ∷ [])
        (sent_message to_supplier ∷ sent_message to_origin ∷ sent_cancel to_origin ∷ []);
    output = bytes_of_frames (acknowledgment false (late 25) ∷ frame_if true to_origin ∷ []);
  }
  -- with a byte too few nothing is done
  pub none_undone : taking (frame_if false (late 15)) 83 both_done ≡ refused 5 both_done
  -- and no byte of memory or output changes, nor where the memory is not sound; with room the acknowledgment is written, and a place
  pub bytes_stay : (taken memory (written (frame_if false (late 15))) (room 27) ≡ refused_with 5 memory (room 27))
      × (taken (take 639 memory) (written (frame_if false (late 15))) (room 27) ≡ refused_with 10 (take 639 memory) (room 27))
  pub bytes_written : taken memory (written (frame_if false (late 15))) (room 29) ≡ record {
    answer = record { number = 0; written = 28 };
    memory = encode (among_two 0 12 (pending_entry (late 15) ∷ []) []) memory;
    output = written (acknowledgment false (late 15)) ++ (9 ∷ []);
  }
  -- and these gateways are valid
  pub proper : every valid (between_rounds ∷ in_round ∷ both_done ∷ []) ≡ true
