-- The examples of histories and of the balance hold, by computation.
use mathlib.Core.Path.{◌≡◌, refl, ap}
use native.Mathlib.Omega.{arith}
use Prim.Native.Nat.{ℕ}
use mathlib.Core.List.{List, [], ◌∷◌}
use lib.ListN.{take, drop, get_or}
use Rattle.lists.specs.Lists.{passing, joined}
use Rattle.lists.specs.Families.{change, together}
use Rattle.buffer.specs.Slice.{part}
use Rattle.buffer.specs.Number.{bytes_of, number_of}
use Rattle.model.specs.Doing.{sent}
use Rattle.model.specs.EventOrder.{key, compared}
use Rattle.frame.specs.Kinds.{has_hour, has_lamp, map_of}
use Rattle.frame.specs.Writing.{written, all_between, well_formed}
use Rattle.frame.specs.Reasons.{reading}
use Rattle.frame.specs.Limits.{refusal_where}
use Rattle.memory.specs.Codec.{state_bytes, state_with}
use Rattle.memory.specs.Validity.{later}
use Rattle.gateway.specs.Committing.{record_for}
use Rattle.records.specs.Events.{events_of}
use Rattle.records.specs.Histories.{events_from}
use Rattle.records.specs.Balancing.{received, served, last_stock, balanced}
use Rattle.run.specs.World.{after_calls}
use Rattle.run.specs.SingleQueue.{opening_messages, opening_queue, earliest, others, do_one, step_on, turns_for}
use Rattle.run.specs.ExampleRun.{world_at_end, two_records}
use Rattle.run.specs.OrderExamples.{same_hour_set_up, same_hour_memory, same_hour_calls, same_hour_record}
use Rattle.run.specs.RunExamples.{seen_along}
use Rattle.run.specs.History.{next_of, done_in, single_history}
use Rattle.run.specs.HistoryExamples.{record_after, record_of_two, HistoryExamples}
use Rattle.run.proofs.Example.{examples}
use Rattle.run.proofs.OrderTable.{order-within-an-hour}
use Rattle.run.proofs.Computing.{computing}

-- the records of the two runs at their ends
whole : record_after 8 ≡ same_hour_record 0
whole = order-within-an-hour.whole_run.whole 0 (omega arith)

first-of-two : record_of_two 0 ≡ two_records 0
first-of-two = examples.two.whole 0 (omega arith)

second-of-two : record_of_two 1 ≡ two_records 1
second-of-two = examples.two.whole 1 (omega arith)

-- that of the first before its three commits and after each, gone through once
along : seen_along (λ w. w.records 0) 1 (world_at_end 1 10 same_hour_set_up same_hour_memory (take 5 same_hour_calls)) (drop 5 same_hour_calls)
    ≡ [] ∷ take 43 (same_hour_record 0) ∷ take 69 (same_hour_record 0) ∷ same_hour_record 0 ∷ []
unfolding computing seen_along
along = refl

record Before : Type 0 where
  five : record_after 5 ≡ []
  six : record_after 6 ≡ take 43 (same_hour_record 0)
  seven : record_after 7 ≡ take 69 (same_hour_record 0)

before-the-end : Before
unfolding seen_along world_at_end after_calls
before-the-end =
    record {
      five = ap (λ (l : List (List ℕ)). get_or l 0 []) along;
      six = ap (λ (l : List (List ℕ)). get_or l 1 []) along;
      seven = ap (λ (l : List (List ℕ)). get_or l 2 []) along;
    }

pub history-examples : HistoryExamples
unfolding
    passing joined together change part bytes_of number_of sent key compared has_hour has_lamp map_of written all_between well_formed reading refusal_where
    state_bytes state_with later record_for events_of events_from received served last_stock balanced opening_messages opening_queue earliest others do_one step_on
    turns_for next_of done_in single_history
history-examples =
    let b = before-the-end in
    record {
      history = refl;
      written = whole;
      read = refl;
      beginning = b.seven;
      before = (b.five, ap (balanced 0) b.five);
      after_each = (ap (balanced 0) b.six, ap (balanced 0) b.seven, ap (balanced 0) whole);
      balances = refl;
      histories = (refl, refl);
      of_two = (ap (balanced 0) first-of-two, ap (balanced 1) second-of-two);
    }
