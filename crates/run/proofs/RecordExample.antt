-- The example of a record that is not refused, by computation.
use mathlib.Core.Path.{◌≡◌, ap}
use native.Mathlib.Omega.{arith}
use lib.ListN.{length}
use Rattle.lists.specs.Lists.{joined}
use Rattle.buffer.specs.Slice.{part}
use Rattle.buffer.specs.Number.{bytes_of, number_of}
use Rattle.frame.specs.Kinds.{map_of}
use Rattle.frame.specs.Writing.{written, all_between}
use Rattle.frame.specs.Reasons.{reading}
use Rattle.frame.specs.Limits.{refusal_where}
use Rattle.records.specs.Events.{record_refusal, events_of}
use Rattle.records.specs.declared.StockField.TheVariants.{Present}
use Rattle.run.specs.OrderExamples.{same_hour_record}
use Rattle.run.specs.RecordsTaken.{example_record, RecordsTakenExample}
use Rattle.run.proofs.OrderTable.{order-within-an-hour}

-- the record of that run
is-record : example_record ≡ same_hour_record 0
is-record = order-within-an-hour.whole_run.whole 0 (omega arith)

pub records-taken-example : RecordsTakenExample
unfolding joined part bytes_of number_of map_of written all_between reading refusal_where record_refusal events_of
records-taken-example =
    record {
      not_refused = ap (record_refusal Present) is-record;
      events = ap (λ bytes. length (events_of Present bytes)) is-record;
    }
