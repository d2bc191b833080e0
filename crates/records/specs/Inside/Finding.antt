-- What the functions that read a record promise.
use Rattle.std.specs.Prelude.{◌≡◌, ℕ, ◌+◌, ◌-◌, Bool, cond, not, ◌&&◌, Result, Ok, Err, List, leb, eqb, take, drop, get_or}
use Rattle.refusal.specs.Numbers.{refusal_number}
use Rattle.refusal.specs.declared.Refusal.{Refusal}
use Rattle.refusal.specs.declared.Refusal.TheVariants.{OutOfRange}
use Rattle.lists.specs.Lists.{before_first, tally}
use Rattle.lists.specs.Inside.Pieces.{piece_end, is_refused}
use Rattle.buffer.specs.Slice.{part}
use Rattle.buffer.specs.Number.{number_of}
use Rattle.model.specs.Messages.{kind_number, origin_of, kind_of}
use Rattle.model.specs.declared.Kind.{Kind}
use Rattle.model.specs.declared.Kind.TheVariants.{Restock}
use Rattle.frame.specs.Writing.{all_between, gateways_agree}
use Rattle.records.specs.Events.{most_gateways, latest_hour, state_size_of, event_length, cut_events, event_refusal, record_refusal, event_of}
use Rattle.records.specs.declared.Found.{Found}
use Rattle.records.specs.declared.Weights.{Weights}
use Rattle.records.specs.declared.RefusedEvent.{RefusedEvent}
use Rattle.records.specs.declared.StockField.{StockField}

-- the bytes of the event that begins at a position: as many as its map says, or all where there are fewer
abbrev pub event_at : StockField → List ℕ → ℕ → List ℕ
event_at field bytes at = take (piece_end (event_length field) bytes at - at) (drop at bytes)

-- the length of an event's frame by its kind, 0 to 3: a Restock's, and any other's
abbrev pub frame_of_kind : ℕ → ℕ
frame_of_kind kind = cond (eqb kind 3) 10 27

-- the whole length of an event by its kind
abbrev pub length_of_kind : StockField → ℕ → ℕ
length_of_kind field kind = frame_of_kind kind + state_size_of field

-- the gateways agree, and their numbers are below 255
unfoldable pub good_gateways : ℕ → ℕ → Kind → Bool
good_gateways from to kind =
    not (eqb from most_gateways) && (not (eqb to most_gateways) && (not (eqb (origin_of kind) most_gateways) && gateways_agree from to kind))

-- bytes that begin with the frame of a Failure, Request or Delivery that is good, told from the bytes at their places
unfoldable pub good_with_lamp : List ℕ → Bool
good_with_lamp s =
    eqb (get_or s 0 0) 63
    && (leb (get_or s 1 0) 2
    && (good_gateways (get_or s 2 0) (get_or s 3 0) (kind_of (get_or s 1 0) (get_or s 8 0) 0)
    && (leb (number_of (part s 4 4)) latest_hour && all_between 33 126 (part s 9 18))))

-- the same for a Restock
unfoldable pub good_restock : List ℕ → Bool
good_restock s =
    eqb (get_or s 0 0) 79
    && (eqb (get_or s 1 0) 3 && (good_gateways (get_or s 2 0) (get_or s 3 0) (Restock 0) && leb (number_of (part s 4 4)) latest_hour))

-- the event that is found at a position: its kind, and the position behind it
pub record Finds (field : StockField) (bytes : List ℕ) (at : ℕ) (found : Found) : Type 0 where
  pub kind : found.kind ≡ kind_number (event_of field (event_at field bytes at)).message.kind
  pub end : found.end ≡ piece_end (event_length field) bytes at

-- of two things the one with that number, 0 or 1; else 8
abbrev pub numbered : {A : Type 0} → A → A → ℕ → Result A Refusal
numbered first second number = cond (eqb number 0) (Ok first) (cond (eqb number 1) (Ok second) (Err OutOfRange))

-- what an event of that kind weighs in a pass over a record: a Restock one number, any other another
abbrev pub weight_of : Weights → ℕ → ℕ
weight_of weights kind = cond (eqb kind 3) weights.restock weights.lamp

abbrev pub event_weight : StockField → Weights → List ℕ → ℕ
event_weight field weights s = weight_of weights (kind_number (event_of field s).message.kind)

-- what a pass over a record finds: the first refusal, or 0, and what the events before it weigh, or all of them
pub record Passed : Type 0 where
  pub number : ℕ
  pub weight : ℕ

abbrev pub passed_as : StockField → Weights → List ℕ → Passed
passed_as field weights bytes = record {
  number = record_refusal field bytes;
  weight = tally (event_weight field weights) (before_first (is_refused (event_refusal field)) (cut_events field bytes));
}

-- what a pass has found that gives a weight, or the event that is refused
abbrev pub passed_in : Result ℕ RefusedEvent → Passed
passed_in (Ok weight) = record { number = 0; weight = weight }
passed_in (Err event) = record { number = refusal_number event.refusal; weight = event.weight }
