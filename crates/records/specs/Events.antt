-- A record, read event by event: each is its frame, then the state after it. A record does not tell of which forecast it is: N is read
-- as 255, H as 4,294,967,294, and any addressee will do. Nor does it tell how wide the stock is in its states.
use Rattle.std.specs.Prelude.{ℕ, ◌+◌, Bool, true, cond, ◌&&◌, Result, List, map, leb, eqb, length, take, get_or}
use Rattle.lists.specs.Lists.{first_number, cut_by}
use Rattle.buffer.specs.Slice.{part}
use Rattle.model.specs.Messages.{kind_number}
use Rattle.model.specs.declared.Message.{Message}
use Rattle.model.specs.declared.State.{State}
use Rattle.frame.specs.Layout.{whole_length}
use Rattle.frame.specs.Kinds.{sense_number}
use Rattle.frame.specs.Reasons.{reading, frame_read, read_in, refusal_in}
use Rattle.frame.specs.Limits.{refusal_where}
use Rattle.frame.specs.declared.Frame.{Frame}
use Rattle.frame.specs.declared.forms.FormError.{FormError}
use Rattle.memory.specs.Layout.{stock_width}
use Rattle.memory.specs.Codec.{state_with}
use Rattle.records.specs.declared.StockField.{StockField}
use Rattle.records.specs.declared.StockField.TheVariants.{Present, Old}

-- the N and the H that a record is read with
abbrev pub most_gateways : ℕ
most_gateways = 255

abbrev pub latest_hour : ℕ
latest_hour = 4294967294

-- an event: the message that was done, and the gateway's state after it
pub record Event : Type 0 where
  pub message : Message
  pub state : State

-- how wide the stock is in a record's states: as in the memory, or two bytes in a record with the old stock
abbrev pub stock_width_of : StockField → ℕ
stock_width_of Present = stock_width
stock_width_of Old = 2

-- a state: its stock, and behind it three counters of four bytes
abbrev pub state_size_of : StockField → ℕ
state_size_of field = stock_width_of field + 12

-- the whole length of an event whose frame has that map: the frame, cut by its map's length, and the state
abbrev pub event_length : StockField → ℕ → ℕ
event_length field map_byte = whole_length map_byte + state_size_of field

-- a record cut into events; what is left too short is a cut event
abbrev pub cut_events : StockField → List ℕ → List (List ℕ)
cut_events field bytes = cut_by (event_length field) (length bytes) bytes

-- of an event's bytes those of its frame, and those of its state behind them
abbrev pub frame_in : List ℕ → List ℕ
frame_in s = take (whole_length (get_or s 0 0)) s

abbrev pub state_in : StockField → List ℕ → List ℕ
state_in field s = part s (whole_length (get_or s 0 0)) (state_size_of field)

-- a plain message of kind 0 to 3
abbrev pub is_event : Frame → Bool
is_event f = eqb (sense_number f.sense) 0 && leb (kind_number f.message.kind) 3

-- what an event's frame is refused with, or 0: the number of the first reason why it is no frame or no plain message of kind 0 to 3,
-- then 2, then 3
unfoldable pub frame_refusal : Result Frame FormError → ℕ
frame_refusal r = refusal_in (λ f. refusal_where true f most_gateways latest_hour) (read_in is_event r)

-- what an event is refused with, or 0: its frame's refusals, then 11 for a cut state
unfoldable pub event_refusal : StockField → List ℕ → ℕ
unfolding frame_refusal
event_refusal field s =
    let number = frame_refusal (reading (frame_in s)) in
    cond (eqb number 0) (cond (leb (state_size_of field) (length (state_in field s))) 0 11) number

-- what a record is refused with, or 0: the refusal of the first event that has one
unfoldable pub record_refusal : StockField → List ℕ → ℕ
unfolding event_refusal first_number cut_by
record_refusal field bytes = first_number (event_refusal field) (cut_events field bytes)

-- the event that bytes hold
unfoldable pub event_of : StockField → List ℕ → Event
event_of field s = record {
  message = (frame_read (frame_in s)).message;
  state = state_with (stock_width_of field) (state_in field s);
}

-- the events of a record, the first first
unfoldable pub events_of : StockField → List ℕ → List Event
unfolding event_of cut_by
events_of field bytes = map (event_of field) (cut_events field bytes)
