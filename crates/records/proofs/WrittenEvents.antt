-- What commit writes is taken: events written one behind the other are cut into these events, none of them is refused, and they are read back.
use mathlib.Core.Path.{◌≡◌, refl, ◌∙◌, ap, ap₂}
use mathlib.Core.Bool.{true, false}
use mathlib.Core.List.{List, ◌∷◌, ◌++◌, map}
use Prim.Native.Nat.{ℕ, ◌≤◌, ◌<◌}
use native.Mathlib.Nat.{add-zero}
use native.Mathlib.Omega.{arith}
use lib.ListN.{length, take, get_or, length-append}
use lib.Seq.{take_at}
use borrow.Author.Tests.{le-leb, lt-ltb}
use Rattle.lists.specs.Lists.{All, nil, cons, joined, first_number}
use Rattle.lists.proofs.ListLaws.{all-image, all_map}
use Rattle.lists.proofs.PieceLaws.{none_first, pieces-joined}
use Rattle.buffer.specs.Slice.{part}
use Rattle.buffer.proofs.Standing.{part-back, part-whole}
use Rattle.model.specs.Messages.{kind_number, origin_of}
use Rattle.model.specs.declared.Message.{Message}
use Rattle.frame.specs.Layout.{whole_length}
use Rattle.frame.specs.Kinds.{map_of}
use Rattle.frame.specs.Writing.{well_formed, written}
use Rattle.std.specs.Prelude.{Ok}
use Rattle.frame.specs.Reasons.{reading}
use Rattle.frame.specs.Limits.{refusal_where}
use Rattle.frame.specs.Claims.{RangedFrame}
use Rattle.frame.specs.declared.Frame.{Frame}
use Rattle.frame.proofs.Laws.{one-to-one}
use Rattle.frame.proofs.Output.{whole-size}
use Rattle.memory.specs.Ranges.{RangedState}
use Rattle.memory.specs.Codec.{state_bytes, state_with}
use Rattle.memory.specs.Validity.{frame_if}
use Rattle.memory.proofs.Stored.{length-state}
use Rattle.memory.proofs.RoundTrips as RoundTrips
use Rattle.records.specs.declared.StockField.{StockField}
use Rattle.records.specs.declared.StockField.TheVariants.{Present}
use Rattle.records.specs.Events.{most_gateways, latest_hour, Event, stock_width_of, state_size_of, event_length, cut_events, frame_in, state_in, frame_refusal}
use Rattle.records.specs.Events.{event_refusal, record_refusal, event_of, events_of}
use Rattle.records.proofs.EventBranches.{event-some}

-- a message that may stand in a record
pub record Recordable (m : Message) : Type 0 where
  pub kind : kind_number m.kind ≤ 3
  pub form : well_formed (frame_if false m) ≡ true
  pub ranged : RangedFrame (frame_if false m)
  pub from : m.from < most_gateways
  pub to : m.to < most_gateways
  pub origin : origin_of m.kind < most_gateways
  pub hour : m.hour ≤ latest_hour

-- an event whose frame is written, with any bytes of a state's size behind it
module _ (field : StockField) (m : Message) (k : Recordable m) (state : List ℕ) (size : length state ≡ state_size_of field) where
  abbrev f : Frame
  f = frame_if false m

  abbrev s : List ℕ
  s = written f ++ state

  map_first : get_or s 0 0 ≡ map_of f
  unfolding written
  map_first = refl

  frame-size : length (written f) ≡ whole_length (map_of f)
  frame-size = whole-size f k.ranged.lamp

  -- as long as its first byte says
  pub event-whole : event_length field (get_or s 0 0) ≡ length s
  event-whole = omega (arith, ap whole_length map_first, frame-size, length-append (written f) state, size)

  frame_back : frame_in s ≡ written f
  frame_back = ap (λ (map : ℕ). take (whole_length map) s) map_first ∙ take_at (written f) state (whole_length (map_of f)) frame-size

  state-back : state_in field s ≡ state
  state-back =
      ap (λ (map : ℕ). part s (whole_length map) (state_size_of field)) map_first
      ∙ rw add-zero at (part-back (written f) state (whole_length (map_of f)) 0 (state_size_of field) frame-size)
      ∙ part-whole state (state_size_of field) (omega (arith, size))

  -- its frame is read as it was written, and is not refused
  frame-taken : frame_refusal (Ok f) ≡ 0
  unfolding frame_refusal refusal_where
  frame-taken = rw (
    le-leb (kind_number m.kind) 3 k.kind,
    lt-ltb m.from most_gateways k.from,
    lt-ltb m.to most_gateways k.to,
    lt-ltb (origin_of m.kind) most_gateways k.origin,
    le-leb m.hour latest_hour k.hour,
  )

  frame-read : reading (frame_in s) ≡ Ok f
  frame-read = ap reading frame_back ∙ one-to-one.written_read f k.ranged k.form

  pub message-read : (event_of field s).message ≡ m
  unfolding event_of
  message-read = rw frame-read

  state-read : (event_of field s).state ≡ state_with (stock_width_of field) state
  unfolding event_of
  state-read = ap (state_with (stock_width_of field)) state-back

  pub event-taken : event_refusal field s ≡ 0
  unfolding event_refusal
  event-taken =
      let number : frame_refusal (reading (frame_in s)) ≡ 0 = ap frame_refusal frame-read ∙ frame-taken in
      let whole : state_size_of field ≤ length (state_in field s) = omega (arith, ap length state-back, size) in
      rw (number, le-leb (state_size_of field) (length (state_in field s)) whole)

-- an event as commit writes it: its frame, then the state after it
unfoldable pub event_bytes : Event → List ℕ
event_bytes e = written (frame_if false e.message) ++ state_bytes e.state

-- an event that may stand in a record
pub record RecordableEvent (e : Event) : Type 0 where
  pub message : Recordable e.message
  pub state : RangedState e.state

module _ (e : Event) (k : RecordableEvent e) where
  written-whole : event_length Present (get_or (event_bytes e) 0 0) ≡ length (event_bytes e)
  unfolding event_bytes
  written-whole = event-whole Present e.message k.message (state_bytes e.state) (length-state e.state)

  written-taken : event_refusal Present (event_bytes e) ≡ 0
  unfolding event_bytes
  written-taken = event-taken Present e.message k.message (state_bytes e.state) (length-state e.state)

  -- it is read back
  written_read_lem : event_of Present (event_bytes e) ≡ e
  unfolding event_bytes
  written_read_lem =
      let size = length-state e.state in
      let state = state-read Present e.message k.message (state_bytes e.state) size ∙ RoundTrips.state-back e.state k.state in
      λ i. record { message = message-read Present e.message k.message (state_bytes e.state) size i; state = state i }

-- a record of events that were written one behind the other
module _ {events : List Event} (all : All RecordableEvent events) where
  written-cut : cut_events Present (joined event_bytes events) ≡ map event_bytes events
  written-cut = pieces-joined (event_length Present) (event-some Present) event_bytes events (all_map written-whole all)

  -- it is not refused
  pub record-taken : record_refusal Present (joined event_bytes events) ≡ 0
  unfolding record_refusal
  record-taken = ap (first_number (event_refusal Present)) written-cut ∙ none_first (event_refusal Present) (all-image event_bytes (all_map written-taken all))

all_read : {events : List Event} → All RecordableEvent events → map (event_of Present) (map event_bytes events) ≡ events
all_read nil = refl
all_read (cons {a = e} k all) = ap₂ ◌∷◌ (written_read_lem e k) (all_read all)

-- and its events are read back
pub record-read : {events : List Event} → All RecordableEvent events → events_of Present (joined event_bytes events) ≡ events
unfolding events_of
record-read all = ap (map (event_of Present)) (written-cut all) ∙ all_read all
