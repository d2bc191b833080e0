-- What the functions that measure and write a view promise.
use Rattle.std.specs.Prelude.{ℕ, ◌+◌, ◌-◌, cond, List, [], ◌∷◌, ◌++◌, eqb, length, get_or, replicate}
use Rattle.buffer.specs.Slice.{part}
use Rattle.memory.specs.Layout.{stock_width, state_size}
use Rattle.records.specs.Events.{stock_width_of, event_of}
use Rattle.records.specs.Inside.Finding.{frame_of_kind, weight_of}
use Rattle.records.specs.declared.Weights.{Weights}
use Rattle.records.specs.declared.StockField.{StockField}
use Rattle.views.specs.Bytes.{event_view}
use Rattle.views.specs.declared.Reader.{Reader}
use Rattle.views.specs.declared.Reader.TheVariants.{Purchasing, Maintenance}

-- the bytes that a view has of an event: of a Failure, Request or Delivery, and of a Restock
abbrev pub lengths_for : Reader → Weights
lengths_for Purchasing = record { lamp = 6 + state_size; restock = 8 + state_size }
lengths_for Maintenance = record { lamp = 25; restock = 6 }

-- and by its kind
abbrev pub length_for : Reader → ℕ → ℕ
length_for reader kind = weight_of (lengths_for reader) kind

-- the bytes that a view has of an event
abbrev pub view_length : Reader → StockField → List ℕ → ℕ
view_length reader field s = length (event_view reader (event_of field s))

-- what every view begins with: its map, the hour and the kind, as they stand in an event's bytes
abbrev pub head_of : ℕ → List ℕ → List ℕ
head_of map s = map ∷ (part s 4 4 ++ (get_or s 1 0 ∷ []))

-- what purchasing gets of an event before its state: map, hour, kind, and of a Restock the quantity
unfoldable pub front_of : List ℕ → List ℕ
front_of s = cond (eqb (get_or s 1 0) 3) (head_of 127 s ++ part s 8 2) (head_of 123 s)

-- where the state stands in an event's bytes
unfoldable pub state_from : List ℕ → ℕ
state_from s = frame_of_kind (get_or s 1 0)

-- a state's bytes with the stock as wide as it is now: zeros before an old one
abbrev pub widened : StockField → List ℕ → List ℕ
widened field bytes = replicate (stock_width - stock_width_of field) 0 ++ bytes
