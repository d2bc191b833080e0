-- A view's bytes: for each event a map of the view's own, then the fields that stand in it.
use Rattle.std.specs.Prelude.{ℕ, ◌+◌, ◌*◌, List, [], ◌∷◌}
use Rattle.lists.specs.Lists.{joined}
use Rattle.buffer.specs.Number.{bytes_of}
use Rattle.frame.specs.Layout.{gateway_width}
use Rattle.memory.specs.Layout.{stock_width}
use Rattle.records.specs.Events.{Event, events_of}
use Rattle.records.specs.declared.StockField.{StockField}
use Rattle.views.specs.Fields.{Field, hour, kind, quantity, stock, failed, fitted, short, lamp, origin, Place, holds, lacks, seen}
use Rattle.views.specs.declared.Reader.{Reader}

-- a field's bytes, as wide as in the record, numbers high byte first; an old stock is written as wide as the new one
unfoldable pub field_bytes : Field → List ℕ
field_bytes (hour n) = bytes_of 4 n
field_bytes (kind n) = bytes_of 1 n
field_bytes (quantity n) = bytes_of 2 n
field_bytes (stock n) = bytes_of stock_width n
field_bytes (failed n) = bytes_of 4 n
field_bytes (fitted n) = bytes_of 4 n
field_bytes (short n) = bytes_of 4 n
field_bytes (lamp bytes) = bytes
field_bytes (origin n) = bytes_of gateway_width n

-- a field that the kind lacks is left out
unfoldable pub place_bytes : Place → List ℕ
unfolding field_bytes
place_bytes (holds f) = field_bytes f
place_bytes lacks = []

-- the map: bits from 0 in the order of the fields; a bit stands where its field does
unfoldable pub view_map : List Place → ℕ
view_map [] = 0
view_map (holds f ∷ ps) = 1 + 2 * view_map ps
view_map (lacks ∷ ps) = 2 * view_map ps

-- the map, then the fields
unfoldable pub places_bytes : List Place → List ℕ
unfolding place_bytes view_map
places_bytes ps = view_map ps ∷ joined place_bytes ps

-- what a reader gets of an event
abbrev pub event_view : Reader → Event → List ℕ
event_view reader e = places_bytes (seen reader e)

-- and of a record: of each event in turn
unfoldable pub view : Reader → StockField → List ℕ → List ℕ
unfolding seen places_bytes events_of joined
view reader field bytes = joined (event_view reader) (events_of field bytes)
