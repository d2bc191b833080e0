-- "Purchasing is to see hour, kind, quantity and the state after it, never lamp or origin. Maintenance is to see hour, kind, lamp and
-- origin, never stock or short. [...] Two records taken that agree in the fields of a view give that reader equal bytes."
use Rattle.std.specs.Prelude.{◌≡◌, true, ℕ, List, map}
use Rattle.buffer.specs.Slice.{Bytes}
use Rattle.model.specs.Messages.{kind_number, origin_of, quantity_of}
use Rattle.frame.specs.Kinds.{has_lamp}
use Rattle.records.specs.Events.{Event, record_refusal, events_of}
use Rattle.records.specs.declared.StockField.{StockField}
use Rattle.views.specs.Fields.{Place, seen}
use Rattle.views.specs.Bytes.{view}
use Rattle.views.specs.Viewing.{reader_of, stock_field_of, askable, viewed}
use Rattle.views.specs.declared.Reader.{Reader}
use Rattle.views.specs.declared.Reader.TheVariants.{Purchasing, Maintenance}

-- a record is taken: no event of it is refused
abbrev pub Taken : StockField → List ℕ → Type 0
Taken field bytes = record_refusal field bytes ≡ 0

-- the fields of a reader's view, event by event
abbrev pub fields_seen : Reader → StockField → List ℕ → List (List Place)
fields_seen reader field bytes = map (seen reader) (events_of field bytes)

-- two records, of one kind of stock or of two, agree in the fields of a reader's view, event by event
abbrev pub Agree : Reader → StockField → List ℕ → StockField → List ℕ → Type 0
Agree reader field r field' s = fields_seen reader field r ≡ fields_seen reader field' s

-- events alike in what purchasing is to see: hour, kind, quantity and the state after it
pub record AlikeToPurchasing (d e : Event) : Type 0 where
  pub hour : d.message.hour ≡ e.message.hour
  pub kind : kind_number d.message.kind ≡ kind_number e.message.kind
  pub quantity : quantity_of d.message.kind ≡ quantity_of e.message.kind
  pub state : d.state ≡ e.state

-- events alike in what maintenance is to see: hour, kind, lamp, where the kind has one, and origin
pub record AlikeToMaintenance (d e : Event) : Type 0 where
  pub hour : d.message.hour ≡ e.message.hour
  pub kind : kind_number d.message.kind ≡ kind_number e.message.kind
  pub lamp : has_lamp (kind_number d.message.kind) ≡ true → d.message.lamp ≡ e.message.lamp
  pub origin : origin_of d.message.kind ≡ origin_of e.message.kind

pub record Secrecy : Type 0 where
  -- purchasing sees no lamp, no origin and no other gateway: events alike in hour, kind, quantity and state give it the same fields
  pub purchasing : (d e : Event) → AlikeToPurchasing d e → seen Purchasing d ≡ seen Purchasing e
  -- and it sees all four: events that give it the same fields are alike in them
  pub purchasing_told : (d e : Event) → seen Purchasing d ≡ seen Purchasing e → AlikeToPurchasing d e
  -- maintenance sees no quantity and nothing of a state: events alike in hour, kind, lamp and origin give it the same fields
  pub maintenance : (d e : Event) → AlikeToMaintenance d e → seen Maintenance d ≡ seen Maintenance e
  -- and it sees all four: events that give it the same fields are alike in them
  pub maintenance_told : (d e : Event) → seen Maintenance d ≡ seen Maintenance e → AlikeToMaintenance d e
  -- two records, of one kind of stock or of two, that are taken and agree in the fields of a view give that reader equal bytes
  pub equal : (reader : Reader) (field field' : StockField) (r s : List ℕ) → Taken field r → Taken field' s → Agree reader field r field' s
      → view reader field r ≡ view reader field' s
  -- so that the two calls, both in range or neither, leave the same, number, count and output, whatever the output was
  pub calls : (reader old_stock old_stock' : ℕ) (r s out : List ℕ) → Taken (stock_field_of old_stock) r → Taken (stock_field_of old_stock') s
      → Agree (reader_of reader) (stock_field_of old_stock) r (stock_field_of old_stock') s → askable reader old_stock r ≡ askable reader old_stock' s
      → viewed reader old_stock r out ≡ viewed reader old_stock' s out
  -- with one kind of stock both are in range or neither: records that agree are then equally long
  pub askable_alike : (reader old_stock : ℕ) (r s : List ℕ) → Bytes r → Bytes s → Taken (stock_field_of old_stock) r → Taken (stock_field_of old_stock) s
      → Agree (reader_of reader) (stock_field_of old_stock) r (stock_field_of old_stock) s → askable reader old_stock r ≡ askable reader old_stock s
  -- and nothing that a reader is to see is lost: equal bytes tell equal fields, also with two kinds of stock
  pub told : (reader : Reader) (field field' : StockField) (r s : List ℕ) → Bytes r → Bytes s → Taken field r → Taken field' s
      → view reader field r ≡ view reader field' s → Agree reader field r field' s
