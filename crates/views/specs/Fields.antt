-- What each reader of a record is to see of an event: fields and their values, and not how they are written.
use Rattle.std.specs.Prelude.{ℕ, Bool, true, false, List, [], ◌∷◌}
use Rattle.model.specs.Messages.{kind_number, origin_of, quantity_of}
use Rattle.frame.specs.Kinds.{has_origin, has_lamp, has_quantity}
use Rattle.records.specs.Events.{Event}
use Rattle.views.specs.declared.Reader.{Reader}
use Rattle.views.specs.declared.Reader.TheVariants.{Purchasing, Maintenance}

-- a field with its value
pub data Field : Type 0 where
  hour : ℕ → Field
  kind : ℕ → Field
  quantity : ℕ → Field
  stock : ℕ → Field
  failed : ℕ → Field
  fitted : ℕ → Field
  short : ℕ → Field
  lamp : List ℕ → Field
  origin : ℕ → Field

-- what stands in a field's place: the field, or nothing where the event's kind lacks it
pub data Place : Type 0 where
  holds : Field → Place
  lacks : Place

-- a field that the kind has or lacks
abbrev pub held_if : Bool → Field → Place
held_if true f = holds f
held_if false f = lacks

-- Purchasing sees hour, kind, quantity and the state after it, as four fields. Maintenance sees hour, kind, lamp and origin. The kind is
-- its number; the table of kinds says which fields a kind has
unfoldable pub seen : Reader → Event → List Place
seen Purchasing e =
    let number = kind_number e.message.kind in
    holds (hour e.message.hour)
    ∷ holds (kind number)
    ∷ held_if (has_quantity number) (quantity (quantity_of e.message.kind))
    ∷ holds (stock e.state.stock)
    ∷ holds (failed e.state.failed)
    ∷ holds (fitted e.state.fitted)
    ∷ holds (short e.state.short)
    ∷ []
seen Maintenance e =
    let number = kind_number e.message.kind in
    holds (hour e.message.hour)
    ∷ holds (kind number)
    ∷ held_if (has_lamp number) (lamp e.message.lamp)
    ∷ held_if (has_origin number) (origin (origin_of e.message.kind))
    ∷ []
