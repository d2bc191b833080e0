-- What single steps of the reader and the writer do. Only their own functions cite these, and no public promise.
use Rattle.std.specs.Prelude.{ℕ, ◌/◌, cond, List, [], ◌∷◌, ◌++◌, eqb}
use Rattle.buffer.specs.Number.{bytes_of, number_of}
use Rattle.model.specs.Messages.{kind_number, origin_of, quantity_of}
use Rattle.model.specs.declared.Message.{Message}
use Rattle.frame.specs.Layout.{gateway_width, odd}
use Rattle.frame.specs.Reasons.{lamp_of, values_of}
use Rattle.frame.specs.declared.Fields.{Fields}

-- no field read yet
abbrev pub no_fields : Fields
no_fields = values_of []

-- the fields with the one of that bit read from its bytes
abbrev pub stored : ℕ → List ℕ → Fields → Fields
stored bit bytes v = record {
  kind = cond (eqb bit 0) (number_of bytes) v.kind;
  from = cond (eqb bit 1) (number_of bytes) v.from;
  to = cond (eqb bit 2) (number_of bytes) v.to;
  hour = cond (eqb bit 3) (number_of bytes) v.hour;
  origin = cond (eqb bit 4) (number_of bytes) v.origin;
  lamp = cond (eqb bit 5) (lamp_of bytes) v.lamp;
  quantity = cond (eqb bit 6) (number_of bytes) v.quantity;
  sense = cond (eqb bit 7) (number_of bytes) v.sense;
}

-- map, kind, from and to
unfoldable pub head_bytes : ℕ → Message → List ℕ
head_bytes map m = map ∷ (bytes_of 1 (kind_number m.kind) ++ (bytes_of gateway_width m.from ++ bytes_of gateway_width m.to))

-- a field's bytes, where its bit, told by its weight, stands in the map
unfoldable pub field_bytes : ℕ → ℕ → List ℕ → List ℕ
field_bytes map bit bytes = cond (odd (map / bit)) bytes []

-- hour, origin, lamp and quantity, as far as the map has them
unfoldable pub body_bytes : ℕ → Message → List ℕ
unfolding field_bytes
body_bytes map m =
    field_bytes map 8 (bytes_of 4 m.hour)
    ++ (field_bytes map 16 (bytes_of gateway_width (origin_of m.kind))
    ++ (field_bytes map 32 m.lamp ++ field_bytes map 64 (bytes_of 2 (quantity_of m.kind))))
