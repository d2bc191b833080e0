-- What the tests of a place's bytes compute. No reader has to believe it.
use Rattle.std.specs.Prelude.{ℕ, Bool, ◌&&◌, List, eqb, get_or}
use Rattle.buffer.specs.Slice.{part}
use Rattle.buffer.specs.Number.{number_of}
use Rattle.model.specs.Messages.{kind_number, origin_of, quantity_of}
use Rattle.model.specs.declared.Message.{Message}

-- kind, origin, byte 9 and quantity in a place are those that a message is written with
unfoldable pub message_exact : List ℕ → Message → Bool
message_exact b m =
    eqb (get_or b 1 0) (kind_number m.kind)
    && (eqb (get_or b 8 0) (origin_of m.kind) && (eqb (get_or b 9 0) 0 && eqb (number_of (part b 10 2)) (quantity_of m.kind)))
