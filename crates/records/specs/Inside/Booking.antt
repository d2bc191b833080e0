-- What the functions that balance a record promise.
use Rattle.std.specs.Prelude.{ℕ, ◌+◌, ◌<◌, cond, List, [], ◌∷◌}
use Rattle.model.specs.Doing.{opening_state, after}
use Rattle.model.specs.Messages.{quantity_of}
use Rattle.model.specs.declared.Kind.{Kind}
use Rattle.records.specs.Events.{Event}
use Rattle.records.specs.Balancing.{finds_stock}
use Rattle.records.specs.declared.balance.Book.{Book}

-- the book with an event of that kind, and the stock in its state
abbrev pub entered : Book → Kind → ℕ → Book
entered b kind stock = record {
  received = b.received + quantity_of kind;
  served = b.served + cond (finds_stock (opening_state b.followed) kind) 1 0;
  followed = (after (opening_state b.followed) kind).stock;
  stock = stock;
}

-- and with an event
abbrev pub entered_event : Book → Event → Book
entered_event b e = entered b e.message.kind e.state.stock

-- one after another
unfoldable pub entered_all : Book → List Event → Book
entered_all b [] = b
entered_all b (e ∷ es) = entered_all (entered_event b e) es

-- the book at first
abbrev pub opened_book : ℕ → Book
opened_book opening = record { received = 0; served = 0; followed = opening; stock = opening }

-- its figures have room for a Restock of 65,535, as 64 bits count
pub record RoomInBook (b : Book) : Type 0 where
  pub received : b.received < 18446744073709486080
  pub served : b.served < 18446744073709486080
  pub followed : b.followed < 18446744073709486080
