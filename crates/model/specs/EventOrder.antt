-- The event order: hour, rank of the kind, origin, lamp, quantity, from, to.
use Rattle.std.specs.Prelude.{ℕ, List, [], ◌∷◌, ◌++◌}
use Rattle.std.specs.declared.cmp.Ordering.{Ordering}
use Rattle.std.specs.Ordering.{nat_cmp}
use Rattle.std.specs.Cmp.Lexicographic.{slice_cmp}
use Rattle.model.specs.Messages.{origin_of, quantity_of}
use Rattle.model.specs.declared.Kind.{Kind}
use Rattle.model.specs.declared.Kind.TheVariants.{Failure, Request, Delivery, Restock, Start, Lvt, Update}
use Rattle.model.specs.declared.Message.{Message}

-- the kinds' order within an hour: goods are booked in before any are handed out. Start, Lvt and Update are no events and come last
abbrev pub rank : Kind → ℕ
rank (Failure origin) = 0
rank (Restock quantity) = 1
rank (Request origin) = 2
rank (Delivery origin) = 3
rank Start = 4
rank Lvt = 5
rank Update = 6

-- the numbers by which messages are ordered, the weightiest first; all eighteen bytes of the lamp are among them
unfoldable pub key : Message → List ℕ
key m = m.hour ∷ rank m.kind ∷ origin_of m.kind ∷ (m.lamp ++ (quantity_of m.kind ∷ m.from ∷ m.to ∷ []))

-- lists of numbers in lexicographic order, a list before its continuations
unfoldable pub compared : List ℕ → List ℕ → Ordering
compared xs ys = slice_cmp nat_cmp xs ys
