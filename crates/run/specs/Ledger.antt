-- The ledger of what waits at a gateway, followed through the calls and their answers and never read from a memory.
use Rattle.std.specs.Prelude.{ℕ, zero, suc, Bool, true, false, cond, List, [], ◌∷◌, ◌++◌, map}
use Rattle.lists.specs.Lists.{any, without_first, before_last, from_last, before_first, from_first}
use Rattle.model.specs.declared.Message.{Message}
use Rattle.memory.specs.Validity.{equal, later}

-- a plain message, and whether it is done and not undone since
pub record Item : Type 0 where
  pub message : Message
  pub done : Bool

-- the plain messages in event order, struck out by no cancel and not yet committed; the cancels that have met no equal message
pub record Ledger : Type 0 where
  pub items : List Item
  pub cancels : List Message

abbrev pub not_done : Item → Item
not_done x = record { message = x.message; done = false }

-- an item later in event order than m: m enters before the first such one, and so after its equals
abbrev pub is_later_item : Message → Item → Bool
is_later_item m x = later x.message m

-- a plain message is accepted: it meets an equal cancel, and both vanish; or it waits, and what was done later is undone
unfoldable pub after_plain : Message → Ledger → Ledger
after_plain m l =
    cond (any (equal m) l.cancels)
    (record { items = l.items; cancels = without_first (equal m) l.cancels })
    (record {
      items = before_first (is_later_item m) l.items ++ (record { message = m; done = false } ∷ map not_done (from_first (is_later_item m) l.items));
      cancels = l.cancels;
    })

-- an equal message
abbrev pub is_item : Message → Item → Bool
is_item m x = equal x.message m

-- what stands behind a message that is struck out: if that was done, nothing behind it is done any more
abbrev pub undone_after : List Item → List Item
undone_after [] = []
undone_after (x ∷ xs) = cond x.done (map not_done xs) xs

-- a cancel is accepted: the last equal message is struck out, and if it was done, what was done after it is undone; or it waits
unfoldable pub after_cancel : Message → Ledger → Ledger
after_cancel m l =
    cond (any (is_item m) l.items)
    (record { items = before_last (is_item m) l.items ++ undone_after (from_last (is_item m) l.items); cancels = l.cancels })
    (record { items = l.items; cancels = m ∷ l.cancels })

-- an event is done: the earliest that is not
unfoldable pub did_one : List Item → List Item
did_one [] = []
did_one (x ∷ xs) = let rest = x ∷ did_one xs in cond x.done rest (record { message = x.message; done = true } ∷ xs)

-- so many events are done
unfoldable pub did_some : ℕ → Ledger → Ledger
did_some zero l = l
did_some (suc count) l = did_some count (record { items = did_one l.items; cancels = l.cancels })

-- the oldest event done is committed
unfoldable pub committed_one : Ledger → Ledger
committed_one l = record { items = without_first (λ x. x.done) l.items; cancels = l.cancels }

-- the messages not done
unfoldable pub not_done_of : List Item → List Message
not_done_of [] = []
not_done_of (x ∷ xs) = let rest = not_done_of xs in cond x.done rest (x.message ∷ rest)

-- what waits: the messages not done, and the cancels
unfoldable pub waiting : Ledger → List Message
unfolding not_done_of
waiting l = not_done_of l.items ++ l.cancels
