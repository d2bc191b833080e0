-- Positions in a list of places, for the contracts of the functions that look through the places. No call's own contract
-- cites this file.
use Rattle.std.specs.Prelude.{◌≡◌, ℕ, ◌+◌, ◌*◌, ◌-◌, Bool, cond, ltb, eqb, min, List, [], ◌∷◌, Option, Some, None}
use Rattle.memory.specs.Layout.{header_size, queue_size, outstanding_size, queue_at}
use Rattle.memory.specs.Codec.{places_at, entry_of, sent_of}
use Rattle.memory.specs.Validity.{pending_mark, processed_mark, waiting_mark, is_processed}
use Rattle.frame.specs.Limits.{nothing_due}
use Rattle.memory.specs.declared.Entry.{Entry}
use Rattle.memory.specs.declared.Sent.{Sent}
use Rattle.memory.specs.declared.Mark.{Mark}
use Rattle.memory.specs.declared.Mark.TheVariants.{Pending, Processed, Waiting}

-- the mark is the one sought
abbrev pub same_mark : Mark → Mark → Bool
same_mark Pending found = pending_mark found
same_mark Processed found = processed_mark found
same_mark Waiting found = waiting_mark found

abbrev pub has_mark : Mark → Entry → Bool
has_mark sought e = same_mark sought e.mark

-- the closure, by the answers that it can give, answers what f gives
abbrev pub Answers : {A B : Type 0} → (A → B → Type 0) → (A → B) → Type 0
Answers {A} {B} answers f = (x : A) (r : B) → answers x r → r ≡ f x

-- the answer of a search that comes to place k of so many, none where it comes to their end
abbrev pub place_below : ℕ → ℕ → Option ℕ
place_below count k = cond (ltb k count) (Some k) None

-- the answer of a search from the last place on that stops behind so many, none where it comes to the first
abbrev pub place_before : ℕ → Option ℕ
place_before behind = cond (eqb behind 0) None (Some (behind - 1))

-- the queue places from place k on, of count that are used
abbrev pub entries_from : List ℕ → ℕ → ℕ → List Entry
entries_from m k count = places_at entry_of queue_size m (queue_at k) (count - k)

-- the first count queue places of the memory, and its first count outstanding places behind q queue places
abbrev pub entries_in : List ℕ → ℕ → List Entry
entries_in m count = places_at entry_of queue_size m header_size count

abbrev pub sent_in : ℕ → List ℕ → ℕ → List Sent
sent_in q m count = places_at sent_of outstanding_size m (header_size + queue_size * q) count

-- an entry's hour, nothing due if it is processed
abbrev pub due_hour : Entry → ℕ
due_hour e = cond (is_processed e) nothing_due e.message.hour

-- the least of the numbers that places come to, nothing due if there is none
unfoldable pub least_of : {A : Type 0} → (A → ℕ) → List A → ℕ
least_of due [] = nothing_due
least_of due (x ∷ xs) = min (due x) (least_of due xs)
