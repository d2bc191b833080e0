-- Commit: the oldest processed event leaves the queue if its hour is below the agreed time.
use Rattle.std.specs.Prelude.{ℕ, false, cond, List, [], ◌∷◌, ◌++◌, leb, ltb, length}
use Rattle.lists.specs.Lists.{without_first}
use Rattle.model.specs.Doing.{after}
use Rattle.frame.specs.Writing.{written}
use Rattle.memory.specs.Records.{Gateway}
use Rattle.memory.specs.Codec.{state_bytes}
use Rattle.memory.specs.Validity.{is_processed, frame_if}
use Rattle.model.specs.declared.Message.{Message}
use Rattle.model.specs.declared.State.{State}
use Rattle.memory.specs.declared.Entry.{Entry}
use Rattle.gateway.specs.Effects.{Outcome, refused, with_queue}
use Rattle.gateway.specs.Undoing.{processed_of}

-- the record of an event: its frame, then the state after it
unfoldable pub record_for : Message → State → List ℕ
record_for m s = written (frame_if false m) ++ state_bytes s

-- that of a processed entry, by the state before it
abbrev pub record_of : Entry → List ℕ
record_of e = record_for e.message (after e.before e.message.kind)

-- committing the event e, with the rest of the queue: 5 where its record does not fit the output
abbrev pub recorded : ℕ → Entry → List Entry → Gateway → Outcome
recorded room e rest g =
    cond (leb (length (record_of e)) room)
    (record { number = 0; gateway = with_queue rest g; output = record_of e })
    (refused 5 g)

-- committing the oldest of the processed events, if there is one; any event at the agreed hour stays, as a message of that
-- very hour may still come
abbrev pub commit_oldest : ℕ → Gateway → List Entry → Outcome
commit_oldest room g [] = refused 6 g
commit_oldest room g (e ∷ es) =
    cond (ltb e.message.hour g.agreed) (recorded room e (without_first is_processed g.queue) g) (refused 6 g)

unfoldable pub commit : ℕ → Gateway → Outcome
commit room g = commit_oldest room g (processed_of g.queue)
