-- Undoing events, on the memory between the first store of a call and its last.
use Rattle.std.specs.Prelude.{◌≡◌, ℕ, suc, ◌+◌, ◌≤◌, ◌<◌, List, [], ◌∷◌, ◌++◌, map, length, take, drop}
use Rattle.model.specs.declared.Message.{Message}
use Rattle.memory.specs.Records.{Gateway, site_of}
use Rattle.memory.specs.Inside.Fits.{EntryFits}
use Rattle.memory.specs.declared.Entry.{Entry}
use Rattle.memory.specs.declared.Header.{Header}
use Rattle.gateway.specs.Effects.{with_queue}
use Rattle.gateway.specs.Undoing.{processed_of, undone, sent_back, rolled_back}
use Rattle.effects.specs.Inside.Placed.{Placed}

-- what the processed events among some entries had sent
abbrev pub sent_by_entries : Gateway → List Entry → List Message
sent_by_entries g es = sent_back (site_of g.settings) (processed_of es)

-- the memory holds g's places, and there are outstanding places for the cancels of these messages
pub record MaySendBack (before : List ℕ) (g : Gateway) (memory : List ℕ) (h : Header) (ms : List Message) : Type 0 where
  pub placed : Placed before memory h g
  pub places : length g.outstanding + length ms ≤ g.settings.u

-- e is the entry in place k of a queue, between these
pub record Between (k : ℕ) (queue xs : List Entry) (e : Entry) (zs : List Entry) : Type 0 where
  pub cut : queue ≡ xs ++ (e ∷ zs)
  pub place : length xs ≡ k

-- the gateway after undoing the processed events from queue place k on
unfoldable pub undone_from : ℕ → Gateway → Gateway
undone_from k g = with_queue (take k g.queue ++ map undone (drop k g.queue)) (rolled_back (processed_of (drop k g.queue)) g)

-- the gateway after undoing them, with the entry in place k taken out
unfoldable pub taken_out : ℕ → Gateway → Gateway
taken_out k g = with_queue (take k g.queue ++ map undone (drop (suc k) g.queue)) (rolled_back (processed_of (drop k g.queue)) g)

-- the memory may hold a gateway whose processed events from queue place k on can be undone
abbrev pub CanUndo : List ℕ → Header → ℕ → Type 0
CanUndo memory h k =
    (before : List ℕ) × (g : Gateway) × (k ≤ length g.queue) × MaySendBack before g memory h (sent_by_entries g (drop k g.queue))

-- of every gateway that it may hold they were undone
abbrev pub Undoes : List ℕ → List ℕ → Header → ℕ → Header → Type 0
Undoes memory memory' h k r =
    (before : List ℕ) (g : Gateway) → k ≤ length g.queue → MaySendBack before g memory h (sent_by_entries g (drop k g.queue))
    → Placed before memory' r (undone_from k g)

-- the same of the entry in queue place k alone
abbrev pub CanUndoPlace : List ℕ → Header → ℕ → Type 0
CanUndoPlace memory h k =
    (before : List ℕ) × (g : Gateway) × (xs : List Entry) × (e : Entry) × (zs : List Entry)
    × Between k g.queue xs e zs × MaySendBack before g memory h (sent_by_entries g (e ∷ []))

abbrev pub UndoesPlace : List ℕ → List ℕ → Header → ℕ → Header → Type 0
UndoesPlace memory memory' h k r =
    (before : List ℕ) (g : Gateway) (xs : List Entry) (e : Entry) (zs : List Entry) → Between k g.queue xs e zs
    → MaySendBack before g memory h (sent_by_entries g (e ∷ []))
    → Placed before memory' r (with_queue (xs ++ (undone e ∷ zs)) (rolled_back (processed_of (e ∷ [])) g))

-- the same of an entry, its place in the queue left alone
abbrev pub CanUndoEntry : List ℕ → Header → Entry → Type 0
CanUndoEntry memory h e = (before : List ℕ) × (g : Gateway) × EntryFits e × MaySendBack before g memory h (sent_by_entries g (e ∷ []))

abbrev pub UndoesEntry : List ℕ → List ℕ → Header → Entry → Header → Type 0
UndoesEntry memory memory' h e r =
    (before : List ℕ) (g : Gateway) → EntryFits e → MaySendBack before g memory h (sent_by_entries g (e ∷ []))
    → Placed before memory' r (rolled_back (processed_of (e ∷ [])) g)

-- the entry in queue place k is taken out, undone with the processed ones behind it; nothing was stored before
abbrev pub CanTakeOut : List ℕ → Header → ℕ → Type 0
CanTakeOut memory h k =
    (g : Gateway) × (k < length g.queue) × MaySendBack memory g memory h (sent_by_entries g (drop k g.queue))

abbrev pub TakesOut : List ℕ → List ℕ → Header → ℕ → Header → Type 0
TakesOut memory memory' h k r =
    (g : Gateway) → k < length g.queue → MaySendBack memory g memory h (sent_by_entries g (drop k g.queue))
    → Placed memory memory' r (taken_out k g)
