-- Entering a queue place, the room for it, and what a cancel does that meets an equal plain message in a known place.
use Rattle.std.specs.Prelude.{ℕ, suc, ◌+◌, ◌*◌, ◌≤◌, Bool, true, ◌&&◌, ◌≡◌, List, ◌∷◌, ◌++◌, leb, length, take, drop}
use Rattle.model.specs.declared.Message.{Message}
use Rattle.memory.specs.Records.{Gateway}
use Rattle.memory.specs.Codec.{encode}
use Rattle.memory.specs.Inside.Fits.{EntryFits}
use Rattle.memory.specs.declared.Entry.{Entry}
use Rattle.memory.specs.declared.Header.{Header}
use Rattle.gateway.specs.Effects.{Effect, frames_for, with_queue}
use Rattle.gateway.specs.Taking.{acknowledgment}
use Rattle.effects.specs.Inside.Placed.{Placed}
use Rattle.rollback.specs.Inside.Undone.{sent_by_entries, taken_out}

-- the memory holds g's places, and the entry may enter its queue at place k
pub record MayEnter (before : List ℕ) (g : Gateway) (memory : List ℕ) (h : Header) (k : ℕ) (e : Entry) : Type 0 where
  pub placed : Placed before memory h g
  pub entry : EntryFits e
  pub place : k ≤ length g.queue
  pub room : suc (length g.queue) ≤ g.settings.q

-- the plain message in queue place k goes, undone with the processed ones behind it
unfoldable pub struck_out : ℕ → Message → Gateway → Effect
unfolding taken_out
struck_out k m g = record { gateway = taken_out k g; frames = acknowledgment true m ∷ frames_for true (sent_by_entries g (drop k g.queue)) }

-- the memory may hold a gateway whose queue the entry may enter, and in every such one it has entered
abbrev pub CanEnter : List ℕ → Header → ℕ → Entry → Type 0
CanEnter memory h k e = (before : List ℕ) × (g : Gateway) × MayEnter before g memory h k e

abbrev pub Enters : List ℕ → List ℕ → Header → ℕ → Entry → Type 0
Enters memory memory' h k e =
    (before : List ℕ) (g : Gateway) → MayEnter before g memory h k e → memory' ≡ encode (with_queue (take k g.queue ++ (e ∷ drop k g.queue)) g) before

-- so many used queue places, so many more outstanding ones, and as many cancels and an acknowledgment, of 28 bytes each, in so many bytes
abbrev pub enough : Header → ℕ → ℕ → ℕ → Bool
enough h queued sent room = leb queued h.settings.q && leb (h.outstanding + sent) h.settings.u && leb (28 * (sent + 1)) room
