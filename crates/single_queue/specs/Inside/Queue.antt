-- The queue of the single queue.
use Rattle.std.specs.Prelude.{ℕ, cond, List, ltb, length, insert}
use Rattle.std.specs.List.{position_or_len}
use Rattle.memory.specs.Validity.{later}
use Rattle.model.specs.declared.Message.{Message}

-- where the first message stands that is later than a message, or the end of the queue
abbrev pub place_of : List Message → Message → ℕ
place_of queue m = position_or_len (λ other. later other m) queue

-- a message entered behind those that are not later; where there is no place for it the queue stays
abbrev pub entered : ℕ → List Message → Message → List Message
entered places queue m = cond (ltb (length queue) places) (insert queue (place_of queue m) m) queue
