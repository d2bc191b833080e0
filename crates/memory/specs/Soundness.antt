-- When lent memory is sound; if not, a call answers 10.
use Rattle.std.specs.Prelude.{ℕ, Bool, ◌&&◌, List, leb, length, get_or}
use Rattle.lists.specs.Lists.{every}
use Rattle.buffer.specs.Slice.{same_bytes}
use Rattle.memory.specs.Layout.{header_size, queue_size, outstanding_size, outstanding_at, size_for}
use Rattle.memory.specs.Codec.{header_at, decode, entry_bytes, entry_of, sent_bytes, sent_of, places_at}
use Rattle.memory.specs.Validity.{valid}

-- a used place holds just the bytes of what it is read as
abbrev pub entry_exact : List ℕ → Bool
entry_exact b = same_bytes (entry_bytes (entry_of b)) b

abbrev pub sent_exact : List ℕ → Bool
sent_exact b = same_bytes (sent_bytes (sent_of b)) b

-- sound memory: long enough for a header and for its settings, a phase that there is, every used place holds a message in its
-- one form, and the gateway that it holds is valid
unfoldable pub sound : List ℕ → Bool
sound m =
    let h = header_at m in
    leb header_size (length m)
    && leb (size_for h.settings.q h.settings.u) (length m)
    && leb (get_or m 3 0) 2
    && every entry_exact (places_at (λ b. b) queue_size m header_size h.queued)
    && every sent_exact (places_at (λ b. b) outstanding_size m (outstanding_at h.settings.q 0) h.outstanding)
    && valid (decode m)
