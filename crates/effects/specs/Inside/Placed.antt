-- Memory between the first store of a call and its last: the places hold a gateway's queue and what it has outstanding, and its
-- header is a value that is written last.
use Rattle.std.specs.Prelude.{◌≡◌, ℕ, ◌+◌, ◌-◌, ◌*◌, List}
use Rattle.lists.specs.Lists.{joined}
use Rattle.buffer.specs.Slice.{part, write}
use Rattle.memory.specs.Records.{Gateway, header_of}
use Rattle.memory.specs.Layout.{header_size, queue_size, queue_at, outstanding_at}
use Rattle.memory.specs.Codec.{entry_bytes, sent_bytes}
use Rattle.memory.specs.Inside.Fits.{GatewayFits, Room}
use Rattle.memory.specs.declared.Header.{Header}
use Rattle.memory.specs.declared.Entry.{Entry}

-- the memory `memory` has g's places, written over `before`, and h is g's header
pub record Placed (before memory : List ℕ) (h : Header) (g : Gateway) : Type 0 where
  pub fits : GatewayFits g
  pub room : Room g before
  pub header : h ≡ header_of g
  pub places : memory ≡ write (outstanding_at g.settings.q 0) (joined sent_bytes g.outstanding) (write header_size (joined entry_bytes g.queue) before)

-- the memory after an entry was put into queue place k of so many that are used, those from there on moved up
abbrev pub entry_inserted : ℕ → ℕ → Entry → List ℕ → List ℕ
entry_inserted queued k e m =
    write (queue_at k) (entry_bytes e) (write (queue_at k + queue_size) (part m (queue_at k) (queue_size * (queued - k))) m)
