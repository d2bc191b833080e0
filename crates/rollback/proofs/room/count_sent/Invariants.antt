use Prim.Native.Nat.{◌≤◌, ◌+◌, ◌-◌}
use lib.ListN.{length}
use Rattle.memory.specs.Layout.{queue_at, queue_size}
use Rattle.memory.specs.Records.{site_of}
use Rattle.memory.specs.Codec.{places_at, entry_of}
use Rattle.gateway.specs.Undoing.{processed_of, sent_back}
use Rattle.rollback.proofs.RoomLaws.{Counted}
use Rattle.rollback.proofs.room.count_sent.Given as goal

abbrev pub invariant-loop-i : goal.invariant-loop-i
invariant-loop-i l =
    (l.sent + l.k ≤ l.i)
    × Counted (site_of l.header.settings) l.memory l.header.queued (length (sent_back (site_of l.header.settings) (processed_of (places_at entry_of queue_size
    l.memory (queue_at l.k) (l.header.queued - l.k))))) l.i l.sent
