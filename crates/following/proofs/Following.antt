-- Two neighbours of the queue, by their hours.
use mathlib.Core.Path.{◌≡◌}
use Prim.Native.Nat.{◌<◌}
use lib.Dec.{ltb}
use borrow.Author.Tests.{lt-ltb}
use Rattle.model.specs.EventOrder.{key, compared}
use Rattle.memory.specs.Validity.{later, equal}
use Rattle.following.specs.Inside.Follows.{entry_follows}
use Rattle.memory.specs.declared.Entry.{Entry}

-- a later hour decides
pub later-hour : (before e : Entry) → before.message.hour < e.message.hour → ltb before.message.hour e.message.hour ≡ entry_follows before e
unfolding later equal compared key
later-hour before e h = rw (lt-ltb before.message.hour e.message.hour h)
