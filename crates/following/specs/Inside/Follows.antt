-- What the test of neighbours computes. No reader has to believe it.
use Rattle.std.specs.Prelude.{Bool, not, ◌&&◌}
use Rattle.memory.specs.Validity.{later, meet}
use Rattle.memory.specs.declared.Entry.{Entry}

-- an entry may be the next behind another
abbrev pub entry_follows : Entry → Entry → Bool
entry_follows before e = not (later before.message e.message) && not (meet before e)
