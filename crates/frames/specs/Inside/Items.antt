-- The items of the program's input, for the contract of the function that reads them.
use Rattle.std.specs.Prelude.{ℕ, List, []}
use Rattle.frames.specs.declared.Item.{Item}
use Rattle.frames.specs.declared.Item.TheVariants.{Whole, Cut}

-- the bytes of an item; none of one that the input cuts
abbrev pub bytes_of : Item → List ℕ
bytes_of (Whole bytes) = bytes.now
bytes_of Cut = []
