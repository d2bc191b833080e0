-- Stretches of the memory's bytes that one function writes.
use Rattle.std.specs.Prelude.{List, ℕ}
use Rattle.buffer.specs.Slice.{write}
use Rattle.memory.specs.Layout.{back_at}
use Rattle.memory.specs.Codec.{header_front, header_back}
use Rattle.memory.specs.declared.Header.{Header}

-- the memory with a header written over it
abbrev pub header_written : Header → List ℕ → List ℕ
header_written h m = write back_at (header_back h) (write 0 (header_front h) m)
