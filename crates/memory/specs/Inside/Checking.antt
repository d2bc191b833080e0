-- What the test of soundness finds in lent memory.
use Rattle.std.specs.Prelude.{cond, List, ℕ, leb, length, Result, Ok, Err}
use Rattle.memory.specs.Layout.{header_size}
use Rattle.memory.specs.Codec.{header_at}
use Rattle.memory.specs.Validity.{no_state}
use Rattle.memory.specs.Soundness.{sound}
use Rattle.memory.specs.declared.Header.{Header}
use Rattle.memory.specs.declared.Unsound.{Unsound}
use Rattle.memory.specs.declared.Phase.TheVariants.{Idle}

-- a header of zeros
abbrev pub blank_header : Header
blank_header = record {
  settings = record { n = 0; own = 0; supplier = 0; last = 0; q = 0; u = 0; hours = record { request = 0; delivery = 0; life = 0 } };
  state = no_state;
  agreed = 0;
  round = record { phase = Idle; arrived = 0; note = 0 };
  queued = 0;
  outstanding = 0;
}

-- the header of memory that is long enough for one; else one of zeros
abbrev pub header_in : List ℕ → Header
header_in m = cond (leb header_size (length m)) (header_at m) blank_header

-- the header of memory that is sound; other memory is refused, with the header that it has
abbrev pub checked_as : List ℕ → Result Header Unsound
checked_as m = cond (sound m) (Ok (header_at m)) (Err (record { header = header_in m }))
