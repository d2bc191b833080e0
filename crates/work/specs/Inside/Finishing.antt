-- The end of work: the frames of what was sent are put out from the outstanding places, and the header is written.
use Rattle.std.specs.Prelude.{◌≡◌, ℕ, ◌-◌, ◌≤◌, List, length}
use Rattle.buffer.specs.Slice.{write}
use Rattle.memory.specs.Layout.{header_used, outstanding_at}
use Rattle.memory.specs.Inside.Pieces.{header_written}
use Rattle.memory.specs.declared.Header.{Header}
use Rattle.gateway.specs.Effects.{bytes_of_frames}
use Rattle.gateway.specs.declared.Worked.{Worked}
use Rattle.effects.specs.Inside.Sending.{stored_frames}
use Rattle.replies.specs.declared.Turn.{Turn}

-- the bytes of the frames of what was sent between two headers
abbrev pub bytes_between : List ℕ → Header → Header → List ℕ
bytes_between memory first last =
    bytes_of_frames (stored_frames memory (outstanding_at first.settings.q first.outstanding) (last.outstanding - first.outstanding))

-- the memory holds it, and the output has room for its frames
pub record MayFinish (memory output : List ℕ) (first last : Header) : Type 0 where
  pub long : header_used ≤ length memory
  pub more : first.outstanding ≤ last.outstanding
  pub places : outstanding_at first.settings.q last.outstanding ≤ length memory
  pub room : length (bytes_between memory first last) ≤ length output

-- the frames are put out, and the header is written
pub record Finishes (memory output memory' output' : List ℕ) (first : Header) (t : Turn) (count : ℕ) (r : Worked) : Type 0 where
  pub answer : r ≡ record { count = count; stopped = t.why; written = length (bytes_between memory first t.header) }
  pub stored : memory' ≡ header_written t.header memory
  pub put : output' ≡ write 0 (bytes_between memory first t.header) output
