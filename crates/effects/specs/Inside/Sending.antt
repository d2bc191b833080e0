-- Sending messages and cancels: the header after it, and the frames of what outstanding places hold.
use Rattle.std.specs.Prelude.{ℕ, ◌+◌, suc, List, map, length}
use denote.Ref.{at_last}
use Rattle.buffer.specs.Slice.{write}
use Rattle.frame.specs.declared.Frame.{Frame}
use Rattle.memory.specs.Layout.{outstanding_size}
use Rattle.memory.specs.Codec.{sent_of, places_at}
use Rattle.memory.specs.Validity.{frame_if}
use Rattle.memory.specs.declared.Header.{Header}
use Rattle.memory.specs.declared.Sent.{Sent}
use Rattle.writer.specs.declared.outgoing.Writer.{Writer}
use Rattle.gateway.specs.Effects.{noted}

-- the header after it is sent: one more is outstanding, and the note may be lower
abbrev pub header_sent : ℕ → Header → Header
header_sent hour h = record {
  settings = h.settings;
  state = h.state;
  agreed = h.agreed;
  round = noted hour h.round;
  queued = h.queued;
  outstanding = suc h.outstanding;
}

-- the frame of what is outstanding
abbrev pub frame_of : Sent → Frame
frame_of s = frame_if s.cancel s.message

-- the frames of what so many outstanding places hold, from a position of the memory on
abbrev pub stored_frames : List ℕ → ℕ → ℕ → List Frame
stored_frames m place count = map frame_of (places_at sent_of outstanding_size m place count)

-- a writer once bytes are put: the same output with them at its position, and the position behind them
abbrev pub advanced_by : List ℕ → Writer → Writer
advanced_by bytes w = record { output = at_last w.output (write w.at bytes w.output.now); at = w.at + length bytes }
