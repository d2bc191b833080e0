-- What a writer of the output is once a frame is put.
use Rattle.std.specs.Prelude.{◌+◌, length}
use denote.Ref.{at_last}
use Rattle.buffer.specs.Slice.{write}
use Rattle.frame.specs.Writing.{written}
use Rattle.frame.specs.declared.Frame.{Frame}
use Rattle.writer.specs.declared.outgoing.Writer.{Writer}

-- the same output with the frame's bytes at the writer's position, and the position behind them
abbrev pub advanced : Writer → Frame → Writer
advanced w f = record {
  output = at_last w.output (write w.at (written f) w.output.now);
  at = w.at + length (written f);
}
