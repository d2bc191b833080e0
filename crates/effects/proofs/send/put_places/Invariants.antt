use Rattle.std.proofs.Common.{◌≡◌}
use Rattle.gateway.specs.Effects.{bytes_of_frames}
use Rattle.effects.specs.Inside.Sending.{stored_frames, advanced_by}
use Rattle.effects.proofs.send.put_places.Given as goal

abbrev pub invariant-loop-k : goal.invariant-loop-k
invariant-loop-k l = l.writer ≡ advanced_by (bytes_of_frames (stored_frames l.memory l.place l.k)) l.fn.writer
