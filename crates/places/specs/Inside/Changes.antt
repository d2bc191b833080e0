-- The memory with a place taken out.
use Rattle.std.specs.Prelude.{ℕ, List}
use Rattle.lists.specs.Inside.Positions.{without}
use Rattle.memory.specs.Codec.{decode, encode}
use Rattle.gateway.specs.Effects.{with_queue, with_outstanding}

-- the entry in queue place k
abbrev pub without_entry : ℕ → List ℕ → List ℕ
without_entry k m = encode (with_queue (without k (decode m).queue) (decode m)) m

-- what is outstanding in outstanding place k
abbrev pub without_sent : ℕ → List ℕ → List ℕ
without_sent k m = encode (with_outstanding (without k (decode m).outstanding) (decode m)) m
