-- What is proved of the bytes of a gateway beside the contracts.
use Rattle.std.specs.Prelude.{◌≡◌, ℕ, ◌+◌, ◌*◌, ◌≤◌, true, List, length}
use Rattle.buffer.specs.Slice.{Bytes, part}
use Rattle.memory.specs.Records.{Gateway}
use Rattle.memory.specs.Ranges.{Ranged}
use Rattle.memory.specs.Layout.{header_size, front_size, back_at, back_size, queue_size, outstanding_size, outstanding_at, size_for}
use Rattle.memory.specs.Codec.{decode, encode}
use Rattle.memory.specs.Validity.{valid}
use Rattle.memory.specs.Soundness.{sound}

-- the n bytes from position from on have none in common with the size bytes from position at on
pub data Apart (from n at size : ℕ) : Type 0 where
  before : from + n ≤ at → Apart from n at size
  after : at + size ≤ from → Apart from n at size

-- these bytes are none that a gateway is written to: not the header's used ones, nor a used place
pub record Untouched (g : Gateway) (from n : ℕ) : Type 0 where
  pub front : Apart from n 0 front_size
  pub back : Apart from n back_at back_size
  pub queue : Apart from n header_size (queue_size * length g.queue)
  pub outstanding : Apart from n (outstanding_at g.settings.q 0) (outstanding_size * length g.outstanding)

-- a valid gateway whose numbers fit, written over memory that is long enough: what is written is read again, the memory is
-- sound, as long as it was and made of bytes, no byte changes but those that the gateway is written to, and none past the last place
pub record WritingLaws (g : Gateway) (m : List ℕ) : Type 0 where
  pub again : decode (encode g m) ≡ g
  pub sound-after : sound (encode g m) ≡ true
  pub as_long : length (encode g m) ≡ length m
  pub bytes_after : Bytes m → Bytes (encode g m)
  pub elsewhere : (from n : ℕ) → Untouched g from n → part (encode g m) from n ≡ part m from n
  pub rest : (n : ℕ) → part (encode g m) (size_for g.settings.q g.settings.u) n ≡ part m (size_for g.settings.q g.settings.u) n

-- sound memory holds a valid gateway whose numbers fit, and that gateway written over it changes nothing
pub record ReadingLaws (m : List ℕ) : Type 0 where
  pub valid-held : valid (decode m) ≡ true
  pub ranged : Ranged (decode m)
  pub long : size_for (decode m).settings.q (decode m).settings.u ≤ length m
  pub again : encode (decode m) m ≡ m

-- all of it
pub record CodecLaws : Type 0 where
  pub writing : (g : Gateway) (m : List ℕ) → valid g ≡ true → Ranged g → size_for g.settings.q g.settings.u ≤ length m → WritingLaws g m
  pub reading : (m : List ℕ) → Bytes m → sound m ≡ true → ReadingLaws m
