-- Bytes put into buffers of fixed memory, for the contracts of the example's parts. No call's own contract cites this file.
use Rattle.std.specs.Prelude.{ℕ, ◌+◌, cond, List, ◌++◌, leb, length, take}

-- bytes put behind those of a buffer; where there is no room for them it stays
abbrev pub put : ℕ → List ℕ → List ℕ → List ℕ
put room buffer bytes = cond (leb (length buffer + length bytes) room) (buffer ++ bytes) buffer

-- the first count bytes of an output put behind those of a buffer; where the output has fewer it stays
abbrev pub appended : ℕ → List ℕ → List ℕ → ℕ → List ℕ
appended room buffer output count = cond (leb count (length output)) (put room buffer (take count output)) buffer
