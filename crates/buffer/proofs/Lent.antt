-- Lent bytes: what a function is told of a slice, and that parts of bytes are bytes.
use mathlib.Core.List.{List, [], ◌∷◌}
use Prim.Native.Nat.{ℕ, zero, suc, ◌+◌}
use lib.Dec.{lit<}
use lib.ListN.{get_or, take, drop}
use lib.Seq.{get_or-drop}
use mir.Syntax.{w8}
use mir.Val.{Fits}
use Rattle.buffer.specs.Slice.{Bytes, part}

-- the bytes of a slice, from what a function is told of it
pub bytes-known : (m : List ℕ) → ((i : ℕ) → Fits w8 (get_or m i 0)) → Bytes m
bytes-known m told = λ i. (told i).fits

-- a part of bytes is bytes
pub bytes_take : (n : ℕ) (l : List ℕ) → Bytes l → Bytes (take n l)
bytes_take zero l h i = lit< tt
bytes_take (suc n) [] h i = lit< tt
bytes_take (suc n) (x ∷ l) h zero = h 0
bytes_take (suc n) (x ∷ l) h (suc i) = bytes_take n l (λ j. h (suc j)) i

pub bytes_drop : (n : ℕ) (l : List ℕ) → Bytes l → Bytes (drop n l)
bytes_drop n l h i = rw (get_or-drop n l i 0) (h (n + i))

pub bytes-part : (m : List ℕ) (at n : ℕ) → Bytes m → Bytes (part m at n)
unfolding part
bytes-part m at n h = bytes_take n (drop at m) (bytes_drop at m h)
