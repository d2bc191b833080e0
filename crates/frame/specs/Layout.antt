-- The map (presence bitmap) and the fields of a frame: first one byte, the map; then only the fields whose bit stands, in bit order.
use Rattle.std.specs.Prelude.{ℕ, ◌+◌, ◌/◌, ◌%◌, Bool, cond, List, [], ◌∷◌, eqb}
use Rattle.lists.specs.Lists.{tally}
use Rattle.buffer.specs.Slice.{part}

-- a gateway number takes one byte
abbrev pub gateway_width : ℕ
gateway_width = 1

-- a lamp identifier takes eighteen
abbrev pub lamp_width : ℕ
lamp_width = 18

-- the widths of the fields in bytes, bit 0 first: kind, from, to, hour, origin, lamp, quantity, sense
abbrev pub widths : List ℕ
widths = 1 ∷ gateway_width ∷ gateway_width ∷ 4 ∷ gateway_width ∷ lamp_width ∷ 2 ∷ 1 ∷ []

-- the lowest bit stands
abbrev pub odd : ℕ → Bool
odd map = eqb (map % 2) 1

-- of a list with an entry for each bit, those whose bit stands in the map
unfoldable pub standing : {A : Type 0} → ℕ → List A → List A
standing map [] = []
standing map (x ∷ xs) = let rest = standing (map / 2) xs in cond (odd map) (x ∷ rest) rest

-- the whole length of a frame with that map: the map's own byte and the fields whose bit stands
unfoldable pub whole_length : ℕ → ℕ
unfolding standing tally
whole_length map = 1 + tally (λ n. n) (standing map widths)

-- the bytes of s from a position on, cut into a field for each bit; a field whose bit does not stand has no bytes
unfoldable pub cut : ℕ → ℕ → List ℕ → List ℕ → List (List ℕ)
cut at map [] s = []
cut at map (w ∷ ws) s =
    let n = cond (odd map) w 0 in
    part s at n ∷ cut (at + n) (map / 2) ws s
