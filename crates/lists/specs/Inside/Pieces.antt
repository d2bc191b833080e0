-- The pieces of a list by their positions, and a pass over them.
use Rattle.std.specs.Prelude.{ℕ, ◌+◌, min, Bool, not, List, eqb, length, drop, get_or}
use Rattle.lists.specs.Lists.{cut_by}

-- the pieces from a position on
unfoldable pub pieces_from : (ℕ → ℕ) → List ℕ → ℕ → List (List ℕ)
pieces_from size list at = cut_by size (length (drop at list)) (drop at list)

-- the position behind the piece that begins at a position: by its first element, or the list's end where that is nearer
unfoldable pub piece_end : (ℕ → ℕ) → List ℕ → ℕ → ℕ
piece_end size list at = min (length list) (at + size (get_or list at 0))

-- f gives a number other than 0
abbrev pub is_refused : {A : Type 0} → (A → ℕ) → A → Bool
is_refused f x = not (eqb (f x) 0)
