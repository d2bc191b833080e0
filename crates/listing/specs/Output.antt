-- What the program arcs prints for each input, byte by byte.
use Rattle.std.specs.Prelude.{◌≡◌, Result, Ok, Err, unwrap_or, cond, List, [], ◌∷◌, ◌++◌, map, ℕ, zero, suc, ◌-◌, ◌≤◌, leb, eqb, length, get_or, take}
use Rattle.lists.specs.Lists.{joined}
use Rattle.buffer.specs.Slice.{write}
use Rattle.routing.specs.Arcs.{Arc, arcs, arc_count, round_messages}
use Rattle.refusal.specs.declared.Refusal.{Refusal}
use Rattle.refusal.specs.declared.Refusal.TheVariants.{NoRoom}
use Rattle.text.specs.Decimal.{decimal, spelled}

-- A blank and a line end.
abbrev pub blank : ℕ
blank = 32

abbrev pub line_end : ℕ
line_end = 10

-- The words "nodes ", " arcs " and " round ".
abbrev pub nodes_word : List ℕ
nodes_word = 110 ∷ 111 ∷ 100 ∷ 101 ∷ 115 ∷ blank ∷ []

abbrev pub arcs_word : List ℕ
arcs_word = blank ∷ 97 ∷ 114 ∷ 99 ∷ 115 ∷ blank ∷ []

abbrev pub round_word : List ℕ
round_word = blank ∷ 114 ∷ 111 ∷ 117 ∷ 110 ∷ 100 ∷ blank ∷ []

-- The first line: N, the number of arcs and the messages of a round.
unfoldable pub first_line : (N arcs messages : ℕ) → List ℕ
first_line N arcs messages =
    (nodes_word ++ decimal N) ++ (arcs_word ++ decimal arcs) ++ (round_word ++ decimal messages) ++ (line_end ∷ [])

-- A line an arc: from and to.
unfoldable pub arc_line : Arc → List ℕ
arc_line a = decimal a.0 ++ (blank ∷ []) ++ decimal a.1 ++ (line_end ∷ [])

-- The lines of the arcs from one gateway.
unfoldable pub lines_from : ℕ → List ℕ → List ℕ
lines_from own numbers = joined arc_line (map (λ (j : ℕ). (own, j)) numbers)

-- The listing of N, and 8 alone for 0.
unfoldable pub listing : (N : ℕ) → List ℕ
listing zero = 56 ∷ line_end ∷ []
listing (suc n) = first_line (suc n) (arc_count (suc n)) (round_messages (suc n)) ++ joined arc_line (arcs (suc n))

-- The input without the one line end that may stand last.
unfoldable pub without_end : List ℕ → List ℕ
without_end input = cond (eqb (get_or input (length input - 1) 0) line_end) (take (length input - 1) input) input

-- N as the input gives it: a number up to 65,535 in decimal without leading zeros, with at most one line end after it; else 0.
unfoldable pub number_in : (input : List ℕ) → ℕ
number_in input = unwrap_or (spelled 65535 (without_end input)) 0

-- All that the program prints.
unfoldable pub printed : (input : List ℕ) → List ℕ
printed input = listing (number_in input)

-- What render answers, how many bytes it put or why not, and the output afterwards.
pub record RenderResult : Type 0 where
  pub answer : Result ℕ Refusal
  pub out : List ℕ

-- All of the bytes at the front of the output, the rest unchanged; where there is too little room 5, and nothing is written.
unfoldable pub rendered : (bytes out : List ℕ) → RenderResult
rendered bytes out =
    cond (leb (length bytes) (length out))
    (record { answer = Ok (length bytes); out = write 0 bytes out })
    (record { answer = Err NoRoom; out = out })

-- What render does with an input.
unfoldable pub rendering : (input out : List ℕ) → RenderResult
rendering input out = rendered (printed input) out

-- What holds of the output.
pub record Laws : Type 0 where
  -- a number from 1 to 65,535 in decimal without leading zeros, with at most one line end after it, gives its listing
  pub listed : (N : ℕ) → 1 ≤ N → N ≤ 65535
      → (printed (decimal N) ≡ listing N) × (printed (decimal N ++ (line_end ∷ [])) ≡ listing N)
  -- every other input gives 8 alone
  pub refused : (input : List ℕ)
      → ((N : ℕ) → 1 ≤ N → N ≤ 65535 → (input ≡ decimal N → ⊥) × (input ≡ decimal N ++ (line_end ∷ []) → ⊥))
      → printed input ≡ 56 ∷ line_end ∷ []
  -- sixteen bytes of the input tell as much as all
  pub sixteen : (input : List ℕ) → printed (take 16 input) ≡ printed input
  -- 1,100,000 bytes hold all that is ever printed
  pub held : (input : List ℕ) → length (printed input) ≤ 1100000
