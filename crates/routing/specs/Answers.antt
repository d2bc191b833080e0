-- What the calls of routing answer: the result, or the refusal 8 for a number outside its range.
use Rattle.std.specs.Prelude.{Bool, cond, ◌&&◌, ℕ, leb, ltb, Result, Ok, Err}
use Rattle.refusal.specs.declared.Refusal.{Refusal}
use Rattle.refusal.specs.declared.Refusal.TheVariants.{OutOfRange}
use Rattle.routing.specs.declared.Neighbours.{Neighbours}
use Rattle.routing.specs.declared.Totals.{Totals}
use Rattle.routing.specs.AtMostTwo.{at_most_two}
use Rattle.routing.specs.Arcs.{from, to, arc_count, round_messages}

-- N from 1 to 65,535.
abbrev pub in_range : ℕ → Bool
in_range N = leb 1 N && leb N 65535

-- Demand 2: "For 1 to 65,535 gateways each one's neighbours are those of the memo's configuration code".
-- The neighbours of a gateway by N and its own number, which is below N.
unfoldable pub neighbours_of : (N own : ℕ) → Result Neighbours Refusal
neighbours_of N own =
    cond (in_range N && ltb own N) (Ok (record { from = at_most_two (from N own); to = at_most_two (to N own) })) (Err OutOfRange)

-- The number of arcs and the messages of a round by N.
unfoldable pub totals_of : (N : ℕ) → Result Totals Refusal
totals_of N = cond (in_range N) (Ok (record { arcs = arc_count N; messages = round_messages N })) (Err OutOfRange)
