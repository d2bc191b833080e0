-- Examples of the balance's call for C, as one table.
use Rattle.std.specs.Prelude.{◌≡◌, ℕ, List, [], ◌∷◌, ◌++◌}
use Rattle.records.specs.ExampleRecords.{blanks, failure_frame, restock_frame, state}
use Rattle.hurfaith.specs.Exported.{BalanceResult, balance_given}

-- a Restock of 300, and a Failure whose lamp is of blanks
abbrev restocked : List ℕ
restocked = restock_frame 258 300 ++ state 301 0 0 0

abbrev bad : List ℕ
bad = failure_frame 10 blanks ++ state 0 1 0 0

-- the call left this
abbrev left : ℕ → List ℕ → BalanceResult
left answer figures = record { answer = answer; figures = figures }

pub record BalanceCallExamples : Type 0 where
  -- the figures at the front; elements behind them are as they were
  pub figures : balance_given 1 restocked (7 ∷ 7 ∷ 7 ∷ 7 ∷ 8 ∷ []) ≡ left 0 (300 ∷ 0 ∷ 301 ∷ 7 ∷ 8 ∷ [])
  -- an array of exactly three, for an empty record
  pub three : balance_given 5 [] (7 ∷ 7 ∷ 7 ∷ []) ≡ left 0 (0 ∷ 0 ∷ 5 ∷ [])
  -- of two or none: 5, and nothing is written
  pub no_room : (balance_given 1 restocked (7 ∷ 7 ∷ []) ≡ left 5 (7 ∷ 7 ∷ [])) × (balance_given 1 restocked [] ≡ left 5 [])
  -- a refused record leaves the array as it was, and comes before 5; an opening stock of 65,536 comes before both
  pub refused : (balance_given 1 bad (7 ∷ 7 ∷ 7 ∷ []) ≡ left 12 (7 ∷ 7 ∷ 7 ∷ [])) × (balance_given 1 bad (7 ∷ []) ≡ left 12 (7 ∷ []))
  pub out_of_range : (balance_given 65536 restocked (7 ∷ 7 ∷ 7 ∷ []) ≡ left 8 (7 ∷ 7 ∷ 7 ∷ [])) × (balance_given 65536 bad (7 ∷ []) ≡ left 8 (7 ∷ []))
