-- How rounds end: which are closed, and which of these are completed.
use Rattle.std.specs.Prelude.{◌≡◌, ℕ, ◌-◌, true, cond, ◌&&◌, leb}
use mathlib.Core.List.{List, Memᴰ}
use Rattle.run.specs.Forecast.{SetUpInput, Forecast}
use Rattle.run.specs.World.{World, Call, Carried, Rounds, kind_in, opening_world, after_calls, AllAllowed}
use Rattle.run.specs.Demand3.{Completed}

-- how many rounds have ended: all that were opened, but for the open one
abbrev pub ended : Rounds → ℕ
ended r = cond r.open? (r.opened - 1) r.opened

-- After every list of calls that demand 3 allows, closed are just the rounds from 1 to that number.
abbrev pub EndedAreClosed : Type 0
EndedAreClosed =
    (n last : ℕ) (setups : ℕ → SetUpInput) (lent : ℕ → List ℕ) → Forecast n last setups lent
    → (calls : List Call) → AllAllowed n (opening_world setups lent) calls
    → let r = (after_calls n (opening_world setups lent) calls).rounds in
    (t : ℕ) → r.closed t ≡ (leb 1 t && leb t (ended r))

-- an Update of round t is under way
abbrev pub UpdateUnderWay : World → ℕ → Type 0
UpdateUnderWay w t = (c : Carried) × Memᴰ c w.under_way × (kind_in c.frame ≡ 6) × (c.tag ≡ t)

-- And a closed round is completed just where no Update of it is under way.
abbrev pub AllTakenIsCompleted : Type 0
AllTakenIsCompleted =
    (n last : ℕ) (setups : ℕ → SetUpInput) (lent : ℕ → List ℕ) → Forecast n last setups lent
    → (calls : List Call) → AllAllowed n (opening_world setups lent) calls
    → let w = after_calls n (opening_world setups lent) calls in
    (t : ℕ) → w.rounds.closed t ≡ true
    → ((UpdateUnderWay w t → ⊥) → Completed n w.rounds t) × (Completed n w.rounds t → UpdateUnderWay w t → ⊥)
