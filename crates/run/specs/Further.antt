-- What is claimed of every run beyond demand 3.
use Rattle.std.specs.Prelude.{◌≡◌, ℕ, ◌<◌}
use mathlib.Core.List.{List, Memᴰ}
use Rattle.frame.specs.Limits.{nothing_due, addressee}
use Rattle.frame.specs.Reasons.{frame_read}
use Rattle.gateway.specs.Calls.{taken, started, committed, worked_off, set_up}
use Rattle.run.specs.Forecast.{SetUpInput, Forecast}
use Rattle.run.specs.World.{World, Call, works, takes, starts, commits, sets_up, Carried, opening_world, after_call, after_calls, AllAllowed}
use Rattle.run.specs.Demand3.{agreed, NothingToCommit}

-- the gateway that a frame is addressed to
abbrev pub receiver : List ℕ → ℕ
receiver bytes = let f = (frame_read bytes) in addressee f.sense f.message

-- No frame under way is turned down at its addressee but for want of room, with 5: it is of the forms, its numbers and its hour
-- are in their ranges, it is not below the agreed time, in its turn, and of something outstanding.
abbrev pub OnlyForRoom : Type 0
OnlyForRoom =
    (n last : ℕ) (setups : ℕ → SetUpInput) (lent : ℕ → List ℕ) → Forecast n last setups lent
    → (calls : List Call) → AllAllowed n (opening_world setups lent) calls
    → let w = after_calls n (opening_world setups lent) calls in
    (c : Carried) → Memᴰ c w.under_way → (output : List ℕ)
    → let number = (taken (w.memories (receiver c.frame)) c.frame output).answer.number in
    (receiver c.frame < n) × ((number ≡ 0 → ⊥) → number ≡ 5)

-- Two runs of one forecast have the same record at a gateway where both are whole, whatever the calls and the carrier were.
abbrev pub SameRecords : Type 0
SameRecords =
    (n last : ℕ) (setups : ℕ → SetUpInput) (lent lent' : ℕ → List ℕ) → Forecast n last setups lent → Forecast n last setups lent'
    → (calls calls' : List Call) → AllAllowed n (opening_world setups lent) calls → AllAllowed n (opening_world setups lent') calls'
    → let w = after_calls n (opening_world setups lent) calls in
    let v = after_calls n (opening_world setups lent') calls' in
    (i : ℕ) → i < n
    → agreed w i ≡ nothing_due → NothingToCommit w i
    → agreed v i ≡ nothing_due → NothingToCommit v i
    → w.records i ≡ v.records i

-- the call is refused in the world w, or is work that does no event
abbrev pub DoesNothing : ℕ → World → Call → Type 0
DoesNothing n w (works i b output) = (i < n) × ((worked_off b (w.memories i) output).answer.count ≡ 0)
DoesNothing n w (takes i frame output) = (taken (w.memories i) frame output).answer.number ≡ 0 → ⊥
DoesNothing n w (starts i output) = (started (w.memories i) output).answer.number ≡ 0 → ⊥
DoesNothing n w (commits i output) = (committed (w.memories i) output).answer.number ≡ 0 → ⊥
DoesNothing n w (sets_up i opening list) = (set_up opening list (w.memories i)).answer.number ≡ 0 → ⊥

-- Such a call changes nothing.
abbrev pub NothingChanged : Type 0
NothingChanged =
    (n last : ℕ) (setups : ℕ → SetUpInput) (lent : ℕ → List ℕ) → Forecast n last setups lent
    → (calls : List Call) → AllAllowed n (opening_world setups lent) calls
    → let w = after_calls n (opening_world setups lent) calls in
    (c : Call) → DoesNothing n w c → after_call n w c ≡ w
