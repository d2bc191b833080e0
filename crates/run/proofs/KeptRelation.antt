-- Every call that is allowed keeps the relation of both worlds, and so does every list of them.
use mathlib.Core.Path.{◌≡◌, refl, sym, subst}
use Prim.Native.Nat.{ℕ, ◌≤◌}
use mathlib.Core.Bool.{Bool, true, false}
use mathlib.Core.List.{List, [], ◌∷◌, ◌++◌}
use lib.Dec.{eqb}
use borrow.Author.Tests.{eqb-true}
use Rattle.gateway.specs.Calls.{taken, started, committed}
use Rattle.timewarp.specs.Worlds as Worlds
use Rattle.timewarp.proofs.CallChains.{steps-join}
use Rattle.run.specs.Forecast.{SetUpInput}
use Rattle.run.specs.World.{World, Call, works, takes, starts, commits, sets_up, after_call, after_calls, Allowed, AllAllowed}
use Rattle.run.proofs.RefusedCalls.{refused-set-up, refused-frame, refused-start, refused-commit}
use Rattle.run.proofs.BothWorlds.{Both, Keeps, forecast_setting}
use Rattle.run.proofs.WorkOnBytes.{works-kept}
use Rattle.run.proofs.CommitOnBytes.{commits-kept}
use Rattle.run.proofs.RoundsKept.{round-starts}
use Rattle.run.proofs.TakingsKept.{takes-kept}

module _ (n : ℕ) (some : 1 ≤ n) (last : ℕ) (setups : ℕ → SetUpInput) where
  -- a world that is as it was
  pub still : {w w' : World} {t : Worlds.World (forecast_setting n some last setups)} → Both n some last setups w t → w' ≡ w → Keeps n some last setups t w'
  still {t = t} b e = record { world = t; steps = Worlds.none; both = subst (λ (v : World). Both n some last setups v t) (sym e) b }

  -- one call after another
  pub keeps_then : {w w' : World} {t : Worlds.World (forecast_setting n some last setups)} (k : Keeps n some last setups t w) → Keeps n some
      last setups k.world w' → Keeps n some last setups t w'
  keeps_then k l = record { world = l.world; steps = steps-join k.steps l.steps; both = l.both }

  -- a call
  pub call-keeps : {w : World} {t : Worlds.World (forecast_setting n some last setups)} → Both n some last setups w t → (c : Call) → Allowed
      n w c → Keeps n some last setups t (after_call n w c)
  unfolding after_call
  call-keeps b (works i count output) h = works-kept n some last setups b i h count output
  call-keeps {w} {t} b (takes i frame output) h = by_answer (eqb (taken (w.memories i) frame output).answer.number 0) refl
    where
      by_answer : (x : Bool) → eqb (taken (w.memories i) frame output).answer.number 0 ≡ x → Keeps n some last setups t (after_call n w
          (takes i frame output))
      by_answer true e =
          let accepted = eqb-true (taken (w.memories i) frame output).answer.number 0 e in
          rw e (takes-kept n some last setups b i h.0 frame output h.1 accepted (h.2 accepted))
      by_answer false e = still b (refused-frame n w i frame output e)
  call-keeps {w} {t} b (starts i output) h = by_answer (eqb (started (w.memories i) output).answer.number 0) refl
    where
      by_answer : (x : Bool) → eqb (started (w.memories i) output).answer.number 0 ≡ x → Keeps n some last setups t (after_call n w (starts i output))
      by_answer true e = rw e (round-starts n some last setups b i h output (eqb-true (started (w.memories i) output).answer.number 0 e))
      by_answer false e = still b (refused-start n w i output e)
  call-keeps {w} {t} b (commits i output) h = by_answer (eqb (committed (w.memories i) output).answer.number 0) refl
    where
      by_answer : (x : Bool) → eqb (committed (w.memories i) output).answer.number 0 ≡ x → Keeps n some last setups t (after_call n w (commits i output))
      by_answer true e = rw e (commits-kept n some last setups b i h output (eqb-true (committed (w.memories i) output).answer.number 0 e))
      by_answer false e = still b (refused-commit n w i output e)
  call-keeps {w} b (sets_up i opening list) h = still b (refused-set-up n w i opening list h.1)

  -- a list of calls
  pub calls-keep : (calls : List Call) {w : World} {t : Worlds.World (forecast_setting n some last setups)} → Both n some last setups w t →
      AllAllowed n w calls → Keeps n some last setups t (after_calls n w calls)
  unfolding after_calls
  calls-keep [] b h = still b refl
  calls-keep (c ∷ calls) b h =
      let k = call-keeps b c h.0 in
      keeps_then k (calls-keep calls k.both h.1)

-- a list of calls in two parts
pub calls-after : (n : ℕ) (w : World) (earlier later : List Call) → after_calls n w (earlier ++ later) ≡ after_calls n (after_calls n w earlier) later
unfolding after_calls
calls-after n w [] later = refl
calls-after n w (c ∷ earlier) later = calls-after n (after_call n w c) earlier later

pub allowed-parts : (n : ℕ) (w : World) (earlier later : List Call) → AllAllowed n w (earlier ++ later) → AllAllowed n w earlier ×
    AllAllowed n (after_calls n w earlier) later
unfolding after_calls
allowed-parts n w [] later h = (tt, h)
allowed-parts n w (c ∷ earlier) later h =
    let r = allowed-parts n (after_call n w c) earlier later h.1 in
    ((h.0, r.0), r.1)
