-- What a gateway sends lowers its note, in its memory as in the theory.
use mathlib.Core.Path.{◌≡◌, refl, sym, ◌∙◌, ap}
use mathlib.Core.List.{List, [], ◌∷◌}
use Prim.Native.Nat.{ℕ, ◌-◌, ◌≤◌}
use Rattle.lists.specs.Families.{change}
use Rattle.lists.proofs.FamilyLaws.{change-at}
use Rattle.model.specs.EventOrder.{key}
use Rattle.model.specs.declared.Message.{Message}
use Rattle.memory.specs.Records.{Gateway}
use Rattle.gateway.specs.Effects.{with_round, noted}
use Rattle.event_steps.specs.Models.{hour, first}
use Rattle.round_steps.specs.RoundSteps
use Rattle.round_steps.specs.RoundSteps.{RoundFrame}
use Rattle.timewarp.specs.Worlds.{lower_all}
use Rattle.run.specs.Forecast.{SetUpInput}
use Rattle.run.specs.World
use Rattle.run.proofs.ForecastModel.{forecast_model}
use Rattle.run.proofs.EventCalls.{noted_all}
use Rattle.run.proofs.RoundChains.{setting, change-again, change-same}
use Rattle.run.proofs.RoundWorlds.{Alike, alike-again, alike-lowered}

module _ (n : ℕ) (some : 1 ≤ n) (last : ℕ) (setups : ℕ → SetUpInput) (i : ℕ) (inside : i ≤ n - 1) where
  -- gateway i sends some messages, or their cancels
  pub alike-sent : (ms : List Message) (gs : ℕ → Gateway) {under_way : List RoundFrame} {c : World.Rounds} {r : RoundSteps.Rounds}
      → Alike n some (forecast_model n last setups) refl gs under_way c r
      → Alike n some (forecast_model n last setups) refl (change i (with_round (noted_all ms (gs i).round) (gs i)) gs) under_way c
      (lower_all (setting n some (forecast_model n last setups) refl) i ms r)
  unfolding lower_all noted_all hour first key
  alike-sent [] gs a =
      alike-again n some (forecast_model n last setups) refl (change i (gs i) gs)
      (λ j. ap (λ (g : Gateway). g.round) (sym (change-same i gs j))) (λ j. ap (λ (g : Gateway). g.agreed) (sym (change-same i gs j))) a
  alike-sent (m ∷ ms) gs a =
      alike-again n some (forecast_model n last setups) refl (change i (with_round (noted_all ms g.round) g) gs)
      (λ j. ap (λ (x : Gateway). x.round) (same j)) (λ j. ap (λ (x : Gateway). x.agreed) (same j))
      (alike-sent ms (change i g gs) (alike-lowered n some (forecast_model n last setups) refl i m.hour inside a))
    where
      g : Gateway
      g = with_round (noted m.hour (gs i).round) (gs i)

      same : (j : ℕ) → change i (with_round (noted_all ms (change i g gs i).round) (change i g gs i)) (change i g gs) j ≡ change i (with_round
          (noted_all ms g.round) g) gs j
      same j =
          ap (λ (x : Gateway). change i (with_round (noted_all ms x.round) x) (change i g gs) j) (change-at i g gs i refl)
          ∙ change-again i g (with_round (noted_all ms g.round) g) gs j
