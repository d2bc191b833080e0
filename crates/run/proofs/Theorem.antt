-- The theorem: demand 3 holds of every forecast, every list of calls and every carrier that keeps to the rules.
use mathlib.Core.Path.{◌≡◌, refl, sym, ◌∙◌, ap, subst}
use Rattle.std.specs.Prelude.{is_ok}
use Prim.Native.Nat.{ℕ, ◌≤◌, ◌<◌}
use native.Mathlib.Omega.{arith}
use mathlib.Core.List.{List, ◌++◌}
use Rattle.lists.proofs.ListLaws.{all-each}
use Rattle.timewarp.specs.Worlds as Worlds
use Rattle.timewarp.proofs.Theorem.{never-falls}
use Rattle.run.specs.Forecast.{SetUpInput, Forecast}
use Rattle.run.specs.SingleQueue.{SingleQueueEnds}
use Rattle.run.specs.World.{World, Call, opening_world, after_calls, AllAllowed}
use Rattle.run.specs.Demand3.{Claim, Demand3, agreed}
use Rattle.run.proofs.FigureGraph.{figure_graph}
use Rattle.run.proofs.ClaimParts.{beginning-part, whole_part, waiting-part, under_way-part}
use Rattle.run.proofs.RoundClaims.{phase-open, rounds-hold, rounds-fewer}
use Rattle.run.proofs.OpeningWorlds.{single-queue, queue-ends}
use Rattle.run.proofs.BothWorlds.{Both, Keeps, forecast_setting, model, model-laws, good-world}
use Rattle.run.proofs.OpeningRelation.{opening-both}
use Rattle.run.proofs.KeptRelation.{calls-keep, calls-after, allowed-parts}

module _ (n last : ℕ) (setups : ℕ → SetUpInput) (lent : ℕ → List ℕ) (forecast : Forecast n last setups lent) where
  abbrev some : 1 ≤ n
  some = forecast.some

  abbrev first : World
  first = opening_world setups lent

  -- a world of the theory belongs to the world that every allowed list of calls leads to
  pub reached-both : (calls : List Call) → AllAllowed n first calls → Keeps n some last setups (Worlds.opening_world (forecast_setting n some
      last setups)) (after_calls n first calls)
  reached-both calls h = calls-keep n some last setups calls (opening-both n last setups lent forecast) h

  -- no agreed time falls along a list of calls
  pub time-never-falls : {w w' : World} {t : Worlds.World (forecast_setting n some last setups)} → Both n some last setups w t → (k : Keeps n
      some last setups t w') → (i : ℕ) → i < n → agreed w i ≤ agreed w' i
  time-never-falls b k i h =
      omega (
        arith,
        never-falls (forecast_setting n some last setups) (good-world n some last setups b) k.steps i,
        b.beside.times i h,
        k.both.beside.times i h,
      )

  pub never-fell : (calls : List Call) → AllAllowed n first calls → (earlier later : List Call) → calls ≡ earlier ++ later → (i : ℕ) → i < n
      → agreed (after_calls n first earlier) i ≤ agreed (after_calls n first calls) i
  never-fell calls h earlier later e i l =
      let (before, after) = allowed-parts n first earlier later (subst (AllAllowed n first) e h) in
      let k = reached-both earlier before in
      subst (λ (w : World). agreed (after_calls n first earlier) i ≤ agreed w i) (sym (ap (after_calls n first) e ∙ calls-after n first earlier later))
      (time-never-falls k.both (calls-keep n some last setups later k.both after) i l)

  pub claimed : (calls : List Call) → AllAllowed n first calls → Claim n last setups lent calls (after_calls n first calls)
  claimed calls h =
      let k = reached-both calls h in
      let w = after_calls n first calls in
      let b = k.both.beside in
      let laws = model-laws n some last setups k.both in
      let single = single-queue n last setups lent forecast (figure_graph n some) refl in
      record {
        beginning = λ i l. beginning-part n last setups (figure_graph n some) refl laws w k.world b i l (single i);
        whole = λ i l. whole_part n last setups (figure_graph n some) refl laws w k.world b i l (single i);
        sound_memories = k.both.bytes;
        never_fell = never-fell calls h;
        bound_waiting = waiting-part n last setups (figure_graph n some) refl laws w k.world b;
        good_forms = λ c m. ap is_ok (all-each k.both.passing c m).form;
        bound_under_way = under_way-part n last setups (figure_graph n some) refl laws w k.world b;
        open_round = phase-open n some (model n some last setups) refl k.both.rounds;
        rounds = rounds-hold n some (model n some last setups) refl (good-world n some last setups k.both) k.both.rounds.counted;
        fewer = rounds-fewer n some (model n some last setups) refl (good-world n some last setups k.both) k.both.rounds.counted;
      }

-- The theorem.
pub demand3 : Demand3
demand3 n last setups lent forecast calls h = claimed n last setups lent forecast calls h

-- And the single queue ends.
pub single-queue-ends : SingleQueueEnds
single-queue-ends n last setups lent forecast = queue-ends n last setups lent forecast (figure_graph n forecast.some) refl
