-- N memories just set up and the theory's world before its first step are in the relation of both worlds.
use mathlib.Core.Path.{◌≡◌, refl, sym, ap, subst}
use Prim.Native.Nat.{ℕ, ◌≤◌, ◌<◌}
use native.Mathlib.Omega.{arith}
use mathlib.Core.List.{List, []}
use Rattle.lists.specs.Lists.{nil}
use Rattle.memory.specs.Records.{Gateway}
use Rattle.memory.proofs.Validated.{valid-facts}
use Rattle.gateway.specs.SettingUp.{opened}
use Rattle.gateway.specs.Claims.{SoundBytes}
use Rattle.gateway.proofs.SoundAfter.{never-unsound}
use Rattle.event_steps.specs.Models.{state_after}
use Rattle.timewarp.specs.Worlds as Worlds
use Rattle.run.specs.Forecast.{SetUpInput, Forecast}
use Rattle.run.specs.World.{opening_world}
use Rattle.run.proofs.FigureGraph.{figure_graph}
use Rattle.run.proofs.EventCalls.{Stands}
use Rattle.run.proofs.RoundsUnderWay.{rounds_in}
use Rattle.run.proofs.RoundWorlds.{Alike}
use Rattle.run.proofs.DueHours.{NoteDue}
use Rattle.run.proofs.RoundOpening.{no_rounds, alike-opening}
use Rattle.run.proofs.OpeningQueues.{opening_entries, opening-saved}
use Rattle.run.proofs.OpeningWorlds.{first, kept, lawful, memory-holds, opening-beside, settled}
use Rattle.run.proofs.CommittedEvents.{none-committed}
use Rattle.run.proofs.BothWorlds.{Both, forecast_setting, model, gateways_in}

module _ (n last : ℕ) (setups : ℕ → SetUpInput) (lent : ℕ → List ℕ) (forecast : Forecast n last setups lent) where
  abbrev some : 1 ≤ n
  some = forecast.some

  module _ (i : ℕ) (h : i < n) where
    held : gateways_in n some last setups (opening_world setups lent) i ≡ first n last setups lent forecast (figure_graph n some) refl i h
    held = memory-holds n last setups lent forecast (figure_graph n some) refl i h

    -- the gateway just set up
    opening-stands : Stands n last setups i [] (first n last setups lent forecast (figure_graph n some) refl i h)
    unfolding opened opening_entries state_after
    opening-stands =
        record {
          settings = refl;
          settled = settled n last setups lent forecast (figure_graph n some) refl i h;
          valid = valid-facts (first n last setups lent forecast (figure_graph n some) refl i h) (kept n last setups lent forecast
              (figure_graph n some) refl i h).proper.valid;
          saved = opening-saved n last setups i (lawful n last setups lent forecast (figure_graph n some) refl i h);
        }

    opening-note : NoteDue last (first n last setups lent forecast (figure_graph n some) refl i h).round
    unfolding opened
    opening-note = tt

    opening-bytes : SoundBytes ((opening_world setups lent).memories i)
    unfolding opening_world
    opening-bytes = (never-unsound.by_set_up (setups i).opening (setups i).list (lent i) (forecast.bytes i h).1 (forecast.bytes i h).0
        (forecast.accepted i h)).still

  opening-rounds : Alike n some (model n some last setups) refl (gateways_in n some last setups (opening_world setups lent)) [] no_rounds
      (Worlds.opening_world (forecast_setting n some last setups)).rounds
  unfolding opened Worlds.opening_world
  opening-rounds =
      alike-opening n some (model n some last setups) refl (gateways_in n some last setups (opening_world setups lent))
      (λ i l. ap (λ (g : Gateway). g.round) (held i (omega arith)))
      (λ i l. ap (λ (g : Gateway). g.agreed) (held i (omega arith)))

  pub opening-both : Both n some last setups (opening_world setups lent) (Worlds.opening_world (forecast_setting n some last setups))
  unfolding opening_world rounds_in opening-beside
  opening-both =
      record {
        beside = opening-beside n last setups lent forecast (figure_graph n some) refl;
        stands = λ i h. subst (Stands n last setups i []) (sym (held i h)) (opening-stands i h);
        bytes = opening-bytes;
        rounds = opening-rounds;
        numbered = nil;
        passing = nil;
        notes = λ i h. subst (λ (g : Gateway). NoteDue last g.round) (sym (held i h)) (opening-note i h);
        committed = λ i h. none-committed n last setups i;
      }
