-- The relation of the run's world and the theory's world, for all gateways at once, and what it gives of each gateway.
use mathlib.Core.Path.{◌≡◌, refl, sym, ◌∙◌}
use Prim.Native.Nat.{ℕ, ◌≤◌, ◌<◌}
use Rattle.lists.specs.Lists.{All}
use Rattle.memory.specs.Records.{Gateway}
use Rattle.memory.specs.Codec.{decode}
use Rattle.gateway.specs.Claims.{SoundBytes}
use Rattle.gateway.proofs.Maintaining.{Proper}
use Rattle.event_steps.specs.Models.{Model, ModelLaws}
use Rattle.timewarp.specs.Worlds as Worlds
use Rattle.timewarp.proofs.Joined.{Good, good}
use Rattle.run.specs.Forecast.{SetUpInput}
use Rattle.run.specs.World.{World}
use Rattle.run.proofs.FigureGraph.{figure_graph}
use Rattle.run.proofs.ForecastModel.{forecast_model, forecast_laws}
use Rattle.run.proofs.EventCalls.{Stands}
use Rattle.run.proofs.EventWorlds.{setting_of, Sees}
use Rattle.run.proofs.RoundChains.{setting}
use Rattle.run.proofs.RoundsUnderWay.{rounds_in, Numbered}
use Rattle.run.proofs.RoundWorlds.{Alike}
use Rattle.run.proofs.PassingFrames.{Passing}
use Rattle.run.proofs.DueHours.{NoteDue}
use Rattle.run.proofs.HeldGateways.{held-proper}
use Rattle.run.proofs.CommittedEvents.{Committed}
use Rattle.run.proofs.ClaimParts.{Beside}

module _ (n : ℕ) (some : 1 ≤ n) (last : ℕ) (setups : ℕ → SetUpInput) where
  abbrev pub model : Model
  model = forecast_model n last setups

  -- what the forecast is run on: the lamp model and the arcs of Figure 2
  abbrev pub forecast_setting : Worlds.Setting
  forecast_setting = setting n some model refl

  -- it is the setting that the calls on events are reasoned about in
  pub same-setting : setting_of n last setups (figure_graph n some) refl ≡ forecast_setting
  same-setting = refl

  -- the gateway that each memory of the world holds
  abbrev pub gateways_in : World → ℕ → Gateway
  gateways_in w i = decode (w.memories i)

  -- The run's world w and the theory's world t.
  pub record Both (w : World) (t : Worlds.World forecast_setting) : Type 0 where
    -- events, agreed times, records and ledgers
    pub beside : Beside n last setups (figure_graph n some) refl w t
    -- the settings that each gateway was set up with, and its saved states
    pub stands : (i : ℕ) → i < n → Stands n last setups i (beside.done i) (gateways_in w i)
    -- its memory
    pub bytes : (i : ℕ) → i < n → SoundBytes (w.memories i)
    -- the rounds, the frames of rounds under way, which have the number of their round, and the counters
    pub rounds : Alike n some model refl (gateways_in w) (rounds_in w.under_way) w.rounds t.rounds
    pub numbered : All Numbered w.under_way
    -- no frame under way is turned down for its form, its numbers or its hour, and the notes are hours that may be sent
    pub passing : All (λ c. Passing n last c.frame) w.under_way
    pub notes : (i : ℕ) → i < n → NoteDue last (gateways_in w i).round
    -- the events that each gateway has committed may stand in a record
    pub committed : (i : ℕ) → i < n → Committed n last setups i (beside.done i)

  -- What a call comes to that leads from the theory's world t to the run's world w': steps to a world that belongs to it.
  pub record Keeps (t : Worlds.World forecast_setting) (w' : World) : Type 0 where
    pub world : Worlds.World forecast_setting
    pub steps : Worlds.Steps forecast_setting t world
    pub both : Both w' world

  module _ {w : World} {t : Worlds.World forecast_setting} (b : Both w t) where
    -- the model's laws and the invariants of the theory
    pub model-laws : ModelLaws model
    model-laws = forecast_laws n last setups some (λ i h. (b.stands i h).settled)

    pub good-world : Good forecast_setting t
    good-world = good forecast_setting model-laws b.beside.reached

    module _ (i : ℕ) (h : i < n) where
      -- what the memory of gateway i holds
      pub proper : Proper (gateways_in w i)
      proper = held-proper (w.memories i) (b.bytes i h)

      -- the theory's world sees it
      pub sees : Sees n last setups (figure_graph n some) refl t i (b.beside.done i) (gateways_in w i) w.under_way
      sees = record { view = b.beside.views i h; network = b.beside.network; agreed = b.beside.times i h ∙ sym (b.beside.gateway-times i h) }
