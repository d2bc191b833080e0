-- What a call on events that writes frames comes to: the theory's world goes on, and gateway, ledger and note follow.
use mathlib.Core.Path.{◌≡◌}
use Prim.Native.Nat.{ℕ, ◌-◌, ◌≤◌}
use mathlib.Core.List.{List, map}
use Rattle.lists.specs.Lists.{All}
use Rattle.model.specs.declared.Message.{Message}
use Rattle.frame.specs.Writing.{written}
use Rattle.frame.specs.declared.Frame.{Frame}
use Rattle.memory.specs.Records.{Gateway}
use Rattle.gateway.specs.Effects.{bytes_of_frames}
use Rattle.round_steps.specs.Arcs.{Graph}
use Rattle.timewarp.specs.Worlds.{World}
use Rattle.run.specs.Forecast.{SetUpInput}
use Rattle.run.specs.Ledger as Ledger
use Rattle.run.specs.World.{Carried, carry}
use Rattle.run.proofs.EventCalls.{Stands, noted_all}
use Rattle.run.proofs.Ledgers.{Follows}
use Rattle.run.proofs.ReadableFrames.{EventFrame}
use Rattle.run.proofs.EventWorlds.{setting_of, GoesOn}

-- Gateway i, which was g and has committed c, is next after the call; the output's frames go under way behind rest; l is the ledger.
pub record CallResult (n last : ℕ) (setups : ℕ → SetUpInput) (G : Graph) (same : G.last ≡ n - 1) (i : ℕ) (w : World (setting_of n last
    setups G same)) (c : List Message) (g : Gateway) (tag : ℕ) (rest : List Carried) (next : Gateway) (output : List ℕ) (l : Ledger.Ledger)
    : Type 1 where
  pub frames : List Frame
  pub bytes : bytes_of_frames frames ≡ output
  pub are-events : All (EventFrame n last) frames
  -- the messages and cancels that it sends, which lower the note
  pub sends : List Message
  pub timely : All (λ m. m.hour ≤ last) sends
  pub goes : GoesOn n last setups G same w i sends c next (carry tag (map written frames) rest)
  pub stands : Stands n last setups i c next
  pub follows : Follows n last setups next.queue l
  pub round : next.round ≡ noted_all sends g.round
  pub agreed : next.agreed ≡ g.agreed
