-- A call on events at one gateway leads from a world beside the theory's to another such world.
use mathlib.Core.Path.{◌≡◌, refl, sym, ◌∙◌, ap, subst}
use Prim.Native.Nat.{ℕ, ◌-◌, ◌<◌}
use mathlib.Core.Bool.{Bool, true, false, cond}
use mathlib.Core.List.{List}
use lib.Dec.{eqb}
use borrow.Author.Tests.{eqb-true, eqb-false}
use Rattle.lists.specs.Families.{change}
use Rattle.model.specs.declared.Message.{Message}
use Rattle.memory.specs.Codec.{decode}
use Rattle.memory.specs.Soundness.{sound}
use Rattle.gateway.specs.Calls.{agreed_time}
use Rattle.round_steps.specs.Arcs.{Graph}
use Rattle.timewarp.specs.Worlds as Worlds
use Rattle.timewarp.proofs.CallChains.{steps-join}
use Rattle.run.specs.Forecast.{SetUpInput}
use Rattle.run.specs.Ledger as Ledger
use Rattle.run.specs.World.{World, Carried, Rounds}
use Rattle.run.proofs.LocalChains.{lower-agreed}
use Rattle.run.proofs.QueueViews.{view_of}
use Rattle.run.proofs.RoundChains.{change-same}
use Rattle.run.proofs.SingleQueues.{history_record}
use Rattle.run.proofs.Ledgers.{Follows}
use Rattle.run.proofs.EventWorlds.{setting_of, GoesOn}
use Rattle.run.proofs.ClaimParts.{Beside}
use Rattle.run.proofs.OpeningWorlds.{agreed-read}

-- a family changed to what it is
pub change-self : {A : Type 0} (i : ℕ) (f : ℕ → A) → change i (f i) f ≡ f
change-self i f = λ k j. change-same i f j k

-- the run's world after a call at gateway i
abbrev pub world_after : World → ℕ → List ℕ → List Carried → List ℕ → Ledger.Ledger → Rounds → World
world_after w i memory under_way bytes l rounds = record {
  memories = change i memory w.memories;
  under_way = under_way;
  records = change i bytes w.records;
  ledgers = change i l w.ledgers;
  rounds = rounds;
}

module _ (n last : ℕ) (setups : ℕ → SetUpInput) (G : Graph) (same : G.last ≡ n - 1) where
  module _ (w : World) (t : Worlds.World (setting_of n last setups G same)) (b : Beside n last setups G same w t) (i : ℕ) (h : i < n) (memory
      : List ℕ) (c : List Message) (cs : List Carried) (bytes : List ℕ) (l : Ledger.Ledger) (rounds : Rounds) {s : List Message} (still :
      sound memory ≡ true) (goes : GoesOn n last setups G same t i s c (decode memory) cs) (time : (decode memory).agreed ≡ (decode
      (w.memories i)).agreed) (written : bytes ≡ history_record n last setups i c) (follows : Follows n last setups (decode memory).queue
      l) where
    agreed-still : (j : ℕ) → goes.world.rounds.agreed j ≡ t.rounds.agreed j
    agreed-still j = ap (λ r. r.agreed j) goes.rounds ∙ ap (λ (f : ℕ → ℕ). f j) (lower-agreed (setting_of n last setups G same) i s t.rounds)

    sound-at : (j : ℕ) → j < n → (x : Bool) → sound (cond x memory (w.memories j)) ≡ true
    sound-at j k true = still
    sound-at j k false = b.is-sound j k

    view-at : (j : ℕ) → j < n → (x : Bool) → eqb i j ≡ x → goes.world.events.gateways j ≡ view_of (cond x c (b.done j)) (decode (cond x
        memory (w.memories j))).queue (decode (cond x memory (w.memories j))).outstanding
    view-at j k true e = subst (λ (m : ℕ). goes.world.events.gateways m ≡ view_of c (decode memory).queue (decode memory).outstanding)
        (eqb-true i j e) goes.here
    view-at j k false e = goes.elsewhere j (eqb-false i j e) ∙ b.views j k

    time-at : (j : ℕ) → j < n → (x : Bool) → eqb i j ≡ x → goes.world.rounds.agreed j ≡ (agreed_time (cond x memory (w.memories j))).hour
    time-at j k true e =
        subst (λ (m : ℕ). goes.world.rounds.agreed m ≡ (agreed_time memory).hour) (eqb-true i j e)
        (agreed-still i ∙ b.times i h ∙ sym (b.gateway-times i h) ∙ sym time ∙ sym (agreed-read memory still))
    time-at j k false e = agreed-still j ∙ b.times j k

    record-at : (j : ℕ) → j < n → (x : Bool) → eqb i j ≡ x → cond x bytes (w.records j) ≡ history_record n last setups j (cond x c (b.done j))
    record-at j k true e = subst (λ (m : ℕ). bytes ≡ history_record n last setups m c) (eqb-true i j e) written
    record-at j k false e = b.records j k

    ledger-at : (j : ℕ) → j < n → (x : Bool) → Follows n last setups (decode (cond x memory (w.memories j))).queue (cond x l (w.ledgers j))
    ledger-at j k true = follows
    ledger-at j k false = b.ledgers j k

    pub beside-after : Beside n last setups G same (world_after w i memory cs bytes l rounds) goes.world
    unfolding change
    beside-after =
        record {
          reached = steps-join b.reached goes.steps;
          done = change i c b.done;
          is-sound = λ j k. sound-at j k (eqb i j);
          views = λ j k. view-at j k (eqb i j) refl;
          network = goes.network;
          times = λ j k. time-at j k (eqb i j) refl;
          gateway-times = λ j k. sym (agreed-read (cond (eqb i j) memory (w.memories j)) (sound-at j k (eqb i j)));
          records = λ j k. record-at j k (eqb i j) refl;
          ledgers = λ j k. ledger-at j k (eqb i j);
        }

    -- only what gateway i has committed changes
    pub done-after : beside-after.done ≡ change i c b.done
    unfolding beside-after
    done-after = refl
