-- N gateways just set up are where the theory begins: no round is open, and no frame of one is under way.
use mathlib.Core.Path.{◌≡◌, refl, sym, ◌∙◌, ap}
use mathlib.Core.Bool.{false, ◌&&◌, false≢true}
use mathlib.Core.List.{[]}
use Prim.Native.Nat.{ℕ, zero, suc, ◌-◌, ◌≤◌}
use native.Mathlib.Omega.{arith}
use lib.Dec.{leb}
use borrow.Author.Tests.{le-leb, lt-leb}
use Rattle.memory.specs.Records.{Gateway}
use Rattle.memory.specs.declared.Round.{Round}
use Rattle.gateway.specs.Rounds.{idle}
use Rattle.event_steps.specs.Models.{Model}
use Rattle.round_steps.specs.RoundSteps
use Rattle.run.specs.World
use Rattle.run.proofs.FigureGraph.{figure_graph}
use Rattle.run.proofs.ArrivalBits.{none_in}
use Rattle.run.proofs.Standing.{start_in, start_bits, is-idle}
use Rattle.run.proofs.RoundWorlds.{Alike}

-- the counters before the first call
abbrev pub no_rounds : World.Rounds
no_rounds = record { opened = 0; open? = false; lvts = 0; took = λ t. 0; closed = λ t. false; accepted = λ t i. false }

module _ (n : ℕ) (some : 1 ≤ n) (M : Model) (equal : n - 1 ≡ M.last) where
  pub alike-opening : (gs : ℕ → Gateway) → ((i : ℕ) → i ≤ n - 1 → (gs i).round ≡ idle) → ((i : ℕ) → i ≤ n - 1 → (gs i).agreed ≡ 0)
      → Alike n some M equal gs [] no_rounds RoundSteps.opening
  unfolding RoundSteps.opening
  alike-opening gs rounds times =
      record {
        standing = λ i l. is-idle (ap (λ (r : Round). r.phase) (rounds i l)) refl (ap (λ (r : Round). r.arrived) (rounds i l) ∙ sym (no-starts i));
        agreed = times;
        counted =
            record {
              opened = omega arith;
              is_open_lem = refl;
              lvts = λ o. absurd (false≢true o);
              took = λ t. refl;
              closed = λ t. sym (none-closed t);
              accepted = λ t j p. refl;
            };
        unfinished = λ f. omega arith;
        frames = refl;
      }
    where
      none-closed : (t : ℕ) → (leb 1 t && leb t 0) ≡ false
      none-closed zero = refl
      none-closed (suc t) = rw (le-leb 1 (suc t) (omega arith), lt-leb (suc t) 0 (omega arith))

      no-starts : (i : ℕ) → start_bits (figure_graph n some) (λ a b. 0) i ≡ 0
      no-starts i = (none_in (start_in (figure_graph n some) (λ a b. 0) i) ((figure_graph n some).from i) (λ x c. refl)).0
