-- What demand 3 claims of the rounds: gateway 0's phase says whether one is open; a completed one took two messages an arc and N − 1 more, below 4N.
use mathlib.Core.Path.{◌≡◌, refl, sym, ◌∙◌, ap, subst}
use Prim.Native.Nat.{ℕ, suc, ◌+◌, ◌*◌, ◌-◌, ◌≤◌, ◌<◌}
use mathlib.Core.Bool.{true, not}
use mathlib.Core.List.{List}
use native.Mathlib.Omega.{arith}
use borrow.Author.Tests.{leb-true}
use Rattle.routing.specs.Arcs.{arc_count}
use Rattle.memory.specs.Records.{Gateway}
use Rattle.gateway.specs.Rounds.{is_idle}
use Rattle.event_steps.specs.Models.{Model}
use Rattle.round_steps.specs.RoundSteps
use Rattle.round_steps.specs.RoundSteps.{RoundFrame}
use Rattle.timewarp.specs.Worlds
use Rattle.timewarp.proofs.Joined.{Good}
use Rattle.round_steps.proofs.RoundInvariants.{round-count}
use Rattle.run.specs.World
use Rattle.run.specs.Demand3.{Completed}
use Rattle.run.proofs.FigureGraph.{figure_graph, arc_laws, same-round-messages}
use Rattle.run.proofs.RoundCounters.{Counted, closed-number}
use Rattle.run.proofs.RoundChains.{setting}
use Rattle.run.proofs.Standing.{StandingAt, is-idle, is-finished, is-counting, is-stopped}
use Rattle.run.proofs.RoundWorlds.{Alike}

-- gateway 0 is idle where no round is open
pub phase-open : (n : ℕ) (some : 1 ≤ n) (M : Model) (equal : n - 1 ≡ M.last) {gs : ℕ → Gateway} {under_way : List RoundFrame} {c : World.Rounds}
    {r : RoundSteps.Rounds} → Alike n some M equal gs under_way c r → is_idle (gs 0).round.phase ≡ not c.open?
phase-open n some M equal {gs} {c = c} {r = r} a = by-standing (a.standing 0 (omega arith))
  where
    by-standing : StandingAt (figure_graph n some) r.status r.mark r.arrived 0 (gs 0).round → is_idle (gs 0).round.phase ≡ not c.open?
    by-standing (is-idle p s b) = rw (p, a.counted.is_open_lem, s) refl
    by-standing (is-finished p s b) = absurd (a.unfinished s)
    by-standing (is-counting p s b v) = rw (p, a.counted.is_open_lem, s) refl
    by-standing (is-stopped p s b v) = rw (p, a.counted.is_open_lem, s) refl

module _ (n : ℕ) (some : 1 ≤ n) (M : Model) (equal : n - 1 ≡ M.last)
    {w : Worlds.World (setting n some M equal)} (k : Good (setting n some M equal) w)
    {c : World.Rounds} (h : Counted (figure_graph n some) c w.rounds) where
  -- a round that the run counts as completed is so in the theory
  completed : (t : ℕ) → Completed n c t → (1 ≤ t) × RoundSteps.Completed (figure_graph n some) w.rounds (t - 1)
  completed t d =
      let (one, most) = closed-number (figure_graph n some) c w.rounds h t d.is_closed in
      let number : t ≡ suc (t - 1) = omega arith in (
        one,
        record {
          is-closed = omega arith;
          all-accepted =
              λ j p l.
              let accepted : c.accepted (suc (t - 1)) j ≡ true = subst (λ (u : ℕ). c.accepted u j ≡ true) number (d.all_accepted j p (omega arith)) in
              leb-true 1 (w.rounds.accepted (t - 1) j) (sym (h.accepted (t - 1) j p) ∙ accepted);
        },
      )

  pub rounds-hold : (t : ℕ) → Completed n c t → c.took t ≡ 2 * arc_count n + (n - 1)
  rounds-hold t d =
      let (one, all) = completed t d in
      let number : t ≡ suc (t - 1) = omega arith in
      ap c.took number
      ∙ h.took (t - 1)
      ∙ round-count (figure_graph n some) M.never _ _ w.rounds k.rounds-sound (t - 1) all
      ∙ same-round-messages n some

  pub rounds-fewer : (t : ℕ) → Completed n c t → c.took t < 4 * n
  rounds-fewer t d = omega (arith, rounds-hold t d, (arc_laws n some).round, (arc_laws n some).bounded)
