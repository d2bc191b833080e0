-- Work on bytes keeps the relation of both worlds, whatever its budget and its output.
use mathlib.Core.Path.{◌≡◌, refl, sym, subst}
use Prim.Native.Nat.{ℕ, ◌≤◌, ◌<◌}
use native.Mathlib.Omega.{arith}
use mathlib.Core.List.{List}
use lib.ListN.{length}
use Rattle.buffer.specs.Slice.{write}
use Rattle.memory.specs.Codec.{decode, encode}
use Rattle.gateway.specs.Working.{Progress, worked}
use Rattle.gateway.specs.Calls.{CallResult, worked_off}
use Rattle.gateway.specs.Answers.{Worked}
use Rattle.gateway.proofs.Keeps.{work-keeps}
use Rattle.timewarp.specs.Worlds as Worlds
use Rattle.run.specs.Forecast.{SetUpInput}
use Rattle.run.specs.World.{World, frames_in, after_working}
use Rattle.run.proofs.FigureGraph.{figure_graph}
use Rattle.run.proofs.WorkChains.{WorkGoes, work-goes}
use Rattle.run.proofs.BothWorlds.{forecast_setting, Both, Keeps, proper, sees}
use Rattle.run.proofs.EventsKept.{result-keeps}

module _ (n : ℕ) (some : 1 ≤ n) (last : ℕ) (setups : ℕ → SetUpInput) {w : World} {t : Worlds.World (forecast_setting n some last setups)} (b
    : Both n some last setups w t) (i : ℕ) (h : i < n) (budget : ℕ) (output : List ℕ) where
  -- how the work comes out
  abbrev p : Progress
  p = worked budget (length output) (decode (w.memories i))

  left : worked_off budget (w.memories i) output ≡ record {
    answer = record { count = p.count; why = p.why; written = length p.output };
    memory = encode p.gateway (w.memories i);
    output = write 0 p.output output;
  }
  unfolding worked_off
  left = rw (b.bytes i h).is-sound

  goes : WorkGoes n last setups (figure_graph n some) refl i (omega arith) (b.beside.done i) 0 t (decode (w.memories i)) w.under_way (w.ledgers i) p
  goes =
      work-goes n last setups (figure_graph n some) refl i (omega arith) (b.beside.done i) 0 budget (length output) t (decode (w.memories
      i)) w.under_way (w.ledgers i)
      (proper n some last setups b i h) (b.stands i h) (sees n some last setups b i h) (b.beside.ledgers i h)

  pub works-kept :
      let l = worked_off budget (w.memories i) output in
      Keeps n some last setups t (after_working i l.answer.count l.memory (frames_in l.answer.written l.output) w)
  unfolding after_working
  works-kept =
      subst (λ (l : CallResult Worked). Keeps n some last setups t (after_working i l.answer.count l.memory (frames_in
      l.answer.written l.output) w)) (sym left)
      (result-keeps n some last setups b i h 0 w.under_way refl b.numbered b.passing goes (work-keeps budget (length output) (proper
      n some last setups b i h)).gateway output)
