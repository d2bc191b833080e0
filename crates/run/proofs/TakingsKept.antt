-- Taking a frame that was under way keeps the relation of both worlds, whatever the frame is.
use mathlib.Core.Path.{◌≡◌, refl, sym, ◌∙◌, ap}
use Prim.Native.Nat.{ℕ, ◌≤◌, ◌<◌}
use native.Mathlib.Omega.{arith}
use mathlib.Core.Bool.{Bool, true, false}
use mathlib.Core.List.{List}
use lib.Dec.{leb}
use borrow.Author.Tests.{leb-true, leb-false}
use Rattle.lists.specs.Lists.{any}
use Rattle.buffer.specs.Slice.{Bytes}
use Rattle.frame.specs.Kinds.{sense_number}
use Rattle.frame.specs.Reasons.{frame_read}
use Rattle.frame.specs.declared.Sense.{Sense}
use Rattle.frame.specs.declared.Sense.TheVariants.{Plain, Cancel, Acknowledgment, CancelAcknowledgment}
use Rattle.gateway.specs.Calls.{taken}
use Rattle.timewarp.specs.Worlds as Worlds
use Rattle.run.specs.Forecast.{SetUpInput}
use Rattle.run.specs.World.{World, kind_in, frames_in, is_frame, after_taking}
use Rattle.run.proofs.BothWorlds.{Both, Keeps, forecast_setting}
use Rattle.run.proofs.EventTakingsOnBytes.{event-taken-kept}
use Rattle.run.proofs.RoundsKept.{round-takes}

module _ (n : ℕ) (some : 1 ≤ n) (last : ℕ) (setups : ℕ → SetUpInput) where
  -- taking a frame: one of a round, or an event or acknowledgment
  pub takes-kept : {w : World} {t : Worlds.World (forecast_setting n some last setups)} → Both n some last setups w t → (i : ℕ) → i < n →
      (frame output : List ℕ) → Bytes frame
      → (taken (w.memories i) frame output).answer.number ≡ 0 → any (is_frame frame) w.under_way ≡ true
      → let l = taken (w.memories i) frame output in
      Keeps n some last setups t (after_taking n i frame l.memory (frames_in l.answer.written l.output) w)
  takes-kept {w} {t} b i h frame output bytes z found = by-kind (leb 4 (kind_in frame)) refl (frame_read frame).sense refl
    where
      event : ((frame_read frame).sense ≡ Plain → kind_in frame < 4) →
          let l = taken (w.memories i) frame output in
          Keeps n some last setups t (after_taking n i frame l.memory (frames_in l.answer.written l.output) w)
      event plain = event-taken-kept n some last setups b i h frame bytes output z found plain

      by-kind : (x : Bool) → leb 4 (kind_in frame) ≡ x → (s : Sense) → (frame_read frame).sense ≡ s →
          let l = taken (w.memories i) frame output in
          Keeps n some last setups t (after_taking n i frame l.memory (frames_in l.answer.written l.output) w)
      by-kind true large Plain s = round-takes n some last setups b i h frame output bytes z found s (leb-true 4 (kind_in frame) large)
      by-kind true large Cancel s = event (λ p. absurd (omega (arith, ap sense_number (sym s ∙ p))))
      by-kind true large Acknowledgment s = event (λ p. absurd (omega (arith, ap sense_number (sym s ∙ p))))
      by-kind true large CancelAcknowledgment s = event (λ p. absurd (omega (arith, ap sense_number (sym s ∙ p))))
      by-kind false small s e = event (λ p. leb-false 4 (kind_in frame) small)
