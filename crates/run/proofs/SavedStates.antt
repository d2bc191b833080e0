-- The states that a queue has saved are those to which the history led.
use mathlib.Core.Path.{◌≡◌, refl, sym, ◌∙◌}
use Prim.Native.Nat.{ℕ}
use mathlib.Core.Bool.{Bool, true, false, cond, true≢false}
use mathlib.Core.List.{List, [], ◌∷◌, ◌++◌, map}
use Rattle.model.specs.declared.Message.{Message}
use Rattle.model.specs.declared.State.{State}
use Rattle.memory.specs.Validity.{is_processed}
use Rattle.memory.specs.declared.Entry.{Entry}
use Rattle.gateway.specs.Undoing.{processed_of, undone, restored}
use Rattle.event_steps.specs.Models.{state_after}
use Rattle.run.specs.Forecast.{SetUpInput}
use Rattle.run.proofs.ForecastModel.{forecast_model}
use Rattle.run.proofs.QueueViews.{done_with, done_after, Marked, marked, pending, processed, waiting}

module _ (n last : ℕ) (setups : ℕ → SetUpInput) (i : ℕ) where
  -- gateway i's state after a history
  abbrev pub state_at : List Message → State
  state_at h = state_after (forecast_model n last setups) i h

  -- `Saved h es s`: after the history h every processed one of the entries has saved the state before it, and they lead to s
  pub data Saved : List Message → List Entry → State → Type 0 where
    at-end : {h : List Message} {s : State} → s ≡ state_at h → Saved h [] s
    entry : {h : List Message} {e : Entry} {es : List Entry} {s : State} → (is_processed e ≡ true → e.before ≡ state_at h)
        → Saved (done_with e h) es s → Saved h (e ∷ es) s

  -- in two parts
  pub saved-front : {h : List Message} (us vs : List Entry) {s : State} → Saved h (us ++ vs) s → Saved h us (state_at (done_after h us))
  unfolding done_after
  saved-front [] vs v = at-end refl
  saved-front (u ∷ us) vs (entry b v) = entry b (saved-front us vs v)

  pub saved-back : {h : List Message} (us vs : List Entry) {s : State} → Saved h (us ++ vs) s → Saved (done_after h us) vs s
  unfolding done_after
  saved-back [] vs v = v
  saved-back (u ∷ us) vs (entry b v) = saved-back us vs v

  pub saved-join : {h : List Message} {us vs : List Entry} {s t : State} → Saved h us t → Saved (done_after h us) vs s → Saved h (us ++ vs) s
  unfolding done_after
  saved-join (at-end e) w = w
  saved-join (entry b v) w = entry b (saved-join v w)

  -- the state is that of the whole history
  pub saved-state : {h : List Message} {es : List Entry} {s : State} → Saved h es s → s ≡ state_at (done_after h es)
  unfolding done_after
  saved-state (at-end e) = e
  saved-state (entry b v) = saved-state v

  -- undoing restores the state before
  pub saved-restored : {h : List Message} {es : List Entry} {s : State} → Saved h es s → restored s (processed_of es) ≡ state_at h
  unfolding restored processed_of
  saved-restored (at-end e) = e
  saved-restored {h} {s = s} (entry {e = e} {es = es} b v) = by-case (is_processed e) refl (saved-restored v)
    where
      by-case : (t : Bool) → is_processed e ≡ t → restored s (processed_of es) ≡ state_at (cond (is_processed e) (e.message ∷ h) h)
          → restored s (cond (is_processed e) (e ∷ processed_of es) (processed_of es)) ≡ state_at h
      by-case true p r = rw p (b p)
      by-case false p r = rw p (rw p at r)

  -- one that is not processed changes nothing
  pub saved-more : {h : List Message} {e : Entry} {es : List Entry} {s : State} → is_processed e ≡ false → Saved h es s → Saved h (e ∷ es) s
  saved-more {h} {e} {es} {s} p v = entry {h = h} {e = e} {es = es} {s = s} (λ q. absurd (true≢false (sym q ∙ p))) (rw p v)

  -- after undoing no state is saved
  pub saved-undone : (h : List Message) (es : List Entry) → Saved h (map undone es) (state_at h)
  unfolding undone
  saved-undone h [] = at-end refl
  saved-undone h (e ∷ es) = saved-more not-processed (saved-undone h es)
    where
      not-processed : is_processed (undone e) ≡ false
      not-processed = by-case (marked e)
        where
          by-case : Marked e → is_processed (undone e) ≡ false
          by-case (pending p q r) = rw (q, q)
          by-case (processed p q r) = rw q
          by-case (waiting p q r) = rw (q, q)
