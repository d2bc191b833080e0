-- Commits: what an accepted commit took and wrote, when there is nothing to commit, and committed records as beginnings of the whole.
use mathlib.Core.Path.{◌≡◌, refl, sym, ◌∙◌, ap}
use Prim.Native.Nat.{ℕ, ◌≤◌, ◌<◌}
use native.Mathlib.Omega.{arith}
use mathlib.Core.Bool.{Bool, true, false, cond}
use mathlib.Core.List.{List, [], ◌∷◌, ◌++◌}
use lib.Dec.{ltb, leb}
use lib.ListN.{length}
use borrow.Author.Tests.{ltb-true, ltb-false}
use Rattle.lists.specs.Lists.{without_first, Beginning}
use Rattle.model.specs.Doing.{after}
use Rattle.model.specs.declared.Message.{Message}
use Rattle.model.specs.declared.State.{State}
use Rattle.frame.specs.Writing.{written}
use Rattle.memory.specs.Records.{Gateway}
use Rattle.memory.specs.Codec.{state_bytes}
use Rattle.memory.specs.Validity.{is_processed, frame_if}
use Rattle.memory.specs.declared.Entry.{Entry}
use Rattle.gateway.specs.Effects.{Outcome, refused, with_queue}
use Rattle.gateway.specs.Undoing.{processed_of}
use Rattle.gateway.specs.Committing as Committing
use Rattle.gateway.specs.Committing.{commit, commit_oldest}
use Rattle.event_steps.specs.Models.{state_after}
use Rattle.event_steps.specs.SingleQueue as Theory
use Rattle.gateway.specs.Committing.{record_for}
use Rattle.run.specs.Forecast.{SetUpInput}
use Rattle.run.specs.SingleQueue.{whole_record}
use Rattle.run.proofs.ForecastModel.{forecast_model}
use Rattle.run.proofs.QueueViews.{done_after, done-history}
use Rattle.run.proofs.SavedStates.{Saved}
use Rattle.run.proofs.QueueChanges.{saved-committed, oldest-taken}
use Rattle.run.proofs.SingleQueues.{history_record, record-beginning}

-- what committing the event e comes to
abbrev pub accepted : Gateway → Entry → Outcome
accepted g e = record { number = 0; gateway = with_queue (without_first is_processed g.queue) g; output = Committing.record_of e }

-- an accepted commit
pub record CommitTaken (room : ℕ) (g : Gateway) : Type 0 where
  pub event : Entry
  pub newer : List Entry
  pub is : processed_of g.queue ≡ event ∷ newer
  pub below : event.message.hour < g.agreed
  pub comes-to : commit room g ≡ accepted g event

pub commit-taken : (room : ℕ) (g : Gateway) → (commit room g).number ≡ 0 → CommitTaken room g
unfolding commit
commit-taken room g h = by-oldest (processed_of g.queue) refl h
  where
    by_tests : (e : Entry) (es : List Entry) → processed_of g.queue ≡ e ∷ es → (t : Bool) → ltb e.message.hour g.agreed ≡ t → (u :
        Bool) → leb (length (Committing.record_of e)) room ≡ u
        → (cond t (cond u (accepted g e) (refused 5 g)) (refused 6 g)).number ≡ 0
        → CommitTaken room g
    by_tests e es k true p true q h =
        record { event = e; newer = es; is = k; below = ltb-true e.message.hour g.agreed p; comes-to = ap (commit_oldest room g) k ∙ rw (p, q) }
    by_tests e es k true p false q h = absurd (omega (arith, h))
    by_tests e es k false p u q h = absurd (omega (arith, h))

    by-oldest : (es : List Entry) → processed_of g.queue ≡ es → (commit_oldest room g es).number ≡ 0 → CommitTaken room g
    by-oldest [] k h = absurd (omega (arith, h))
    by-oldest (e ∷ es) k h = by_tests e es k (ltb e.message.hour g.agreed) refl (leb (length (Committing.record_of e)) room) refl h

-- lists with equal last elements
not-nil : {A : Type 0} (xs : List A) (a : A) → xs ++ (a ∷ []) ≡ [] → ⊥
not-nil [] a e = let z : ◌≡◌ {A = ℕ} 0 1 = cc in omega arith
not-nil (x ∷ xs) a e = let z : ◌≡◌ {A = ℕ} 0 1 = cc in omega arith

last-same : {A : Type 0} (xs ys : List A) (a b : A) → xs ++ (a ∷ []) ≡ ys ++ (b ∷ []) → a ≡ b
last-same [] [] a b e = cc
last-same [] (y ∷ ys) a b e = absurd (not-nil ys b (let d : ys ++ (b ∷ []) ≡ [] = cc in d))
last-same (x ∷ xs) [] a b e = absurd (not-nil xs a (let d : xs ++ (a ∷ []) ≡ [] = cc in d))
last-same (x ∷ xs) (y ∷ ys) a b e = last-same xs ys a b (let d : xs ++ (a ∷ []) ≡ ys ++ (b ∷ []) = cc in d)

-- where no entry is processed nothing is done
none-processed-done : (h : List Message) (es : List Entry) → processed_of es ≡ [] → done_after h es ≡ h
unfolding processed_of done_after
none-processed-done h [] k = refl
none-processed-done h (e ∷ es) k = by-case (is_processed e) refl (none-processed-done h es)
  where
    by-case : (t : Bool) → is_processed e ≡ t → (processed_of es ≡ [] → done_after h es ≡ h) → done_after (cond (is_processed e) (e.message ∷ h) h) es ≡ h
    by-case true p ih = absurd (let d : e ∷ processed_of es ≡ [] = rw p at k in let z : ◌≡◌ {A = ℕ} 0 1 = cc in omega arith)
    by-case false p ih = rw p (ih (rw p at k))

-- where a commit answers 6, the oldest event done is not below the agreed time
pub nothing-to-commit : (room : ℕ) (g : Gateway) → (commit room g).number ≡ 6 → (m : Message) (newer : List Message) → done_after []
    g.queue ≡ newer ++ (m ∷ []) → g.agreed ≤ m.hour
unfolding commit
nothing-to-commit room g h m newer d = by-oldest (processed_of g.queue) refl h
  where
    by_tests : (e : Entry) (es : List Entry) → processed_of g.queue ≡ e ∷ es → (t : Bool) → ltb e.message.hour g.agreed ≡ t → (u : Bool)
        → (cond t (cond u (accepted g e) (refused 5 g)) (refused 6 g)).number ≡ 6
        → g.agreed ≤ m.hour
    by_tests e es k true p true h = absurd (omega (arith, h))
    by_tests e es k true p false h = absurd (omega (arith, h))
    by_tests e es k false p u h =
        let r = oldest-taken g.queue e es k in
        let whole = sym (r.taken-done [] ∙ done-history (e.message ∷ []) [] (without_first is_processed g.queue)) ∙ d in
        let same : e.message ≡ m = last-same (done_after [] (without_first is_processed g.queue)) newer e.message m whole in
        omega (arith, ltb-false e.message.hour g.agreed p, ap (λ (x : Message). x.hour) same)

    none-done-then : processed_of g.queue ≡ [] → g.agreed ≤ m.hour
    none-done-then k = absurd (not-nil newer m (sym d ∙ none-processed-done [] g.queue k))

    by-oldest : (es : List Entry) → processed_of g.queue ≡ es → (commit_oldest room g es).number ≡ 6 → g.agreed ≤ m.hour
    by-oldest [] k h = none-done-then k
    by-oldest (e ∷ es) k h = by_tests e es k (ltb e.message.hour g.agreed) refl (leb (length (Committing.record_of e)) room) h

module _ (n last : ℕ) (setups : ℕ → SetUpInput) (i : ℕ) where
  -- what a commit writes is the record of the event that joins the committed ones
  pub commit-record : {c : List Message} {queue : List Entry} {s : State} → Saved n last setups i c queue s → (e : Entry) (newer : List
      Entry) → processed_of queue ≡ e ∷ newer
      → history_record n last setups i c ++ Committing.record_of e ≡ history_record n last setups i (e.message ∷ c)
  unfolding history_record record_for state_after
  commit-record {c} v e newer k =
      ap (λ (z : State). history_record n last setups i c ++ (written (frame_if false e.message) ++ state_bytes (after z
      e.message.kind))) (saved-committed n last setups i v e newer k).before

  -- a committed record is a beginning of the whole one where the committed events are a beginning of the single queue's
  pub record-begins : (c : List Message) (bytes : List ℕ) → bytes ≡ history_record n last setups i c → whole_record n last setups i ≡
      history_record n last setups i (Theory.single_history (forecast_model n last setups) i)
      → (later : List Message) → Theory.single_history (forecast_model n last setups) i ≡ later ++ c → Beginning bytes (whole_record n last setups i)
  record-begins c bytes e whole later h =
      let r = record-beginning n last setups i later c in
      (r.0, whole ∙ ap (history_record n last setups i) h ∙ r.1 ∙ ap (λ x. x ++ r.0) (sym e))
