-- The examples of runs seen along their calls hold, by computation.
use mathlib.Core.Path.{◌≡◌, refl, ◌∙◌, ap}
use Prim.Native.Nat.{ℕ}
use mathlib.Core.Bool.{Bool, true}
use mathlib.Core.List.{List, [], ◌∷◌}
use lib.Dec.{eqb}
use lib.ListN.{length, get_or}
use borrow.Author.Tests.{eqb-false}
use Rattle.run.specs.World.{World}
use Rattle.run.specs.ExampleRun.{example_memory, example_output}
use Rattle.run.specs.RunExamples.{seen_along, four_set_ups, four_calls, mutual_set_ups, mutual_memory, mutual_calls, at_first, both_worked}
use Rattle.run.specs.RunExamples.{numbers_in, waits, mutual_seen, RunExamples}
use Rattle.run.proofs.RunTests.{forecast-by, walked, walked_through, is_completed, completed-by, is_whole_run, more_by, whole-run-by}
use Rattle.run.proofs.RefusedCalls.{refused-set-up, refused-frame, refused-start, refused-commit}
use Rattle.run.proofs.Computing.{computing}

-- round 2 is completed at the end
abbrev second_completed : World → Bool
second_completed w = is_completed 4 w.rounds 2

-- the run of four gateways, gone through once
four-run : is_whole_run 4 10 four_set_ups example_memory four_calls (λ i. []) 11 second_completed ≡ true
unfolding computing
four-run = refl

-- and that of two
two_run : walked waits 2 at_first mutual_calls ≡ mutual_seen
unfolding computing walked
two_run = refl

refused : numbers_in both_worked ≡ 8 ∷ 4 ∷ 6 ∷ 11 ∷ 5 ∷ []
unfolding computing
refused = refl

pub run-examples : RunExamples
run-examples =
    let through = walked_through waits 2 at_first mutual_calls (ap length two_run) in
    record {
      four = whole-run-by 4 10 four_set_ups example_memory four_calls (λ i. []) 11 second_completed four-run;
      second = completed-by 4 _ 2 (more_by 4 10 four_set_ups example_memory four_calls (λ i. []) 11 second_completed four-run);
      oldest_first = unfold computing seen_along in refl;
      forecast = forecast-by 2 10 mutual_set_ups mutual_memory (unfold computing in refl);
      allowed = through.0;
      after_each = through.1 ∙ two_run;
      numbers = refused;
      unchanged = (
        refused-set-up 2 both_worked 1 _ [] (eqb-false _ 0 (is-refused 0)),
        refused-start 2 both_worked 1 example_output (is-refused 1),
        refused-commit 2 both_worked 0 example_output (is-refused 2),
        refused-frame 2 both_worked 1 (63 ∷ []) example_output (is-refused 3),
        refused-frame 2 both_worked 0 _ example_output (is-refused 4),
      );
    }
  where
    is-refused : (k : ℕ) → eqb (get_or (numbers_in both_worked) k 0) 0 ≡ eqb (get_or (8 ∷ 4 ∷ 6 ∷ 11 ∷ 5 ∷ []) k 0) 0
    is-refused k = ap (λ (l : List ℕ). eqb (get_or l k 0) 0) refused
