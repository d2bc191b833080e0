-- The runs of one gateway and of two, by computation.
use mathlib.Core.Path.{refl}
use mathlib.Core.Bool.{true}
use Rattle.run.specs.ExampleRun.{example_memory, one_set_up, one_calls, one_records, two_set_ups, two_calls, two_records, ExampleRuns}
use Rattle.run.proofs.RunTests.{whole-run-by}
use Rattle.run.proofs.Computing.{computing}

pub examples : ExampleRuns
unfolding computing
examples =
    record {
      one = whole-run-by 1 10 one_set_up example_memory one_calls one_records 0 (λ w. true) refl;
      two = whole-run-by 2 10 two_set_ups example_memory two_calls two_records 3 (λ w. true) refl;
    }
