-- The examples of lead times for each district hold, by computation.
use mathlib.Core.Path.{refl}
use mathlib.Core.Bool.{true}
use Rattle.run.specs.HoursExamples.{district_set_ups, district_memory, district_calls, district_records, HoursOfEachGateway}
use Rattle.run.proofs.RunTests.{whole-run-by}
use Rattle.run.proofs.Computing.{computing}

pub hours-of-each-gateway : HoursOfEachGateway
unfolding computing
hours-of-each-gateway =
    record {
      shortest = refl;
      longest = refl;
      none = (refl, refl, refl);
      too_long = (refl, refl, refl);
      far_too_long = refl;
      before_frames = (refl, refl);
      stored = (refl, refl);
      sound = (refl, refl);
      unsound_none = (refl, refl, refl);
      unsound_long = (refl, refl, refl);
      failure = refl;
      served = refl;
      passed_on = refl;
      fitted = refl;
      just_in_time = (refl, refl, refl, refl);
      an_hour_too_late = (refl, refl, refl, refl);
      no_sum_wraps = (refl, refl, refl, refl);
      undone = refl;
      whole_run = whole-run-by 2 10 district_set_ups district_memory district_calls district_records 3 (λ w. true) refl;
      single_queue = (refl, refl);
      other_hours = (refl, refl);
    }
