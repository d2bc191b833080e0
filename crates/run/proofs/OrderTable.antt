-- The examples of the order within an hour hold, by computation.
use mathlib.Core.Path.{refl}
use mathlib.Core.Bool.{true}
use Rattle.run.specs.OrderExamples.{same_hour_set_up, same_hour_memory, same_hour_calls, same_hour_record, OrderWithinAnHour}
use Rattle.run.proofs.RunTests.{whole-run-by}
use Rattle.run.proofs.Computing.{computing}

pub order-within-an-hour : OrderWithinAnHour
unfolding computing
order-within-an-hour =
    record {
      rank_first = refl;
      then_origin = refl;
      by_quantity = refl;
      opening = (refl, refl);
      request_comes = refl;
      restock_comes = refl;
      restock_stays = refl;
      delivery_undone = refl;
      request_cancelled = refl;
      sound = refl;
      unsound = (refl, refl, refl, refl);
      hour_first = (refl, refl);
      large_shelf = refl;
      while_stock_lasts = (refl, refl);
      committed = (refl, refl, refl, refl);
      ledger = refl;
      whole_run = whole-run-by 1 10 same_hour_set_up same_hour_memory same_hour_calls same_hour_record 0 (λ w. true) refl;
      single_queue = refl;
      numbers = (refl, refl);
    }
