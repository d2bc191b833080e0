-- The examples of the balance hold, by computation.
use mathlib.Core.Path.{refl}
use Rattle.buffer.specs.Slice.{part}
use Rattle.buffer.specs.Number.{bytes_of, number_of}
use Rattle.frame.specs.Writing.{all_between}
use Rattle.frame.specs.Reasons.{reading}
use Rattle.frame.specs.Limits.{refusal_where}
use Rattle.memory.specs.Codec.{state_with}
use Rattle.records.specs.Balancing.{balanced}
use Rattle.records.specs.BalanceExamples.{BalanceExamples}

pub balance-examples : BalanceExamples
unfolding part bytes_of number_of all_between reading refusal_where state_with balanced
balance-examples =
    record {
      empty = (refl, refl);
      one = refl;
      same_hour = refl;
      hour_before = refl;
      fitted = refl;
      large = refl;
      other_opening = refl;
      made_up = refl;
      out_of_range = (refl, refl, refl);
      refused = (refl, refl, refl);
    }
