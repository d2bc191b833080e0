-- The examples of the balance's call hold, by computation.
use mathlib.Core.Path.{refl}
use Rattle.buffer.specs.Slice.{part}
use Rattle.buffer.specs.Number.{bytes_of, number_of}
use Rattle.frame.specs.Writing.{all_between}
use Rattle.frame.specs.Reasons.{reading}
use Rattle.frame.specs.Limits.{refusal_where}
use Rattle.memory.specs.Codec.{state_with}
use Rattle.hurfaith.specs.Exported.{balance_given}
use Rattle.hurfaith.specs.BalanceExamples.{BalanceCallExamples}

pub balance-call-examples : BalanceCallExamples
unfolding part bytes_of number_of all_between reading refusal_where state_with balance_given
balance-call-examples = record { figures = refl; three = refl; no_room = (refl, refl); refused = (refl, refl); out_of_range = (refl, refl) }
