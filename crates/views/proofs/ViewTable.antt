-- The examples of the views hold, by computation, and two records that agree by the law of secrecy too.
use mathlib.Core.Path.{refl}
use Rattle.buffer.specs.Slice.{same_bytes, part, write}
use Rattle.buffer.specs.Number.{bytes_of, number_of}
use Rattle.frame.specs.Kinds.{has_origin, has_quantity}
use Rattle.frame.specs.Writing.{all_between}
use Rattle.frame.specs.Reasons.{reading}
use Rattle.frame.specs.Limits.{refusal_where}
use Rattle.memory.specs.Codec.{state_with}
use Rattle.records.specs.declared.StockField.TheVariants.{Present, Old}
use Rattle.views.specs.Viewing.{viewed}
use Rattle.views.specs.Examples.{both, old_both, ViewExamples}
use Rattle.views.specs.declared.Reader.TheVariants.{Purchasing, Maintenance}
use Rattle.views.proofs.SecrecyProved.{secrecy}

pub view-examples : ViewExamples
unfolding same_bytes part write bytes_of number_of has_origin has_quantity all_between reading refusal_where state_with viewed
view-examples =
    record {
      empty = (refl, refl);
      purchasing_failure = refl;
      maintenance_failure = refl;
      restock_views = (refl, refl);
      restock_fields = (refl, refl);
      kind_numbers = (refl, refl, refl);
      exact_room = (refl, refl);
      no_room = (refl, refl);
      room_last = (refl, refl);
      cut_state = (refl, refl);
      frame_first = (refl, refl, refl);
      in_turn = (refl, refl);
      numbers = (refl, refl, refl, refl);
      addressees = refl;
      last_hour = (refl, refl, refl);
      other_forms = (refl, refl, refl);
      lengths = (refl, refl, refl, refl);
      no_reader = (refl, refl, refl);
      purchasing_alike = (refl, refl);
      maintenance_alike = (refl, refl);
      large_stock = (refl, refl);
      old_largest = refl;
      old_alike = (refl, refl);
      old_agrees = (refl, refl);
      old_equal = (
        secrecy.equal Purchasing Present Old both old_both refl refl refl,
        secrecy.equal Maintenance Present Old both old_both refl refl refl,
        λ out. secrecy.calls 0 0 1 both old_both out refl refl refl refl,
        λ out. secrecy.calls 1 0 1 both old_both out refl refl refl refl,
      );
      cut_states = (refl, refl, refl, refl);
      old_frame_first = refl;
      no_such_stock = (refl, refl, refl, refl);
      misread = (refl, refl, refl);
    }
