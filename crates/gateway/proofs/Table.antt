-- The starred examples hold, by computation.
use mathlib.Core.Path.{refl}
use Rattle.lists.specs.Lists.{tally, joined, every, any, without_first, before_last, from_last}
use Rattle.lists.specs.Families.{sum, together}
use Rattle.buffer.specs.Slice.{part, write}
use Rattle.buffer.specs.Number.{bytes_of, number_from, number_of}
use Rattle.routing.specs.Figure2.{gvtcfg, widen, share, set_from, set_to}
use Rattle.routing.specs.Arcs.{from, to, mid0, mid1, arcs, arcs_of_first, children, round_messages}
use Rattle.routing.specs.Answers.{neighbours_of, totals_of}
use Rattle.model.specs.Doing.{lead_times_valid}
use Rattle.model.specs.EventOrder.{key, compared}
use Rattle.frame.specs.Layout.{standing, whole_length, cut}
use Rattle.frame.specs.Kinds.{map_of_kind, has_hour, has_lamp, map_of}
use Rattle.frame.specs.Writing.{contents, written, all_between, lamp_fits, well_formed}
use Rattle.frame.specs.Reasons.{values_of, fields_of, map_fits, fields_reading, reading}
use Rattle.frame.specs.Limits.{refusal, refusal_where}
use Rattle.memory.specs.Codec.{state_bytes}
use Rattle.memory.specs.Validity.{settings_valid, round_possible, equal, later, ordered, processed_first, none_meet, storable, entry_valid, sent_valid}
use Rattle.memory.specs.Validity.{saved_stocks_bounded, held_stock_bounded, valid}
use Rattle.gateway.specs.Effects.{fits, settled, sent_all}
use Rattle.gateway.specs.Undoing.{processed_of, undone, restored, sent_back, rolled_back}
use Rattle.gateway.specs.Taking.{take_cancel}
use Rattle.gateway.specs.Rounds.{least_outstanding, least_queued, finished, begun, start, bit_of, all_bits, one_start, take_start, one_lvt, take_lvt, take_update}
use Rattle.gateway.specs.Committing.{record_for, commit}
use Rattle.gateway.specs.Calls.{take_frame, take_bytes, set_up}
use Rattle.gateway.specs.SettingUp.{opening_valid, set_up_refusal}
use Rattle.gateway.specs.Examples.{round_of_two, Starred}

pub starred : Starred
unfolding
    gvtcfg widen share set_from set_to from to mid0 mid1 arcs arcs_of_first sum together children round_messages neighbours_of totals_of
    part write bytes_of number_from number_of state_bytes key compared standing tally joined whole_length cut map_of_kind has_hour has_lamp map_of contents written
    all_between lamp_fits well_formed values_of fields_of map_fits fields_reading reading refusal refusal_where every settings_valid lead_times_valid round_possible equal later ordered
    processed_first none_meet saved_stocks_bounded held_stock_bounded storable entry_valid sent_valid valid fits settled sent_all processed_of undone restored sent_back
    rolled_back any without_first before_last from_last take_cancel least_outstanding least_queued finished begun start bit_of all_bits
    one_start take_start one_lvt take_lvt take_update record_for commit opening_valid set_up_refusal set_up take_frame take_bytes round_of_two
starred =
    record {
      one = (refl, refl);
      two = (refl, refl);
      four = (refl, refl);
      ten = (refl, refl, refl);
      eleven = (refl, refl, refl);
      zero = (refl, refl);
      zero_set_up = λ o list memory. refl;
      unacknowledged = (refl, refl, refl, refl);
      acknowledged = (refl, refl, refl, refl);
      below = refl;
      at_agreed = refl;
      second = (refl, refl);
      proper = refl;
    }
