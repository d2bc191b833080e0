-- The examples of taking hold, by computation.
use mathlib.Core.Path.{refl}
use Rattle.lists.specs.Lists.{tally, joined, every, any, without_first, before_first, from_first, before_last, from_last}
use Rattle.buffer.specs.Slice.{part, write}
use Rattle.buffer.specs.Number.{bytes_of, number_from, number_of}
use Rattle.routing.specs.Figure2.{gvtcfg, widen, share, set_from, set_to}
use Rattle.routing.specs.Arcs.{from, to, mid0, mid1, children}
use Rattle.model.specs.Doing.{lead_times_valid, sent}
use Rattle.model.specs.EventOrder.{key, compared}
use Rattle.frame.specs.Layout.{standing, whole_length, cut}
use Rattle.frame.specs.Kinds.{map_of_kind, has_hour, has_lamp, map_of}
use Rattle.frame.specs.Writing.{contents, written, all_between, lamp_fits, well_formed}
use Rattle.frame.specs.Reasons.{values_of, fields_of, map_fits, fields_reading, reading}
use Rattle.frame.specs.Limits.{refusal, refusal_where}
use Rattle.memory.specs.Codec.{entry_bytes, entry_of, sent_bytes, sent_of, state_bytes, state_with, decode, encode}
use Rattle.memory.specs.Validity.{settings_valid, round_possible, equal, later, ordered, processed_first, none_meet, storable, entry_valid, sent_valid}
use Rattle.memory.specs.Validity.{saved_stocks_bounded, held_stock_bounded, valid}
use Rattle.memory.specs.Soundness.{sound}
use Rattle.gateway.specs.Effects.{fits, settled, noted, sent_one, sent_all}
use Rattle.gateway.specs.Undoing.{processed_of, undone, restored, sent_back, rolled_back}
use Rattle.gateway.specs.Taking.{take_plain, take_cancel, take_acknowledgment}
use Rattle.gateway.specs.Working.{pending_of, processed_next, done, worked}
use Rattle.gateway.specs.Rounds.{least_outstanding, least_queued, finished, begun, start, bit_of, all_bits, one_start, take_start, one_lvt, take_lvt, take_update}
use Rattle.gateway.specs.Committing.{record_for, commit}
use Rattle.gateway.specs.Calls.{leaving, on_sound, take_frame, take_bytes, taken, started, committed, worked_off}
use Rattle.gateway.specs.TakingExamples.{TakingExamples}

pub taking-examples : TakingExamples
unfolding
    tally joined every any without_first before_first from_first before_last from_last part write bytes_of number_from number_of gvtcfg widen share set_from set_to
    from to mid0 mid1 children lead_times_valid sent key compared standing whole_length cut map_of_kind has_hour has_lamp map_of contents written all_between
    lamp_fits well_formed values_of fields_of map_fits fields_reading reading refusal refusal_where state_bytes settings_valid round_possible equal later ordered
    processed_first none_meet storable entry_valid sent_valid saved_stocks_bounded held_stock_bounded valid sound fits settled noted sent_one sent_all processed_of
    undone restored sent_back rolled_back take_plain take_cancel take_acknowledgment pending_of processed_next done worked least_outstanding least_queued finished
    begun start bit_of all_bits one_start take_start one_lvt take_lvt take_update record_for commit on_sound take_frame take_bytes started committed worked_off
    entry_bytes entry_of sent_bytes sent_of state_with decode encode leaving taken
taking-examples =
    record {
      unsound = (refl, refl, refl);
      length_first = refl;
      form_first = (refl, refl);
      number_first = (refl, refl);
      hour_first = (refl, refl);
      below_first = (refl, refl, refl, refl);
      below_before_room = (refl, refl, refl, refl);
      cancel_below = (refl, refl, refl, refl);
      turn_first = (refl, refl, refl, refl);
      start_first = (refl, refl, refl);
      start_twice = (refl, refl);
      lvt_twice = (refl, refl);
      wrong_half = (refl, refl, refl, refl);
      not_from_its_arc = (refl, refl);
      not_from_the_parent = (refl, refl, refl);
      acknowledgment_hour = (refl, refl, refl);
      late_update = refl;
      nothing_to_commit = (refl, refl, refl, refl);
      nothing_to_do = (refl, refl, refl);
      by_from = refl;
      by_to = refl;
      other_cancel = refl;
      other_message = refl;
      other_acknowledgment = (refl, refl);
      cancel_outstanding = refl;
      both_undone = refl;
      first_struck_out = refl;
      second_undone = refl;
      none_undone = refl;
      bytes_stay = (refl, refl);
      bytes_written = refl;
      proper = refl;
    }
