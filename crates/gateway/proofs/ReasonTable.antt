-- The examples of the first refusal of a frame hold, by computation.
use mathlib.Core.Path.{refl}
use Rattle.lists.specs.Lists.{tally, joined, every, any, before_first, from_first, first_number, cut_by}
use Rattle.buffer.specs.Slice.{part, write}
use Rattle.buffer.specs.Number.{bytes_of, number_from, number_of}
use Rattle.model.specs.Doing.{lead_times_valid}
use Rattle.model.specs.EventOrder.{key, compared}
use Rattle.frame.specs.Layout.{standing, whole_length, cut}
use Rattle.frame.specs.Kinds.{map_of_kind, has_hour, has_lamp, map_of}
use Rattle.frame.specs.Writing.{contents, written, all_between, lamp_fits}
use Rattle.frame.specs.Reasons.{values_of, fields_of, map_fits, fields_reading, reading}
use Rattle.frame.specs.Limits.{refusal, refusal_where}
use Rattle.memory.specs.Validity.{settings_valid, equal}
use Rattle.memory.specs.Soundness.{sound}
use Rattle.gateway.specs.Effects.{fits, settled, sent_all}
use Rattle.gateway.specs.Undoing.{processed_of, undone, restored, sent_back, rolled_back}
use Rattle.gateway.specs.Taking.{take_plain}
use Rattle.gateway.specs.SettingUp.{opening_valid, opening_refusal, set_up_refusal}
use Rattle.gateway.specs.Calls.{on_sound, take_frame, take_bytes, taken}
use Rattle.gateway.specs.ReasonExamples.{FirstReasons}

pub first-reasons : FirstReasons
unfolding
    tally joined every any before_first from_first part write bytes_of number_from number_of key compared standing whole_length cut map_of_kind has_hour has_lamp map_of contents written
    all_between lamp_fits values_of fields_of map_fits fields_reading reading refusal refusal_where settings_valid lead_times_valid equal sound fits settled processed_of
    undone restored sent_back rolled_back sent_all take_plain opening_valid cut_by opening_refusal first_number set_up_refusal on_sound take_frame take_bytes taken
first-reasons =
    record {
      no_byte = (refl, refl, refl);
      one_byte = (refl, refl, refl);
      no_kind = (refl, refl, refl);
      other_map = (refl, refl, refl);
      cut = (refl, refl, refl);
      long = (refl, refl, refl);
      map_first = (refl, refl, refl);
      sense_first = (refl, refl, refl);
      lamp_first = (refl, refl, refl);
      disagreeing = (refl, refl, refl);
      bad_request = (refl, refl, refl);
      good_request = (refl, refl, refl);
      whole_restock = (refl, refl, refl);
      cut_restock = (refl, refl, refl);
      whole_start = (refl, refl);
      long_start = (refl, refl);
      map_of_zero = (refl, refl);
      in_turn = (refl, refl);
      before2 = (refl, refl, refl);
      before5 = (refl, refl);
      after10 = refl;
      after8 = refl;
    }
