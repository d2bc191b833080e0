-- The examples of memory that is not sound hold, by computation.
use mathlib.Core.Path.{refl}
use Rattle.lists.specs.Lists.{tally, joined, every}
use Rattle.buffer.specs.Slice.{part, write, same_bytes}
use Rattle.buffer.specs.Number.{bytes_of, number_from, number_of}
use Rattle.routing.specs.Figure2.{gvtcfg, widen, share, set_from, set_to}
use Rattle.routing.specs.Arcs.{from, to, mid0, mid1}
use Rattle.model.specs.Doing.{lead_times_valid}
use Rattle.model.specs.EventOrder.{key, compared}
use Rattle.frame.specs.Layout.{standing, whole_length, cut}
use Rattle.frame.specs.Kinds.{map_of_kind, has_hour, has_lamp, map_of}
use Rattle.frame.specs.Writing.{all_between, lamp_fits, well_formed}
use Rattle.memory.specs.Codec.{state_bytes, state_with, message_bytes, message_of, entry_bytes, entry_of, sent_bytes, sent_of}
use Rattle.memory.specs.Codec.{header_at, header_front, header_back, places_at, decode, encode}
use Rattle.memory.specs.Validity.{settings_valid, round_possible, equal, later, ordered, processed_first, none_meet, storable, entry_valid, sent_valid}
use Rattle.memory.specs.Validity.{saved_stocks_bounded, held_stock_bounded, valid}
use Rattle.memory.specs.Soundness.{sound}
use Rattle.gateway.specs.Calls.{agreed_time}
use Rattle.gateway.specs.SoundnessExamples.{SoundnessExamples}

pub soundness-examples : SoundnessExamples
unfolding
    tally joined every part write same_bytes bytes_of number_from number_of gvtcfg widen share set_from set_to from to mid0 mid1 lead_times_valid key compared
    standing whole_length cut map_of_kind has_hour has_lamp map_of all_between lamp_fits well_formed state_bytes state_with message_bytes message_of entry_bytes entry_of
    sent_bytes sent_of header_at header_front header_back places_at decode encode settings_valid round_possible equal later ordered processed_first none_meet storable
    entry_valid sent_valid saved_stocks_bounded held_stock_bounded valid sound agreed_time
soundness-examples =
    record {
      no_header = refl;
      too_short = (refl, refl);
      no_gateways = (refl, refl);
      own_number = (refl, refl);
      supplier = (refl, refl);
      last_hour = (refl, refl);
      no_place = (refl, refl, refl);
      many_places = (refl, refl, refl);
      no_hours = (refl, refl);
      long_hours = (refl, refl);
      queued_count = (refl, refl);
      sent_count = (refl, refl);
      phase = (refl, refl);
      only_start = (refl, refl);
      both_starts = (refl, refl, refl);
      counting_arrival = (refl, refl);
      last_counting = (refl, refl);
      stopped_arrival = (refl, refl, refl);
      one_to_stopped = (refl, refl);
      hour_order = (refl, refl);
      lamp_order = (refl, refl);
      processed_behind = (refl, refl, refl);
      cancel_before = (refl, refl, refl);
      cancel_behind = (refl, refl, refl);
      failure_form = (refl, refl, refl);
      delivery_form = (refl, refl);
      restock_form = (refl, refl, refl, refl);
      lamp_byte = (refl, refl, refl, refl);
      stored_start = refl;
      stored_lvt = refl;
      sent_restock = (refl, refl);
      queued_mark = (refl, refl);
      queued_stray = (refl, refl, refl);
      sent_mark = (refl, refl);
      sent_stray = (refl, refl, refl);
      from_number = (refl, refl);
      origin_number = (refl, refl);
      queued_elsewhere = (refl, refl);
      sent_elsewhere = (refl, refl, refl);
      queued_hour = (refl, refl);
      sent_hour = (refl, refl);
      saved_state = (refl, refl, refl);
    }
