-- The examples of writing a frame hold, by computation.
use mathlib.Core.Path.{refl}
use Rattle.lists.specs.Lists.{tally, joined}
use Rattle.buffer.specs.Slice.{part, write}
use Rattle.buffer.specs.Number.{bytes_of, number_from, number_of}
use Rattle.frame.specs.Layout.{standing, whole_length, cut}
use Rattle.frame.specs.Kinds.{map_of_kind, has_hour, has_lamp, map_of}
use Rattle.frame.specs.Writing.{contents, written, all_between, lamp_fits, value_refusal, writing}
use Rattle.frame.specs.Reasons.{values_of, fields_of, map_fits, fields_reading, reading}
use Rattle.frame.specs.WritingExamples.{WrittenNumbers}

pub written-numbers : WrittenNumbers
unfolding
    tally joined part write bytes_of number_from number_of standing whole_length cut map_of_kind has_hour has_lamp map_of contents written all_between lamp_fits
    value_refusal writing values_of fields_of map_fits fields_reading reading
written-numbers =
    record {
      ends = (refl, refl, refl);
      below = (refl, refl);
      above = (refl, refl);
      in_cancel = (refl, refl);
      lamp_first = (refl, refl);
      disagreeing = (refl, refl);
      sense_of_start = (refl, refl);
      hour_of_start = (refl, refl);
      lamp_of_restock = (refl, refl);
      bad_lamp_of_restock = (refl, refl);
      start = (refl, refl, refl);
      restock = (refl, refl, refl);
      update = (refl, refl, refl);
      ends_read = refl;
      below_read = refl;
      above_read = refl;
      cut_read = refl;
    }
