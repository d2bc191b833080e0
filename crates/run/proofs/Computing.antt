-- What computing a run unfolds.
use Rattle.lists.specs.Lists.{every}
use Rattle.lists.specs.Families.{change, together}
use Rattle.buffer.specs.Slice.{same_bytes, part, write}
use Rattle.buffer.specs.Number.{bytes_of, number_of}
use Rattle.routing.specs.Arcs.{from, to, mid0, mid1}
use Rattle.routing.specs.Figure2.{gvtcfg, widen, share, set_from, set_to}
use Rattle.model.specs.Doing.{lead_times_valid, sent}
use Rattle.model.specs.EventOrder.{key, compared}
use Rattle.frame.specs.Kinds.{has_hour, has_lamp, map_of}
use Rattle.frame.specs.Writing.{written, all_between, well_formed}
use Rattle.frame.specs.Reasons.{reading}
use Rattle.frame.specs.Limits.{refusal}
use Rattle.memory.specs.Codec.{entry_bytes, entry_of, sent_bytes, sent_of, decode, encode}
use Rattle.memory.specs.Soundness.{sound}
use Rattle.memory.specs.Validity.{settings_valid, round_possible, equal, later, ordered, processed_first, none_meet, storable, entry_valid, sent_valid, valid}
use Rattle.memory.specs.Validity.{saved_stocks_bounded, held_stock_bounded}
use Rattle.gateway.specs.Effects.{settled, sent_all}
use Rattle.gateway.specs.Undoing.{processed_of, undone, rolled_back}
use Rattle.gateway.specs.Taking.{take_plain, take_cancel, take_acknowledgment}
use Rattle.gateway.specs.Working.{worked}
use Rattle.gateway.specs.Rounds.{least_outstanding, least_queued, start, bit_of, all_bits, take_start, take_lvt, take_update}
use Rattle.gateway.specs.Committing.{record_for, commit}
use Rattle.gateway.specs.SettingUp.{opened, set_up_refusal}
use Rattle.gateway.specs.Calls.{taken, started, committed, worked_off, set_up, agreed_time}
use Rattle.run.specs.World.{round_frames, accepts_lvt, tag_of, after_taking, after_starting, after_working, after_committing, after_call, after_calls}
use Rattle.run.specs.World.{opening_ledger, opening_world}
use Rattle.run.specs.Ledger.{after_plain, after_cancel, did_one, did_some, committed_one, waiting}
use Rattle.run.specs.SingleQueue.{opening_messages, opening_queue, earliest, others, do_one, step_on, steps, turns_for, whole_record}
use Rattle.run.specs.ExampleRun.{world_at_end}
use Rattle.run.proofs.RunTests.{is_whole_run}

-- It says nothing itself: what unfolds it unfolds all these.
unfoldable pub computing : Unit {0}
unfolding
    every change together same_bytes part write bytes_of number_of from to mid0 mid1 gvtcfg widen share set_from set_to lead_times_valid sent key compared
    has_hour has_lamp map_of written all_between well_formed reading refusal entry_bytes entry_of sent_bytes sent_of decode encode sound settings_valid
    round_possible equal later ordered processed_first none_meet storable entry_valid sent_valid valid saved_stocks_bounded held_stock_bounded settled sent_all
    processed_of undone rolled_back take_plain take_cancel take_acknowledgment worked least_outstanding least_queued start bit_of all_bits take_start take_lvt
    take_update record_for commit opened set_up_refusal taken started committed worked_off set_up agreed_time round_frames accepts_lvt tag_of after_taking
    after_starting after_working after_committing after_call after_calls opening_ledger opening_world after_plain after_cancel did_one did_some committed_one
    waiting opening_messages opening_queue earliest others do_one step_on steps turns_for whole_record world_at_end is_whole_run
computing = tt
