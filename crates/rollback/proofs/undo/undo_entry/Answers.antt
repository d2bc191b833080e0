-- `rollback::undo::undo_entry` meets its contract.
use mathlib.Core.Path.{ap}
use mathlib.Core.Bool.{not}
use Rattle.rollback.proofs.UndoLaws.{left_alone, only-restored, place-free, counted, sent-one}
use Rattle.rollback.proofs.undo.undo_entry.Goals as goal

pub returns-then-not-is_processed : goal.returns-then-not-is_processed
returns-then-not-is_processed c = λ before g fits may. left_alone fits may c.is_processed.ensures (ap not c.if-not-is_processed.true)

pub returns-in_default : goal.returns-in_default
returns-in_default c =
    λ before g fits may. only-restored fits may c.is_processed.ensures (ap not c.if-not-is_processed.false) c.site_of.ensures
    {reply = c.reply_to-reply.result} c.reply_to-reply.ensures c.in_default.is

pub write_sent-requires : goal.write_sent-requires
write_sent-requires c =
    place-free c.requires.2 c.requires.3 c.is_processed.ensures (ap not c.if-not-is_processed.false) c.site_of.ensures
    {reply = c.reply_to-reply.result} c.reply_to-reply.ensures c.in-Some.is c.outstanding_at.ensures

pub header_sent-requires : goal.header_sent-requires
header_sent-requires c =
    counted c.requires.2 c.requires.3 c.is_processed.ensures (ap not c.if-not-is_processed.false) c.site_of.ensures
    {reply = c.reply_to-reply.result} c.reply_to-reply.ensures c.in-Some.is c.outstanding_at.ensures

pub returns : goal.returns
returns c =
    λ before g fits may.
    sent-one fits may c.is_processed.ensures (ap not c.if-not-is_processed.false) c.site_of.ensures
    {reply = c.reply_to-reply.result} c.reply_to-reply.ensures c.in-Some.is c.outstanding_at.ensures
    c.write_sent.ensures c.header_sent.ensures
