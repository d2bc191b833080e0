-- `commit::commit_place` meets its contract.
use native.Mathlib.Omega.{arith}
use Rattle.frame.proofs.Sizes.{kind-small}
use Rattle.commit.proofs.Recording.{record-room, no_record, record-done}
use Rattle.commit.proofs.commit_place.Goals as goal

pub overflow_add-size : goal.overflow_add-size
overflow_add-size c =
    omega (arith, c.event_length-size.ensures, kind-small c.args.entry.message.kind)

pub returns-then-output-size : goal.returns-then-output-size
returns-then-output-size c =
    no_record c.args.entry c.requires.2 c.args.memory.now c.args.output.now c.args.k
    c.event_length-size.ensures c.if-output-size.true

pub put_record-requires : goal.put_record-requires
put_record-requires c = (
  record-room c.args.entry c.requires.2 c.args.memory.now c.args.output.now c.args.k
      c.event_length-size.ensures c.if-output-size.false,
  c.requires.4,
)

pub returns : goal.returns
returns c =
    record-done c.args.entry c.requires.2 c.args.memory.now c.args.output.now c.args.k
    c.event_length-size.ensures c.if-output-size.false c.put_record.ensures c.remove_entry.ensures
