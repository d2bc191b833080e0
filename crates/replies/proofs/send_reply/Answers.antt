-- `replies::send_reply` meets its contract.
use Rattle.replies.proofs.SendingRoom.{none-sent, place-free, one-sent}
use Rattle.replies.proofs.send_reply.Goals as goal

pub returns-in_default : goal.returns-in_default
returns-in_default c = rw c.in_default.is (none-sent c.args.memory.now c.args.header)

pub write_sent-requires : goal.write_sent-requires
write_sent-requires c =
    place-free c.args.memory.now c.args.header c.in-Some.message (rw c.in-Some.is at c.requires) c.outstanding_at.ensures

pub returns : goal.returns
returns c =
    rw c.in-Some.is
    (one-sent c.args.memory.now c.args.header c.in-Some.message (rw c.in-Some.is at c.requires)
    c.outstanding_at.ensures c.write_sent.ensures c.header_sent.ensures)
