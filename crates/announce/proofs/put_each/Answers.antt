-- `announce::put_each` meets its contract.
use Rattle.announce.proofs.Announcing.{put-none, one-room, put_one, two-room, put_both}
use Rattle.announce.proofs.put_each.Goals as goal

pub put_frame-requires : goal.put_frame-requires
put_frame-requires c = one-room _ _ _ _ c.round_frame.ensures (rw c.in-One.is at c.requires)

pub put_two-requires : goal.put_two-requires
put_two-requires c =
    two-room _ _ _ _ c.round_frame-in-Two.ensures c.round_frame-in-Two-2.ensures (rw c.in-Two.is at c.requires)

pub returns-in-None : goal.returns-in-None
returns-in-None c = rw c.in-None.is (put-none c.args.kind c.args.hour c.args.own _)

pub returns-in-One : goal.returns-in-One
returns-in-One c = rw c.in-One.is (put_one _ _ _ _ c.round_frame.ensures c.put_frame.ensures)

pub returns-in-Two : goal.returns-in-Two
returns-in-Two c = rw c.in-Two.is (put_both _ _ _ _ c.round_frame-in-Two.ensures c.round_frame-in-Two-2.ensures c.put_two.ensures)
