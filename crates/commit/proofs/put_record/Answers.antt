-- `commit::put_record` meets its contract.
use Rattle.commit.proofs.Recording.{frame-room, state-room, record-put}
use Rattle.commit.proofs.put_record.Goals as goal

pub put_frame-next-requires : goal.put_frame-next-requires
put_frame-next-requires c =
    frame-room c.args.entry c.args.output.now c.requires.0 c.frame_if.ensures

pub write_state-requires : goal.write_state-requires
write_state-requires c =
    state-room c.args.entry c.args.output.now c.requires.0 c.frame_if.ensures
    c.put_frame-next.ensures

pub returns : goal.returns
returns c =
    record-put c.args.entry c.args.output.now c.requires.0 c.frame_if.ensures
    c.put_frame-next.ensures c.state_after-state.ensures c.write_state.ensures
