-- `writer::put` meets its contract.
use mathlib.Core.Path.{refl}
use native.Mathlib.Omega.{arith}
use Rattle.frame.proofs.Output.{head-room, body-room, tail-room, frame-put}
use Rattle.writer.proofs.put.Goals as goal

pub put_head-behind_head-requires : goal.put_head-behind_head-requires
put_head-behind_head-requires c = search head-room

pub put_body-behind_body-requires : goal.put_body-behind_body-requires
put_body-behind_body-requires c = search body-room

pub put_number-requires : goal.put_number-requires
put_number-requires c = (
  omega arith,
  refl,
  tail-room c.args.frame _ _ c.requires c.map_of-map.ensures c.put_head-behind_head.ensures c.put_head-behind_head.auto.out
      c.put_body-behind_body.ensures c.put_body-behind_body.auto.out c.sense_number.ensures,
)

pub returns : goal.returns
returns c =
    frame-put c.args.frame _ _ c.requires c.map_of-map.ensures c.put_head-behind_head.ensures c.put_head-behind_head.auto.out
    c.put_body-behind_body.ensures c.put_body-behind_body.auto.out c.sense_number.ensures c.put_number.ensures
