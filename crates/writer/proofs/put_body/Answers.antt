-- `writer::put_body` meets its contract.
use mathlib.Core.Path.{refl}
use native.Mathlib.Omega.{arith}
use Rattle.frame.proofs.Output.{hour-room, origin-room, lamp-room, quantity-room, body-put}
use Rattle.writer.proofs.put_body.Goals as goal

pub put_number-behind_hour-requires : goal.put_number-behind_hour-requires
put_number-behind_hour-requires c = (omega arith, refl, search hour-room)

pub put_number-behind_origin-requires : goal.put_number-behind_origin-requires
put_number-behind_origin-requires c = (
  omega arith,
  refl,
  origin-room c.args.map c.args.message _ _ c.requires c.put_number-behind_hour.ensures c.put_number-behind_hour.auto.out
      c.origin_of.ensures,
)

pub put_lamp-behind_lamp-requires : goal.put_lamp-behind_lamp-requires
put_lamp-behind_lamp-requires c =
    lamp-room c.args.map c.args.message _ _ c.requires c.put_number-behind_hour.ensures c.put_number-behind_hour.auto.out
    c.origin_of.ensures c.put_number-behind_origin.ensures c.put_number-behind_origin.auto.out

pub put_number-requires : goal.put_number-requires
put_number-requires c = (
  omega arith,
  refl,
  quantity-room c.args.map c.args.message _ _ c.requires c.put_number-behind_hour.ensures c.put_number-behind_hour.auto.out
      c.origin_of.ensures c.put_number-behind_origin.ensures c.put_number-behind_origin.auto.out c.put_lamp-behind_lamp.ensures
      c.put_lamp-behind_lamp.auto.out c.quantity_of.ensures,
)

pub returns : goal.returns
returns c =
    body-put c.args.map c.args.message _ _ c.requires c.put_number-behind_hour.ensures c.put_number-behind_hour.auto.out
    c.origin_of.ensures c.put_number-behind_origin.ensures c.put_number-behind_origin.auto.out c.put_lamp-behind_lamp.ensures
    c.put_lamp-behind_lamp.auto.out c.quantity_of.ensures c.put_number.ensures
