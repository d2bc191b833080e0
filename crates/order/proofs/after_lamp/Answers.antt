-- `order::after_lamp` meets its contract.
use Rattle.model.specs.Messages.{quantity_of}
use Rattle.model.proofs.Keys.{three}
use Rattle.order.proofs.after_lamp.Goals as goal

pub returns : goal.returns
returns c = let a = c.args.a in let b = c.args.b in cc (three (quantity_of a.kind) a.from a.to (quantity_of b.kind) b.from b.to)
