-- `take::take_by_kind` meets its contract.
use mathlib.Core.Path.{◌∙◌}
use Rattle.memory.specs.Codec.{decode}
use Rattle.refusal.specs.declared.Refusal.TheVariants.{NoFrame}
use Rattle.gateway.proofs.Dispatching.{leaves-refused}
use Rattle.take.proofs.take_by_kind.Goals as goal

pub returns-in-Restock : goal.returns-in-Restock
returns-in-Restock c =
    leaves-refused c.args.memory.now c.args.output.now (decode c.args.memory.now) NoFrame ∙ rw c.in-Restock.is
