-- `commit::event_length` meets its contract.
use mathlib.Core.Path.{refl, sym}
use Rattle.model.specs.declared.Kind.TheVariants.{Restock}
use Rattle.frame.proofs.Sizes.{restock-length}
use Rattle.commit.proofs.Recording.{length-of-others}
use Rattle.commit.proofs.event_length.Goals as goal

pub returns-in-Restock : goal.returns-in-Restock
returns-in-Restock c = rw c.in-Restock.is (sym (restock-length (Restock c.in-Restock.quantity) refl))

pub returns-in_default : goal.returns-in_default
returns-in_default c = length-of-others c.args.kind c.requires c.in_default.not-Restock
