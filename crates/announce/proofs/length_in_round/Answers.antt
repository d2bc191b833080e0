-- `announce::length_in_round` meets its contract.
use mathlib.Core.Path.{refl, sym}
use Rattle.model.specs.declared.Kind.TheVariants.{Start}
use Rattle.frame.proofs.Sizes.{start-length}
use Rattle.announce.proofs.Announcing.{length-of-others}
use Rattle.announce.proofs.length_in_round.Goals as goal

pub returns-in-Start : goal.returns-in-Start
returns-in-Start c = rw c.in-Start.is (sym (start-length Start refl))

pub returns-in_default : goal.returns-in_default
returns-in_default c = length-of-others c.args.kind c.requires c.in_default.not-Start
