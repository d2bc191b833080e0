-- `views::copy_old_state` meets its contract.
use Rattle.views.proofs.ViewParts.{old-copied}
use Rattle.views.proofs.copy_old_state.Goals as goal

pub returns : goal.returns
returns c = old-copied c.args.at c.args.from c.args.output.now c.args.event.now c.requires.0 c.requires.1 c.copy.ensures c.copy-2.ensures
