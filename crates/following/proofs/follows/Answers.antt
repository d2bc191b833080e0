-- `following::follows` meets its contract.
use Rattle.following.proofs.Following.{later-hour}
use Rattle.following.proofs.follows.Goals as goal

pub returns-then-before-entry : goal.returns-then-before-entry
returns-then-before-entry c = later-hour c.args.before c.args.entry c.if-before-entry.true
