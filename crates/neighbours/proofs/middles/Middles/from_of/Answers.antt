-- `from_of` gives Figure 2's from, a branch for a branch.
use native.Mathlib.Omega.{arith}
use Rattle.routing.proofs.Shape.{From}
use Rattle.neighbours.proofs.Branches.{from-answer}
use Rattle.neighbours.proofs.middles.Middles.from_of.Goals as goal

pub returns-then-own-eq0 : goal.returns-then-own-eq0
returns-then-own-eq0 c = from-answer c.args.self.figure.1 c.args.self.figure.2 c.requires (From.root c.if-own-eq0.true)

pub returns-then-own-self : goal.returns-then-own-self
returns-then-own-self c = from-answer c.args.self.figure.1 c.args.self.figure.2 c.requires (From.parent (omega arith) (omega arith))

pub returns-then-self-n : goal.returns-then-self-n
returns-then-self-n c = from-answer c.args.self.figure.1 c.args.self.figure.2 c.requires (From.two (omega arith) (omega arith) (omega arith))

pub returns-then-self-n-2 : goal.returns-then-self-n-2
returns-then-self-n-2 c = from-answer c.args.self.figure.1 c.args.self.figure.2 c.requires (From.one (omega arith) (omega arith) (omega arith))

pub returns-else-self-n-2 : goal.returns-else-self-n-2
returns-else-self-n-2 c = from-answer c.args.self.figure.1 c.args.self.figure.2 c.requires (From.across (omega arith) (omega arith) (omega arith))
