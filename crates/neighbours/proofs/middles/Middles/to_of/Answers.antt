-- `to_of` gives Figure 2's to, a branch for a branch.
use native.Mathlib.Omega.{arith}
use Rattle.routing.proofs.Shape.{To}
use Rattle.neighbours.proofs.Branches.{to-answer}
use Rattle.neighbours.proofs.middles.Middles.to_of.Goals as goal

pub returns-then-own-n : goal.returns-then-own-n
returns-then-own-n c = to-answer c.args.self.figure.1 c.args.self.figure.2 c.requires (To.root (omega arith))

pub returns-then-own-self : goal.returns-then-own-self
returns-then-own-self c = to-answer c.args.self.figure.1 c.args.self.figure.2 c.requires (To.parent (omega arith) (omega arith))

pub returns-then-self-own : goal.returns-then-self-own
returns-then-self-own c = to-answer c.args.self.figure.1 c.args.self.figure.2 c.requires (To.two (omega arith) (omega arith) (omega arith))

pub returns-then-self-own-2 : goal.returns-then-self-own-2
returns-then-self-own-2 c = to-answer c.args.self.figure.1 c.args.self.figure.2 c.requires (To.one (omega arith) (omega arith) (omega arith))

pub returns-else-self-own-2 : goal.returns-else-self-own-2
returns-else-self-own-2 c = to-answer c.args.self.figure.1 c.args.self.figure.2 c.requires (To.across (omega arith) (omega arith) (omega arith))
