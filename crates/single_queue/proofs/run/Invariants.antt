-- `single_queue::run` meets its contract.
use Rattle.std.proofs.Common.{◌+◌, ◌*◌, ◌≤◌}
use Rattle.single_queue.proofs.run.Given as goal

-- a message brings no more than fits in two bytes
abbrev pub invariant-loop-k : goal.invariant-loop-k
invariant-loop-k g l = (l.first.state.stock ≤ 65535 * (l.k + 1)) × (l.second.state.stock ≤ 65535 * (l.k + 1))
