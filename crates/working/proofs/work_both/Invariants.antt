-- `working::work_both` meets its contract.
use Rattle.std.proofs.Common.{◌≤◌, length}
use Rattle.working.proofs.work_both.Given as goal

-- the line grows
abbrev pub invariant-loop-gateway : goal.invariant-loop-gateway
invariant-loop-gateway g l = length l.initial.line.items ≤ length l.line.items
