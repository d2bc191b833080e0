-- `take_lvt::value_in` meets its contract.
use native.Mathlib.Omega.{arith}
use Rattle.take_lvt.proofs.Arriving.{value-idle, value-counting, value-stopped}
use Rattle.gateway.proofs.Knowing.{sizes}
use Rattle.take_lvt.proofs.value_in.Goals as goal

pub least_queued-requires : goal.least_queued-requires
least_queued-requires c = let z = sizes _ _ c.requires in omega arith

pub returns-in-Idle : goal.returns-in-Idle
returns-in-Idle c = search value-idle

pub returns-in-Counting : goal.returns-in-Counting
returns-in-Counting c = search value-counting

pub returns-in-Stopped : goal.returns-in-Stopped
returns-in-Stopped c = search value-stopped
