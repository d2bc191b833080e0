-- `soundness::checked` meets its contract.
use native.Mathlib.Omega.{arith}
use Rattle.soundness.proofs.ByParts.{checked-short, checked-refused}
use Rattle.soundness.proofs.checked.Goals as goal

pub returns-then-memory-lt-HEADER_SIZE : goal.returns-then-memory-lt-HEADER_SIZE
returns-then-memory-lt-HEADER_SIZE c = checked-short c.args.memory.now (omega arith) c.no_header.ensures

pub returns-then-not-all_sound : goal.returns-then-not-all_sound
returns-then-not-all_sound c = search checked-refused
