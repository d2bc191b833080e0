use Rattle.work.proofs.SeveralEvents.{Going}
use Rattle.work.proofs.work_off.Given as goal

abbrev pub invariant-loop-count : goal.invariant-loop-count
invariant-loop-count l =
    Going l.initial.memory l.initial.output l.header l.room l.memory l.output l.turn l.budget l.count
