-- What the calls answer, in the documents' numbers.
use Rattle.std.specs.Prelude.{ℕ, Result, Ok, Err}
use Rattle.refusal.specs.Numbers.{refusal_number, number_if}
use Rattle.refusal.specs.declared.Refusal.{Refusal}
use Rattle.gateway.specs.declared.Worked.{Worked as WorkAnswer}

-- what taking a frame, the start call, commit and set up answer: document 01's number, 0 where the call is accepted, and how many bytes
-- were written
pub record Answer : Type 0 where
  pub number : ℕ
  pub written : ℕ

-- what work answers: the count done, why it stopped, 0 where all were done, and how many bytes were written
pub record Worked : Type 0 where
  pub count : ℕ
  pub why : ℕ
  pub written : ℕ

-- what reading the agreed time answers: 0 and the hour, or 10
pub record AgreedTime : Type 0 where
  pub number : ℕ
  pub hour : ℕ

-- a refusal writes nothing
abbrev pub answer_of : Result ℕ Refusal → Answer
answer_of (Ok written) = record { number = 0; written = written }
answer_of (Err why) = record { number = refusal_number why; written = 0 }

-- work has a refusal or none
abbrev pub worked_as : WorkAnswer → Worked
worked_as w = record { count = w.count; why = number_if w.stopped; written = w.written }

-- a refusal gives no hour
abbrev pub time_of : Result ℕ Refusal → AgreedTime
time_of (Ok hour) = record { number = 0; hour = hour }
time_of (Err why) = record { number = refusal_number why; hour = 0 }
