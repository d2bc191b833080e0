-- The answers of the exported functions: what a call leaves, with the numbers of its answer packed into one.
use Rattle.std.specs.Prelude.{◌≡◌, Result, Ok, Err, ℕ, ◌+◌, ◌/◌, ◌%◌, cond, List, ◌∷◌, leb, eqb, length, drop}
use Rattle.std.specs.Borrow.{Bor}
use Rattle.refusal.specs.declared.Refusal.{Refusal}
use Rattle.refusal.specs.Numbers.{refusal_number}
use Rattle.routing.specs.Answers.{neighbours_of}
use Rattle.routing.specs.declared.Neighbours.{Neighbours}
use Rattle.packing.specs.Packed.{packed, ReadBack, packed_two, ReadBackTwo, number_at}
use Rattle.buffer.specs.Slice.{Bytes}
use Rattle.frame.specs.Reasons.{reading}
use Rattle.frame.specs.Lamps.{lamp_refusal, lamp_start, IsLamp}
use Rattle.records.specs.Balancing.{balanced}
use Rattle.views.specs.Viewing.{ViewResult, viewed}
use Rattle.gateway.specs.Calls.{CallResult, taken, started, committed, worked_off, agreed_time}
use Rattle.gateway.specs.Answers.{Answer, Worked, AgreedTime}
use Rattle.gateway.specs.declared.Opening.{Opening}

-- what taking a frame, the start call and commit leave, with the answer packed: the count is 0
abbrev pub packed_answer : CallResult Answer → CallResult ℕ
packed_answer l = record { answer = packed l.answer.number l.answer.written 0; memory = l.memory; output = l.output }

-- what work leaves, with the answer packed: why it stopped, the bytes written and the events done
abbrev pub packed_work : CallResult Worked → CallResult ℕ
packed_work l = record { answer = packed l.answer.why l.answer.written l.answer.count; memory = l.memory; output = l.output }

-- the settings of set up
abbrev pub settings_given : (n own supplier stock last q u request delivery life : ℕ) → Opening
settings_given n own supplier stock last q u request delivery life = record {
  n = n;
  own = own;
  supplier = supplier;
  stock = stock;
  last = last;
  q = q;
  u = u;
  hours = record { request = request; delivery = delivery; life = life };
}

-- what set up leaves, with the answer's number alone: it writes no output
abbrev pub number_alone : CallResult Answer → CallResult ℕ
number_alone l = record { answer = l.answer.number; memory = l.memory; output = l.output }

-- the agreed time's number and hour
abbrev pub packed_time : AgreedTime → ℕ
packed_time t = packed t.number 0 t.hour

-- the answer of reading the lamp: the number, and above it the place of the lamp's first byte in the frame, 0 where it is refused;
-- a C program reads back the number, and the very place of the part that reading the lamp hands back
pub record LampAnswer (frame : Bor (List ℕ)) (answer : ℕ) : Type 0 where
  pub equal : answer ≡ packed (lamp_refusal frame.now) (lamp_start (reading frame.now)) 0
  pub number : answer % 256 ≡ lamp_refusal frame.now
  pub place : (p : Bor (List ℕ)) → IsLamp frame p → p.ref_ptr ≡ (frame.ref_ptr.0, answer / 256 + frame.ref_ptr.1)

-- what the call of a view leaves: its number and, above it, the bytes written, and the output
pub record PackedViewResult : Type 0 where
  pub answer : ℕ
  pub output : List ℕ

abbrev pub packed_view : ViewResult → PackedViewResult
packed_view l = record { answer = packed_two l.answer.number l.answer.written; output = l.output }

-- what the call of routing leaves: its number, and the array
pub record RouteResult : Type 0 where
  pub answer : ℕ
  pub neighbours : List ℕ

-- the two that a gateway hears from and the two that it tells at the array's front; the refusals of routing, then 5 for an array of
-- less than four
abbrev pub put_front : Result Neighbours Refusal → List ℕ → RouteResult
put_front (Ok r) neighbours =
    let front = number_at r.from 0 ∷ number_at r.from 1 ∷ number_at r.to 0 ∷ number_at r.to 1 ∷ drop 4 neighbours in
    cond (leb 4 (length neighbours)) (record { answer = 0; neighbours = front }) (record { answer = 5; neighbours = neighbours })
put_front (Err why) neighbours = record { answer = refusal_number why; neighbours = neighbours }

-- those of gateway own among N; 8 for a number outside its range
unfoldable pub routed : (N own : ℕ) → List ℕ → RouteResult
routed N own neighbours = put_front (neighbours_of N own) neighbours

-- what the call of the balance leaves: its number, and the array
pub record BalanceResult : Type 0 where
  pub answer : ℕ
  pub figures : List ℕ

-- received, served and the last stock at the array's front; the refusals of the balance, then 5 for an array of less than three
unfoldable pub balance_given : ℕ → List ℕ → List ℕ → BalanceResult
unfolding balanced
balance_given opening bytes figures =
    let b = balanced opening bytes in
    let front = b.received ∷ b.served ∷ b.stock ∷ drop 3 figures in
    cond (eqb b.number 0)
    (cond (leb 3 (length figures)) (record { answer = 0; figures = front }) (record { answer = 5; figures = figures }))
    (record { answer = b.number; figures = figures })

-- what is proved of the packed answers beside the contracts: whatever bytes a call is given, the parts of its answer are read back
pub record AnswersReadBack : Type 0 where
  pub of_taking : (memory frame output : List ℕ) → Bytes memory → Bytes frame
      → ReadBack (taken memory frame output).answer.number (taken memory frame output).answer.written 0
  pub of_starting : (memory output : List ℕ) → Bytes memory → ReadBack (started memory output).answer.number (started memory output).answer.written 0
  pub of_committing : (memory output : List ℕ) → Bytes memory → ReadBack (committed memory output).answer.number (committed memory output).answer.written 0
  pub of_working : (b : ℕ) (memory output : List ℕ) → Bytes memory
      → ReadBack (worked_off b memory output).answer.why (worked_off b memory output).answer.written (worked_off b memory output).answer.count
  pub of_viewing : (reader old_stock : ℕ) (bytes output : List ℕ)
      → ReadBackTwo (viewed reader old_stock bytes output).answer.number (viewed reader old_stock bytes output).answer.written
  pub of_reading_time : (memory : List ℕ) → ReadBack (agreed_time memory).number 0 (agreed_time memory).hour
