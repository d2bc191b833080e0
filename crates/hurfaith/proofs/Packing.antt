-- Laws of packed answers: the parts fit, and what a call leaves is what its packed answer says.
use mathlib.Core.Path.{◌≡◌, ◌∙◌, ap}
use mathlib.Core.List.{List}
use Prim.Native.Nat.{ℕ, ◌<◌}
use native.Mathlib.Omega.{arith}
use Rattle.buffer.specs.Slice.{Bytes}
use Rattle.gateway.specs.Calls.{CallResult, worked_off, taken, started, committed}
use Rattle.gateway.specs.Answers.{Answer, Worked, AgreedTime}
use Rattle.packing.specs.Packed.{packed}
use Rattle.hurfaith.specs.Exported.{packed_answer, packed_work, number_alone, packed_time}
use Rattle.hurfaith.proofs.WrittenSizes.{started-small, committed-small, worked-small}
use Rattle.hurfaith.proofs.TakenSizes.{taken-small}

-- an answer packed, and its number alone
pub answer-packed : {l : CallResult Answer} {r : Answer} {v : ℕ} {memory output : List ℕ} → record { answer = r; memory = memory; output = output } ≡ l
    → v ≡ packed r.number r.written 0 → record { answer = v; memory = memory; output = output } ≡ packed_answer l
answer-packed {memory = memory} {output = output} e p = ap (λ (x : ℕ). record { answer = x; memory = memory; output = output }) p ∙ ap packed_answer e

pub answer-alone : {l : CallResult Answer} {r : Answer} {memory output : List ℕ} → record { answer = r; memory = memory; output = output } ≡ l
    → record { answer = r.number; memory = memory; output = output } ≡ number_alone l
answer-alone e = ap number_alone e

pub work-packed : {l : CallResult Worked} {r : Worked} {v : ℕ} {memory output : List ℕ} → record { answer = r; memory = memory; output = output } ≡ l
    → v ≡ packed r.why r.written r.count → record { answer = v; memory = memory; output = output } ≡ packed_work l
work-packed {memory = memory} {output = output} e p = ap (λ (x : ℕ). record { answer = x; memory = memory; output = output }) p ∙ ap packed_work e

pub time-packed : {t r : AgreedTime} {v : ℕ} → r ≡ t → v ≡ packed r.number 0 r.hour → v ≡ packed_time t
time-packed e p = p ∙ ap packed_time e

-- the bytes written fit their place
module _ (memory output : List ℕ) (bytes : Bytes memory) {after written : List ℕ} where
  pub started-fits : {r : Answer} → record { answer = r; memory = after; output = written } ≡ started memory output → r.written < 16777216
  started-fits e = let same = ap (λ (x : CallResult Answer). x.answer.written) e in omega (arith, same, started-small memory output bytes)

  pub committed-fits : {r : Answer} → record { answer = r; memory = after; output = written } ≡ committed memory output → r.written < 16777216
  committed-fits e = let same = ap (λ (x : CallResult Answer). x.answer.written) e in omega (arith, same, committed-small memory output bytes)

  pub worked-fits : (b : ℕ) {r : Worked} → record { answer = r; memory = after; output = written } ≡ worked_off b memory output → r.written < 16777216
  worked-fits b e = let same = ap (λ (x : CallResult Worked). x.answer.written) e in omega (arith, same, worked-small memory output bytes b)

  pub taken-fits : (frame : List ℕ) → Bytes frame → {r : Answer} → record { answer = r; memory = after; output = written } ≡ taken memory
      frame output → r.written < 16777216
  taken-fits frame read e = let same = ap (λ (x : CallResult Answer). x.answer.written) e in omega (arith, same, taken-small memory frame output bytes read)
