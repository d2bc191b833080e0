-- The parts of every packed answer are read back: the number of a call is below 256, and it writes few bytes.
use mathlib.Core.Path.{◌≡◌, refl}
use mathlib.Core.Bool.{Bool, true, false, cond}
use mathlib.Core.List.{List}
use Prim.Native.Nat.{ℕ, ◌<◌}
use native.Mathlib.Omega.{arith}
use lib.Dec.{eqb}
use lib.ListN.{length}
use Rattle.buffer.specs.Slice.{Bytes, write}
use Rattle.memory.specs.Records.{Gateway}
use Rattle.memory.specs.Codec.{header_at, decode, encode}
use Rattle.memory.specs.Soundness.{sound}
use Rattle.gateway.proofs.Calling.{by-work}
use Rattle.gateway.specs.Effects.{Outcome}
use Rattle.gateway.specs.Rounds.{start}
use Rattle.gateway.specs.Committing.{commit}
use Rattle.gateway.specs.Calls.{CallResult, refused_with, leaving, on_sound, take_bytes, taken, started, committed, worked_off, agreed_time}
use Rattle.gateway.specs.Answers.{Answer, AgreedTime}
use Rattle.gateway.proofs.Maintaining.{Proper}
use Rattle.gateway.proofs.Keeps.{start-keeps, commit-keeps, bytes-keep, work-keeps}
use Rattle.hurfaith.specs.Exported.{AnswersReadBack}
use Rattle.hurfaith.proofs.WrittenSizes.{held, started-small, committed-small, worked-small}
use Rattle.hurfaith.proofs.TakenSizes.{taken-small}
use Rattle.hurfaith.proofs.ViewSizes.{view-read-back}
use Rattle.packing.proofs.Packing.{read_back}

module _ (memory output : List ℕ) (bytes : Bytes memory) where
  left-number : (r : Outcome) → r.number < 256 → (leaving r memory output).answer.number < 256
  unfolding leaving
  left-number r h = by (eqb r.number 0)
    where
      left : Bool → CallResult Answer
      left b =
          cond b
          (record { answer = record { number = 0; written = length r.output }; memory = encode r.gateway memory; output = write 0 r.output output })
          (refused_with r.number memory output)

      by : (b : Bool) → (left b).answer.number < 256
      by true = omega arith
      by false = omega (arith, h)

  call-number : (call : ℕ → Gateway → Outcome) → (Proper (decode memory) → (call (length output) (decode memory)).number < 256) → (on_sound call
      memory output).answer.number < 256
  unfolding on_sound
  call-number call h = by (sound memory) refl
    where
      by : (b : Bool) → sound memory ≡ b → (cond b (leaving (call (length output) (decode memory)) memory output) (refused_with 10 memory
          output)).answer.number < 256
      by true e = left-number (call (length output) (decode memory)) (h (held memory output bytes e))
      by false e = omega arith

  started-number : (started memory output).answer.number < 256
  unfolding started
  started-number = call-number start (λ p. (start-keeps p (length output)).number.small)

  committed-number : (committed memory output).answer.number < 256
  unfolding committed
  committed-number = call-number commit (λ p. (commit-keeps p (length output)).number.small)

  taken-number : (frame : List ℕ) → Bytes frame → (taken memory frame output).answer.number < 256
  unfolding taken
  taken-number frame read = call-number (take_bytes frame) (λ p. (bytes-keep p frame read (length output)).number.small)

  worked-number : (b : ℕ) → (worked_off b memory output).answer.why < 256
  worked-number b =
      by-work b memory output (λ a. a.why < 256) (λ e. omega (arith, (work-keeps b (length output) (held memory output bytes e)).why)) (omega arith)

time-number : (memory : List ℕ) → (agreed_time memory).number < 256
unfolding agreed_time
time-number memory = by (sound memory)
  where
    by : (b : Bool) → (cond {A = AgreedTime} b (record { number = 0; hour = (header_at memory).agreed }) (record { number = 10; hour = 0 })).number < 256
    by true = omega arith
    by false = omega arith

pub answers-read-back : AnswersReadBack
answers-read-back =
    record {
      of_taking = λ memory frame output bytes read. read_back _ _ 0 (taken-number memory output bytes frame read) (omega (
        arith,
        taken-small
            memory frame output bytes read,
      ));
      of_starting = λ memory output bytes. read_back _ _ 0 (started-number memory output bytes) (omega (arith, started-small memory output bytes));
      of_committing = λ memory output bytes. read_back _ _ 0 (committed-number memory output bytes) (omega (arith, committed-small memory output bytes));
      of_working = λ b memory output bytes. read_back _ _ _ (worked-number memory output bytes b) (omega (arith, worked-small memory output bytes b));
      of_viewing = view-read-back;
      of_reading_time = λ memory. read_back _ _ _ (time-number memory) (omega arith);
    }
