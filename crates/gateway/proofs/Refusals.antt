-- A refusal changes nothing, nor does work that does no event.
use mathlib.Core.Path.{◌≡◌, refl, ◌∙◌, ap}
use Prim.Native.Nat.{ℕ, zero, suc, ◌-◌}
use native.Mathlib.Omega.{arith}
use mathlib.Core.Bool.{Bool, true, false, cond}
use mathlib.Core.List.{List, [], ◌∷◌}
use lib.Dec.{eqb}
use lib.ListN.{length}
use Rattle.buffer.specs.Slice.{Bytes, write}
use Rattle.buffer.proofs.Writes.{write-nil}
use Rattle.model.specs.declared.Message.{Message}
use Rattle.memory.specs.Records.{Gateway}
use Rattle.memory.specs.Codec.{decode, encode}
use Rattle.memory.specs.Soundness.{sound}
use Rattle.memory.proofs.SoundMemory.{codec-laws}
use Rattle.gateway.specs.Effects.{Outcome, bytes_of_frames, fits}
use Rattle.gateway.specs.Working.{Progress, none_done, once_more, worked_by, worked, done, pending_of}
use Rattle.gateway.specs.Rounds.{start}
use Rattle.gateway.specs.Committing.{commit}
use Rattle.gateway.specs.SettingUp.{opened, cut_frames, set_up_refusal}
use Rattle.gateway.specs.Calls.{CallResult, left, refused_with, leaving, on_sound, take_bytes, taken, started, committed, worked_off, set_up}
use Rattle.gateway.specs.Claims.{RefusedAlone, RefusalsChangeNothing}
use Rattle.gateway.specs.Answers.{Worked}
use Rattle.gateway.specs.declared.Opening.{Opening}

-- a call on the gateway that the memory holds
pub call-refused : (call : ℕ → Gateway → Outcome) (memory output : List ℕ) → RefusedAlone memory output (on_sound call memory output)
unfolding on_sound leaving
call-refused call memory output = by-case (sound memory) (eqb r.number 0)
  where
    r : Outcome
    r = call (length output) (decode memory)

    by-case : (is-sound done : Bool)
        → RefusedAlone memory output (cond is-sound
        (cond done
        (record { answer = record { number = 0; written = length r.output }; memory = encode r.gateway memory; output = write 0 r.output output })
        (refused_with r.number memory output))
        (refused_with 10 memory output))
    by-case true true h = absurd (h refl)
    by-case true false h = refl
    by-case false done h = refl

-- set up
pub set-up-refused : (o : Opening) (list memory : List ℕ) → RefusedAlone memory [] (set_up o list memory)
unfolding set_up
set-up-refused o list memory = by-case (eqb (set_up_refusal o (length memory) list) 0)
  where
    by-case : (accepted : Bool)
        → RefusedAlone memory [] (cond accepted
        (record { answer = record { number = 0; written = 0 }; memory = encode (opened o (cut_frames (length list) list)) memory; output = [] })
        (refused_with (set_up_refusal o (length memory) list) memory []))
    by-case true h = absurd (h refl)
    by-case false h = refl

-- work that does no event leaves the gateway and writes nothing
pub record NoEvent (g : Gateway) (p : Progress) : Type 0 where
  pub gateway : p.gateway ≡ g
  pub output : p.output ≡ []

pub no-event : (b room : ℕ) (g : Gateway) → (worked b room g).count ≡ 0 → NoEvent g (worked b room g)
unfolding worked
no-event zero room g h = record { gateway = refl; output = refl }
no-event (suc b) room g h = next (pending_of g.queue) h
  where
    rest : Message → Progress
    rest m = once_more (bytes_of_frames (done m g).frames) (worked b (room - length (bytes_of_frames (done m g).frames)) (done m g).gateway)

    once : (m : Message) (t : Bool) → (cond t (rest m) (none_done 5 g)).count ≡ 0 → NoEvent g (cond t (rest m) (none_done 5 g))
    once m true k = absurd (omega arith)
    once m false k = record { gateway = refl; output = refl }

    next : (ms : List Message) → (worked_by ms (none_done 6 g) (λ m. cond (fits room (done m g)) (rest m) (none_done 5 g))).count ≡ 0
        → NoEvent g (worked_by ms (none_done 6 g) (λ m. cond (fits room (done m g)) (rest m) (none_done 5 g)))
    next [] k = record { gateway = refl; output = refl }
    next (m ∷ ms) k = once m (fits room (done m g)) k

-- a call leaves the memory and the output and writes no byte
pub record LeavesAll (memory output : List ℕ) (r : CallResult Worked) : Type 0 where
  pub written : r.answer.written ≡ 0
  pub same : r.memory ≡ memory
  pub as_it_was : r.output ≡ output

pub work-idle : (b : ℕ) (memory output : List ℕ) → Bytes memory → (worked_off b memory output).answer.count ≡ 0
    → LeavesAll memory output (worked_off b memory output)
unfolding worked_off
work-idle b memory output bytes = by-case (sound memory) refl
  where
    p : Progress
    p = worked b (length output) (decode memory)

    by-case : (t : Bool) → sound memory ≡ t
        → let r : CallResult Worked = cond t
        (record {
          answer = record { count = p.count; why = p.why; written = length p.output };
          memory = encode p.gateway memory;
          output = write 0 p.output output;
        })
        (left (record { count = 0; why = 10; written = 0 }) memory output) in
        r.answer.count ≡ 0 → LeavesAll memory output r
    by-case true is-sound none =
        let e = no-event b (length output) (decode memory) none in
        record {
          written = ap length e.output;
          same = ap (λ (g : Gateway). encode g memory) e.gateway ∙ (codec-laws.reading memory bytes is-sound).again;
          as_it_was = ap (λ (l : List ℕ). write 0 l output) e.output ∙ write-nil 0 output;
        }
    by-case false is-sound none = record { written = refl; same = refl; as_it_was = refl }

pub refusals-change-nothing : RefusalsChangeNothing
unfolding taken started committed
refusals-change-nothing =
    record {
      at_set_up = set-up-refused;
      at_taking = λ memory frame output. call-refused (take_bytes frame) memory output;
      at_starting = call-refused start;
      at_committing = call-refused commit;
      at_working = λ b memory output bytes none. let l = work-idle b memory output bytes none in (l.written, l.same, l.as_it_was);
    }
