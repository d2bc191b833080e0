-- A refused call leaves the world as it was, and so does work that does no event.
use mathlib.Core.Path.{◌≡◌, ◌∙◌, ap}
use Prim.Native.Nat.{ℕ}
use mathlib.Core.Bool.{false}
use mathlib.Core.List.{List, append-nil}
use lib.Dec.{eqb}
use borrow.Author.Tests.{eqb-false}
use lib.ListN.{length}
use Rattle.lists.specs.Families.{change}
use Rattle.memory.specs.Records.{Gateway}
use Rattle.memory.specs.Codec.{decode, encode}
use Rattle.lists.specs.Lists.{cut_by}
use Rattle.gateway.specs.Working.{worked}
use Rattle.gateway.specs.Claims.{RefusedAlone, SoundBytes}
use Rattle.gateway.specs.Rounds.{start}
use Rattle.gateway.specs.Committing.{commit}
use Rattle.gateway.specs.Calls.{CallResult, take_bytes, set_up, taken, started, committed, worked_off}
use Rattle.gateway.specs.Answers.{Answer}
use Rattle.gateway.specs.declared.Opening.{Opening}
use Rattle.run.specs.World.{World, works, takes, starts, commits, sets_up, with_memory, after_working, after_call}
use Rattle.run.specs.Ledger.{did_some}
use Rattle.gateway.proofs.Refusals.{NoEvent, no-event, call-refused, set-up-refused}
use Rattle.run.proofs.BesideCalls.{change-self}
use Rattle.run.proofs.HeldGateways.{held}

-- a refused call leaves the memory as it was
refused-memory : {memory output : List ℕ} {r : CallResult Answer} → RefusedAlone memory output r → eqb r.answer.number 0 ≡ false → r.memory ≡ memory
refused-memory {r = r} alone h = ap (λ (x : CallResult Answer). x.memory) (alone (eqb-false r.answer.number 0 h))

-- a world in which a call left the memory as it was
same_memory : (w : World) (i : ℕ) {memory : List ℕ} → memory ≡ w.memories i → with_memory i memory w ≡ w
same_memory w i e =
    ap (λ (f : ℕ → List ℕ). record { memories = f; under_way = w.under_way; records = w.records; ledgers = w.ledgers; rounds = w.rounds })
    (ap (λ (m : List ℕ). change i m w.memories) e ∙ change-self i w.memories)

-- a refused set up, frame, start call or commit
pub refused-set-up : (n : ℕ) (w : World) (i : ℕ) (o : Opening) (list : List ℕ) → ((set_up o list (w.memories i)).answer.number ≡ 0 → ⊥) →
    after_call n w (sets_up i o list) ≡ w
unfolding after_call
refused-set-up n w i o list h = same_memory w i (ap (λ (x : CallResult Answer). x.memory) (set-up-refused o list (w.memories i) h))

pub refused-frame : (n : ℕ) (w : World) (i : ℕ) (frame output : List ℕ) → eqb (taken (w.memories i) frame output).answer.number 0 ≡ false
    → after_call n w (takes i frame output) ≡ w
unfolding after_call taken
refused-frame n w i frame output h = rw h (same_memory w i (refused-memory (call-refused (take_bytes frame) (w.memories i) output) h))

pub refused-start : (n : ℕ) (w : World) (i : ℕ) (output : List ℕ) → eqb (started (w.memories i) output).answer.number 0 ≡ false →
    after_call n w (starts i output) ≡ w
unfolding after_call started
refused-start n w i output h = rw h (same_memory w i (refused-memory (call-refused start (w.memories i) output) h))

pub refused-commit : (n : ℕ) (w : World) (i : ℕ) (output : List ℕ) → eqb (committed (w.memories i) output).answer.number 0 ≡ false →
    after_call n w (commits i output) ≡ w
unfolding after_call committed
refused-commit n w i output h = rw h (same_memory w i (refused-memory (call-refused commit (w.memories i) output) h))

-- work that does no event
pub idle-work : (n : ℕ) (w : World) (i b : ℕ) (output : List ℕ) → SoundBytes (w.memories i) → (worked_off b (w.memories i)
    output).answer.count ≡ 0 → after_call n w (works i b output) ≡ w
unfolding after_call after_working worked_off cut_by did_some
idle-work n w i b output s h =
    rw (s.is-sound, none, ap length e.output)
    (λ k. record {
      memories = (ap (λ (m : List ℕ). change i m w.memories) same ∙ change-self i w.memories) k;
      under_way = append-nil w.under_way k;
      records = w.records;
      ledgers = change-self i w.ledgers k;
      rounds = w.rounds;
    })
  where
    g : Gateway
    g = decode (w.memories i)

    none : (worked b (length output) g).count ≡ 0
    none = rw s.is-sound at h

    e : NoEvent g (worked b (length output) g)
    e = no-event b (length output) g none

    same : encode (worked b (length output) g).gateway (w.memories i) ≡ w.memories i
    same = ap (λ (x : Gateway). encode x (w.memories i)) e.gateway ∙ (held (w.memories i) s).again
