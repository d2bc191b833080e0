-- The gateway that a memory holds after a call that was accepted: the one that the call came to.
use mathlib.Core.Path.{◌≡◌, sym, ap, subst}
use Prim.Native.Nat.{ℕ}
use mathlib.Core.List.{List}
use lib.ListN.{length}
use Rattle.memory.specs.Records.{Gateway}
use Rattle.memory.specs.Codec.{decode, encode}
use Rattle.memory.specs.Claims.{ReadingLaws}
use Rattle.memory.proofs.SoundMemory.{codec-laws}
use Rattle.gateway.specs.Effects.{Outcome}
use Rattle.gateway.specs.Calls.{CallResult, on_sound}
use Rattle.gateway.specs.Claims.{SoundBytes}
use Rattle.gateway.specs.Answers.{Answer}
use Rattle.gateway.proofs.Maintaining.{Proper, Kept, Ends}
use Rattle.run.proofs.AcceptedCalls.{on-sound}

-- sound memory of bytes that holds the gateway g, a proper one with the settings of a gateway before
pub record Holds (before : Gateway) (memory : List ℕ) (g : Gateway) : Type 0 where
  pub holds : decode memory ≡ g
  pub still : SoundBytes memory
  pub kept : Kept before.settings g

module _ (memory : List ℕ) (b : SoundBytes memory) where
  pub held : ReadingLaws memory
  held = codec-laws.reading memory b.bytes b.is-sound

  pub held-proper : Proper (decode memory)
  held-proper = record { valid = held.valid-held; ranged = held.ranged }

  -- a proper gateway with the same settings, written over it
  pub written_held : (g : Gateway) → Kept (decode memory).settings g → Holds (decode memory) (encode g memory) g
  written_held g k =
      let w = codec-laws.writing g memory k.proper.valid k.proper.ranged (rw k.same held.long) in
      record { holds = w.again; still = record { bytes = w.bytes_after b.bytes; is-sound = w.sound-after }; kept = k }

  -- an accepted call
  pub call-held : (call : ℕ → Gateway → Outcome) (output : List ℕ) → Ends (decode memory).settings (call (length output) (decode memory))
      → (on_sound call memory output).answer.number ≡ 0
      → Holds (decode memory) (on_sound call memory output).memory (call (length output) (decode memory)).gateway
  call-held call output ends h =
      let g = (call (length output) (decode memory)).gateway in
      subst (λ m. Holds (decode memory) m g) (sym (ap (λ (l : CallResult Answer). l.memory) (on-sound call memory output h).2))
      (written_held g ends.gateway)
