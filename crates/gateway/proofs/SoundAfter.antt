-- No call answers 10 to memory that the calls left.
use mathlib.Core.Path.{◌≡◌, refl, ◌∙◌, ap, subst}
use Prim.Native.Nat.{ℕ, ◌≤◌}
use native.Mathlib.Omega.{arith}
use mathlib.Core.Bool.{Bool, true, false, cond}
use mathlib.Core.List.{List}
use lib.Dec.{eqb}
use lib.ListN.{length}
use Rattle.buffer.specs.Slice.{Bytes, part, write}
use Rattle.memory.specs.Records.{Gateway}
use Rattle.memory.specs.Layout.{size_for}
use Rattle.memory.specs.Claims.{ReadingLaws}
use Rattle.memory.specs.Codec.{decode, encode}
use Rattle.memory.specs.declared.Settings.{Settings}
use Rattle.memory.proofs.SoundMemory.{codec-laws}
use Rattle.gateway.specs.Effects.{Outcome}
use Rattle.gateway.specs.Rounds.{start}
use Rattle.gateway.specs.Committing.{commit}
use Rattle.gateway.specs.SettingUp.{settings_of}
use Rattle.gateway.specs.Calls.{CallResult, refused_with, leaving, on_sound, take_bytes, taken, started, committed, worked_off, set_up, agreed_time}
use Rattle.gateway.specs.Claims.{SoundBytes, StaysSound, NeverUnsound}
use Rattle.gateway.specs.Answers.{Answer}
use Rattle.gateway.specs.declared.Opening.{Opening}
use Rattle.gateway.proofs.Maintaining.{Proper, Kept, Answers, below-ten, Ends}
use Rattle.gateway.proofs.Keeps.{start-keeps, commit-keeps, bytes-keep, work-keeps}
use Rattle.gateway.proofs.Openings.{set-up-accepted, opened-keeps, opening-long}

-- a proper gateway written over memory that is long enough for it
written : {s : Settings} {g : Gateway} (memory : List ℕ) → Bytes memory → Kept s g → size_for s.q s.u ≤ length memory → {number : ℕ} → Answers number
    → StaysSound s memory number (encode g memory)
written {s} {g} memory bytes k long h =
    let w = codec-laws.writing g memory k.proper.valid k.proper.ranged (rw k.same long) in
    record {
      still = record { bytes = w.bytes_after bytes; is-sound = w.sound-after };
      settings = ap (λ (x : Gateway). x.settings) w.again ∙ k.same;
      as_long = w.as_long;
      rest = λ n. subst (λ (t : Settings). part (encode g memory) (size_for t.q t.u) n ≡ part memory (size_for t.q t.u) n) k.same (w.rest n);
      answer = h.sound;
    }

module _ (memory : List ℕ) (h : SoundBytes memory) where
  held : ReadingLaws memory
  held = codec-laws.reading memory h.bytes h.is-sound

  held-proper : Proper (decode memory)
  held-proper = record { valid = held.valid-held; ranged = held.ranged }

  -- a call that ends well
  ends-sound : (call : ℕ → Gateway → Outcome) → ((room : ℕ) → Ends (decode memory).settings (call room (decode memory))) → (output : List ℕ)
      → StaysSound (decode memory).settings memory (on_sound call memory output).answer.number (on_sound call memory output).memory
  unfolding on_sound leaving
  ends-sound call ends output = rw h.is-sound (by-case (eqb r.number 0))
    where
      r : Outcome
      r = call (length output) (decode memory)

      left : Bool → CallResult Answer
      left b =
          cond b
          (record { answer = record { number = 0; written = length r.output }; memory = encode r.gateway memory; output = write 0 r.output output })
          (refused_with r.number memory output)

      by-case : (b : Bool) → StaysSound (decode memory).settings memory (left b).answer.number (left b).memory
      by-case true = written memory h.bytes (ends (length output)).gateway held.long (below-ten (omega arith))
      by-case false = record { still = h; settings = refl; as_long = refl; rest = λ n. refl; answer = (ends (length output)).number.sound }

  work-sound : (b : ℕ) (output : List ℕ) → StaysSound (decode memory).settings memory (worked_off b memory output).answer.why (worked_off b
      memory output).memory
  unfolding worked_off
  work-sound b output =
      let w = work-keeps b (length output) held-proper in
      rw h.is-sound (written memory h.bytes w.gateway held.long (below-ten w.why))

  time-read : (agreed_time memory).number ≡ 0
  unfolding agreed_time
  time-read = rw h.is-sound

set-up-sound : (o : Opening) (list memory : List ℕ) → Bytes list → Bytes memory → (set_up o list memory).answer.number ≡ 0
    → StaysSound (settings_of o) memory 0 (set_up o list memory).memory
unfolding set_up
set-up-sound o list memory list-bytes bytes z =
    let accepted = set-up-accepted o list memory z in
    rw accepted
    (written memory bytes (opened-keeps o (length memory) list list-bytes accepted) (opening-long o (length memory) list accepted) (below-ten (omega arith)))

pub never-unsound : NeverUnsound
unfolding taken started committed
never-unsound =
    record {
      by_set_up = set-up-sound;
      by_taking = λ memory frame output bytes h. ends-sound memory h (take_bytes frame) (bytes-keep (held-proper memory h) frame bytes) output;
      by_starting = λ memory output h. ends-sound memory h start (start-keeps (held-proper memory h)) output;
      by_committing = λ memory output h. ends-sound memory h commit (commit-keeps (held-proper memory h)) output;
      by_working = λ b memory output h. work-sound memory h b output;
      by_reading = time-read;
    }
