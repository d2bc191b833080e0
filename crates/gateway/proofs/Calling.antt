-- A law for each branch of a call before it looks at what it was asked: memory that is not sound, and memory that is.
use mathlib.Core.Path.{◌≡◌, refl, ◌∙◌}
use mathlib.Core.Bool.{Bool, true, false, cond}
use mathlib.Core.List.{List}
use Rattle.std.specs.Prelude.{Ok, Err}
use Prim.Native.Nat.{ℕ}
use lib.ListN.{length}
use Rattle.buffer.specs.Slice.{write}
use Rattle.memory.specs.Codec.{header_at, decode, encode}
use Rattle.memory.specs.Records.{Gateway}
use Rattle.memory.specs.Soundness.{sound}
use Rattle.memory.specs.Inside.Checking.{header_in, checked_as}
use Rattle.memory.specs.declared.Header.{Header}
use Rattle.memory.specs.declared.Unsound.{Unsound}
use Rattle.refusal.specs.declared.Refusal.{Refusal}
use Rattle.refusal.specs.declared.Refusal.TheVariants.{NotSound}
use Rattle.gateway.specs.Effects.{Outcome}
use Rattle.gateway.specs.Working.{Progress, worked}
use Rattle.gateway.specs.Rounds.{start}
use Rattle.gateway.specs.Calls.{CallResult, left, leaving, on_sound, agreed_time, started, worked_off}
use Rattle.gateway.specs.Inside.Premises.{Known}
use Rattle.gateway.specs.Answers.{Answer, Worked, answer_of, time_of}

-- memory m that is not sound, and memory m that is
module _ (m : List ℕ) where
  pub unsound : {found : Unsound} → Err found ≡ checked_as m → sound m ≡ false
  unsound {found} refused = by (sound m) refl refused
    where
      by : (b : Bool) → sound m ≡ b → Err found ≡ cond b (Ok (header_at m)) (Err (record { header = header_in m })) → sound m ≡ false
      by true e f = cc
      by false e f = e

  pub known : {h : Header} → Ok h ≡ checked_as m → Known m h
  known {h} found = by (sound m) refl _ found
    where
      by : (b : Bool) → sound m ≡ b → (refused : Unsound) → Ok h ≡ cond b (Ok (header_at m)) (Err refused) → Known m h
      by true e refused f = record { soundness = e; header = cc }
      by false e refused f = cc

  -- reading the agreed time
  pub time-unsound : {found : Unsound} {why : Refusal} → Err found ≡ checked_as m → why ≡ NotSound → time_of (Err why) ≡ agreed_time m
  unfolding agreed_time
  time-unsound refused number = rw (unsound refused, number)

  pub time-sound : {h : Header} → Ok h ≡ checked_as m → time_of (Ok h.agreed) ≡ agreed_time m
  unfolding agreed_time
  time-sound found = let k = known found in rw (k.soundness, k.header)

  -- a call with an output
  module _ (call : ℕ → Gateway → Outcome) (output : List ℕ) where
    pub call-unsound : {found : Unsound} {why : Refusal} → Err found ≡ checked_as m → why ≡ NotSound
        → left (answer_of (Err why)) m output ≡ on_sound call m output
    unfolding on_sound
    call-unsound refused number = rw (unsound refused, number)

    pub call-sound : {h : Header} → Ok h ≡ checked_as m → {l : CallResult Answer} → l ≡ leaving (call (length output) (decode m)) m output
        → l ≡ on_sound call m output
    unfolding on_sound
    call-sound found p = p ∙ rw (known found).soundness

-- the start call is such a call
pub start-call : (m output : List ℕ) → on_sound start m output ≡ started m output
unfolding started
start-call m output = refl

-- what holds of the answer of work on sound memory, and of the answer to memory that is not, holds of every answer of work
pub by-work : (b : ℕ) (m output : List ℕ) (p : Worked → Type 0)
    → (let w = worked b (length output) (decode m) in sound m ≡ true → p (record { count = w.count; why = w.why; written = length w.output }))
    → p (record { count = 0; why = 10; written = 0 })
    → p (worked_off b m output).answer
unfolding worked_off
by-work b m output p done refused = go (sound m) refl
  where
    w : Progress
    w = worked b (length output) (decode m)

    go : (t : Bool) → sound m ≡ t
        → p (cond t (left (record { count = w.count; why = w.why; written = length w.output }) (encode w.gateway m) (write 0
        w.output output)) (left (record { count = 0; why = 10; written = 0 }) m output)).answer
    go true e = done e
    go false e = refused
