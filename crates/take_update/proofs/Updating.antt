-- A law for each branch of taking an Update.
use mathlib.Core.Path.{◌≡◌, ◌∙◌}
use mathlib.Core.List.{List}
use Rattle.std.specs.Prelude.{Err}
use Rattle.refusal.specs.declared.Refusal.TheVariants.{OutOfTurn}
use Prim.Native.Nat.{ℕ, ◌-◌, ◌/◌, max}
use native.Mathlib.Omega.{arith}
use lib.ListN.{length}
use borrow.Author.Tests.{eq-eqb, ne_eqb, le-leb, lt-leb}
use Rattle.routing.specs.Arcs.{children}
use Rattle.model.specs.declared.Kind.TheVariants.{Update}
use Rattle.memory.specs.Codec.{decode}
use Rattle.memory.specs.declared.Header.{Header}
use Rattle.gateway.specs.Effects.{settled}
use Rattle.gateway.specs.Rounds.{frames_in_round, take_update}
use Rattle.gateway.specs.Calls.{CallResult, left, leaving}
use Rattle.gateway.specs.Inside.Premises.{Known, with_header, changed_to}
use Rattle.routing.specs.AtMostTwo.{listed}
use Rattle.routing.specs.declared.at_most_two.AtMostTwo.{AtMostTwo}
use Rattle.gateway.specs.Answers.{Answer, answer_of}
use Rattle.phases.proofs.Changing.{gateway-is}
use Rattle.gateway.proofs.Dispatching.{leaves-refused}
use Rattle.gateway.proofs.Knowing.{agreed-is, round_is, settings-are}

module _ (m : List ℕ) (h : Header) (k : Known m h) where
  -- a refusal with 4
  module _ (output : List ℕ) where
    pub update-at-root : (from' hour : ℕ) → h.settings.own ≡ 0 → left (answer_of (Err OutOfTurn)) m output ≡ leaving (take_update
        (length output) from' hour (decode m)) m output
    unfolding take_update
    update-at-root from' hour o = leaves-refused m output (decode m) OutOfTurn ∙ rw (← settings-are m h k, lt-leb 1 h.settings.own (omega arith))

    pub update-elsewhere : (from' hour : ℕ) → (h.settings.own ≡ 0 → ⊥) → (from' ≡ (h.settings.own - 1) / 2 → ⊥)
        → left (answer_of (Err OutOfTurn)) m output ≡ leaving (take_update (length output) from' hour (decode m)) m output
    unfolding take_update
    update-elsewhere from' hour o n = leaves-refused m output (decode m) OutOfTurn ∙ rw (
      ← settings-are m h k,
      le-leb 1 h.settings.own (omega arith),
      ne_eqb
          from' ((h.settings.own - 1) / 2) n,
    )

  pub update-taken : (output : List ℕ) (from' hour : ℕ) (to' : AtMostTwo ℕ) {larger : ℕ} {next : Header} {l : CallResult Answer} → (h.settings.own
      ≡ 0 → ⊥) → from' ≡ (h.settings.own - 1) / 2
      → larger ≡ max h.agreed hour → next ≡ changed_to h larger h.round
      → listed to' ≡ children h.settings.n h.settings.own
      → l ≡ leaving (settled (length output) (decode m) (record {
        gateway = with_header next (decode m);
        frames = frames_in_round Update hour
            next.settings.own (listed to');
      })) m output
      → l ≡ leaving (take_update (length output) from' hour (decode m)) m output
  unfolding take_update
  update-taken output from' hour to' {larger} o f a e t p =
      p ∙ rw (
        e,
        gateway-is m h k larger h.round,
        a,
        agreed-is m h k,
        round_is m h k,
        t,
        ← settings-are m h k,
        le-leb 1 h.settings.own
            (omega arith),
        eq-eqb from' ((h.settings.own - 1) / 2) f,
      )
