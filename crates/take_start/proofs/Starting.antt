-- A law for each branch of taking a Start.
use mathlib.Core.Path.{◌≡◌, sym, ◌∙◌}
use mathlib.Core.Bool.{Bool, true, false, not, ◌&&◌}
use mathlib.Core.List.{List, []}
use Rattle.std.specs.Prelude.{Err}
use Rattle.refusal.specs.declared.Refusal.TheVariants.{OutOfTurn}
use Prim.Native.Nat.{ℕ, ◌+◌}
use lib.Dec.{leb}
use lib.ListN.{length}
use borrow.Author.Tests.{eq-eqb, ne_eqb, not-true, not-false}
use Rattle.routing.specs.Arcs.{from}
use Rattle.model.specs.declared.Kind.TheVariants.{Start}
use Rattle.memory.specs.Codec.{decode}
use Rattle.memory.specs.declared.Header.{Header}
use Rattle.memory.specs.declared.Round.{Round}
use Rattle.memory.specs.declared.Phase.TheVariants.{Idle}
use Rattle.gateway.specs.Effects.{settled}
use Rattle.gateway.specs.Rounds.{frames_in_round, begun, is_idle, bit_of, all_bits, stands, one_start, take_start}
use Rattle.gateway.specs.Calls.{CallResult, left, leaving}
use Rattle.gateway.specs.Inside.Premises.{Known, with_header, changed_to}
use Rattle.routing.specs.AtMostTwo.{listed}
use Rattle.routing.specs.declared.at_most_two.AtMostTwo.{AtMostTwo}
use Rattle.gateway.specs.Answers.{Answer, answer_of}
use Rattle.phases.proofs.Changing.{gateway-is}
use Rattle.gateway.proofs.Dispatching.{leaves-refused}
use Rattle.gateway.proofs.Knowing.{agreed-is, round_is, settings-are}

module _ (m : List ℕ) (h : Header) (k : Known m h) where
  module _ (all arrived : ℕ) where
    pub all-starts : arrived ≡ all → begun (decode m) ≡ one_start all arrived (decode m)
    unfolding one_start
    all-starts e = rw (eq-eqb arrived all e)

    pub more-starts : {next : Header} {round : Round} → (arrived ≡ all → ⊥) → next ≡ changed_to h h.agreed round → round ≡
        record { phase = Idle; arrived = arrived; note = h.round.note }
        → record { gateway = with_header next (decode m); frames = frames_in_round Start 0 next.settings.own [] } ≡ one_start
        all arrived (decode m)
    unfolding one_start
    more-starts {next} {round} n e r = rw (
      e,
      gateway-is m h k h.agreed round,
      agreed-is m h k,
      r,
      round_is m h
          k,
      ne_eqb arrived all n,
    )

  module _ (output : List ℕ) (sender : ℕ) {idle : Bool} (i : idle ≡ is_idle h.round.phase) where
    pub start-wrong-half : not idle ≡ true → left (answer_of (Err OutOfTurn)) m output ≡ leaving (take_start (length output) sender (decode m)) m output
    unfolding take_start
    start-wrong-half n = leaves-refused m output (decode m) OutOfTurn ∙ rw (← round_is m h k, sym i ∙ not-true idle n)

    module _ (among : AtMostTwo ℕ) {bit : ℕ} {there : Bool} (is : bit ≡ bit_of sender (listed among)) (test : there ≡ (leb 1 bit && not (stands bit
        h.round.arrived))) where
      pub start-not-awaited : not idle ≡ false → listed among ≡ from h.settings.n h.settings.own → not there ≡ true
          → left (answer_of (Err OutOfTurn)) m output ≡ leaving (take_start (length output) sender (decode m)) m output
      unfolding take_start
      start-not-awaited n l t =
          leaves-refused m output (decode m) OutOfTurn ∙ rw (
            ← round_is m h k,
            ← settings-are m h k,
            ← l,
            ← is,
            sym i ∙ not-false idle n,
            sym
                test ∙ not-true there t,
          )

      pub start-awaited : {all : ℕ} {l : CallResult Answer} → not idle ≡ false → listed among ≡ from h.settings.n h.settings.own
          → not there ≡ false → all ≡ all_bits (listed among)
          → l ≡ leaving (settled (length output) (decode m) (one_start all (h.round.arrived + bit) (decode m))) m output → l ≡
          leaving (take_start (length output) sender (decode m)) m output
      unfolding take_start one_start
      start-awaited n s t a p =
          p ∙ rw (a, ← round_is m h k, ← settings-are m h k, ← s, ← is, sym i ∙ not-false idle n, sym test ∙ not-false there t)
