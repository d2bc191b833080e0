-- A law for each branch of taking an Lvt.
use mathlib.Core.Path.{◌≡◌, sym, ◌∙◌}
use mathlib.Core.Bool.{Bool, true, false, not, ◌&&◌}
use mathlib.Core.List.{List, []}
use Rattle.std.specs.Prelude.{Err}
use Rattle.refusal.specs.declared.Refusal.TheVariants.{OutOfTurn}
use Prim.Native.Nat.{ℕ, ◌+◌, min}
use lib.Dec.{leb}
use lib.ListN.{length}
use borrow.Author.Tests.{eq-eqb, ne_eqb, not-true, not-false}
use Rattle.routing.specs.Arcs.{to}
use Rattle.model.specs.declared.Kind.TheVariants.{Lvt}
use Rattle.memory.specs.Codec.{decode}
use Rattle.memory.specs.declared.Header.{Header}
use Rattle.memory.specs.declared.Round.{Round}
use Rattle.memory.specs.declared.Phase.TheVariants.{Idle, Counting, Stopped}
use Rattle.gateway.specs.Effects.{settled}
use Rattle.gateway.specs.Rounds.{least_queued, frames_in_round, finished, is_idle, bit_of, all_bits, stands, one_lvt, take_lvt, value_in}
use Rattle.gateway.specs.Calls.{CallResult, left, leaving}
use Rattle.gateway.specs.Inside.Premises.{Known, with_header, changed_to}
use Rattle.routing.specs.AtMostTwo.{listed}
use Rattle.places.specs.Inside.Searching.{entries_in}
use Rattle.routing.specs.declared.at_most_two.AtMostTwo.{AtMostTwo}
use Rattle.gateway.specs.Answers.{Answer, answer_of}
use Rattle.phases.proofs.Changing.{gateway-is}
use Rattle.gateway.proofs.Dispatching.{leaves-refused}
use Rattle.gateway.proofs.Knowing.{agreed-is, queue-places, round_is, settings-are}

module _ (m : List ℕ) (h : Header) (k : Known m h) where
  module _ (all arrived : ℕ) where
    pub all-lvts : (value : ℕ) → arrived ≡ all → finished value (decode m) ≡ one_lvt all arrived value (decode m)
    unfolding one_lvt
    all-lvts value e = rw (eq-eqb arrived all e)

    pub more-lvts : (value : ℕ) {next : Header} {round : Round} → (arrived ≡ all → ⊥) → next ≡ changed_to h h.agreed round
        → round ≡ record { phase = Stopped; arrived = arrived; note = value }
        → record { gateway = with_header next (decode m); frames = frames_in_round Lvt 0 next.settings.own [] } ≡ one_lvt all
        arrived value (decode m)
    unfolding one_lvt
    more-lvts value {next} {round} n e r = rw (e, gateway-is m h k h.agreed round, agreed-is m h k, r, ne_eqb arrived all n)

  -- the value before an Lvt
  pub value-idle : h.round.phase ≡ Idle → 0 ≡ value_in h.round.phase (decode m)
  value-idle e = rw e

  pub value-counting : {least value : ℕ} → h.round.phase ≡ Counting → least ≡ least_queued (entries_in m h.queued) → value ≡ min
      h.round.note least → value ≡ value_in h.round.phase (decode m)
  value-counting e l v = v ∙ rw (e, l, ← queue-places m h k, ← round_is m h k)

  pub value-stopped : h.round.phase ≡ Stopped → h.round.note ≡ value_in h.round.phase (decode m)
  value-stopped e = rw (e, ← round_is m h k)

  module _ (output : List ℕ) (sender : ℕ) {idle : Bool} (i : idle ≡ is_idle h.round.phase) where
    pub lvt-wrong-half : (hour : ℕ) → idle ≡ true → left (answer_of (Err OutOfTurn)) m output ≡ leaving (take_lvt (length output) sender hour (decode m)) m output
    unfolding take_lvt
    lvt-wrong-half hour n = leaves-refused m output (decode m) OutOfTurn ∙ rw (← round_is m h k, sym i ∙ n)

    module _ (among : AtMostTwo ℕ) {bit : ℕ} {there : Bool} (is : bit ≡ bit_of sender (listed among)) (test : there ≡ (leb 1 bit && not (stands bit
        h.round.arrived))) where
      pub lvt-not-awaited : (hour : ℕ) → idle ≡ false → listed among ≡ to h.settings.n h.settings.own → not there ≡ true
          → left (answer_of (Err OutOfTurn)) m output ≡ leaving (take_lvt (length output) sender hour (decode m)) m output
      unfolding take_lvt
      lvt-not-awaited hour n l t =
          leaves-refused m output (decode m) OutOfTurn ∙ rw (← round_is m h k, ← settings-are m h k, ← l, ← is, sym i ∙ n, sym test ∙ not-true there t)

      pub lvt-awaited : (hour : ℕ) {all before value : ℕ} {l : CallResult Answer} → idle ≡ false → listed among ≡ to h.settings.n
          h.settings.own → not there ≡ false → all ≡ all_bits (listed among)
          → before ≡ value_in h.round.phase (decode m) → value ≡ min before hour
          → l ≡ leaving (settled (length output) (decode m) (one_lvt all (h.round.arrived + bit) value (decode m))) m output → l ≡
          leaving (take_lvt (length output) sender hour (decode m)) m output
      unfolding take_lvt one_lvt
      lvt-awaited hour n s t a b v p =
          p ∙ rw (v, b, a, ← round_is m h k, ← settings-are m h k, ← s, ← is, sym i ∙ n, sym test ∙ not-false there t)
