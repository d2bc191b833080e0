-- A law for each branch of the steps of a round: what is announced is what the definition says.
use mathlib.Core.Path.{◌≡◌, sym, ◌∙◌}
use mathlib.Core.Bool.{Bool, true, false, not}
use mathlib.Core.List.{List}
use Rattle.std.specs.Prelude.{Err}
use Rattle.refusal.specs.declared.Refusal.TheVariants.{OutOfTurn}
use Prim.Native.Nat.{ℕ, ◌+◌, min}
use lib.ListN.{length}
use borrow.Author.Tests.{eq-eqb, ne_eqb, not-true, not-false}
use Rattle.routing.specs.Arcs.{from, to, children}
use Rattle.model.specs.declared.Kind.TheVariants.{Start, Lvt, Update}
use Rattle.memory.specs.Codec.{decode}
use Rattle.memory.specs.declared.Header.{Header}
use Rattle.memory.specs.declared.Round.{Round}
use Rattle.memory.specs.declared.Phase.TheVariants.{Counting}
use Rattle.gateway.specs.Effects.{settled}
use Rattle.gateway.specs.Rounds.{least_outstanding, least_queued, frames_in_round, idle, finished, begun, is_idle, start}
use Rattle.gateway.specs.Calls.{CallResult, left, leaving}
use Rattle.gateway.specs.Inside.Premises.{Known, with_header, changed_to}
use Rattle.routing.specs.AtMostTwo.{listed}
use Rattle.places.specs.Inside.Searching.{entries_in, sent_in}
use Rattle.routing.specs.declared.at_most_two.AtMostTwo.{AtMostTwo}
use Rattle.gateway.specs.Answers.{Answer, answer_of}
use Rattle.phases.proofs.Changing.{gateway-is}
use Rattle.gateway.proofs.Dispatching.{leaves-refused}
use Rattle.gateway.proofs.Knowing.{agreed-is, outstanding-places, queue-places, round_is, settings-are}

module _ (m : List ℕ) (h : Header) (k : Known m h) where
  -- what is announced, as an effect
  module _ {agreed : ℕ} {round : Round} {next : Header} (e : next ≡ changed_to h agreed round) where
    pub closing : (value : ℕ) (to : AtMostTwo ℕ) → h.settings.own ≡ 0 → agreed ≡ value → round ≡ idle → listed to ≡ children h.settings.n h.settings.own
        → record { gateway = with_header next (decode m); frames = frames_in_round Update value next.settings.own (listed to) } ≡ finished value (decode m)
    unfolding finished
    closing value to o a r l =
        rw (e, gateway-is m h k agreed round, a, r, l, ← settings-are m h k, eq-eqb h.settings.own 0 o)

    pub passing-on : (value : ℕ) (to : AtMostTwo ℕ) → (h.settings.own ≡ 0 → ⊥) → agreed ≡ h.agreed → round ≡ idle → listed to ≡ from
        h.settings.n h.settings.own
        → record { gateway = with_header next (decode m); frames = frames_in_round Lvt value next.settings.own (listed to) } ≡ finished value (decode m)
    unfolding finished
    passing-on value to o a r l =
        rw (e, gateway-is m h k agreed round, a, agreed-is m h k, r, l, ← settings-are m h k, ne_eqb h.settings.own 0 o)

    pub counting-on : (note : ℕ) (to' : AtMostTwo ℕ) → (h.settings.own + 1 ≡ h.settings.n → ⊥) → note ≡ least_outstanding (sent_in
        h.settings.q m h.outstanding) → agreed ≡ h.agreed
        → round ≡ record { phase = Counting; arrived = 0; note = note } → listed to' ≡ to h.settings.n h.settings.own
        → record { gateway = with_header next (decode m); frames = frames_in_round Start 0 next.settings.own (listed to') } ≡ begun (decode m)
    unfolding begun
    counting-on note to' o n a r l =
        rw (
          e,
          gateway-is m h k agreed round,
          a,
          agreed-is m h k,
          r,
          l,
          n,
          ← outstanding-places m h k,
          ← settings-are m h k,
          ne_eqb
              (h.settings.own + 1) h.settings.n o,
        )

  pub stopping-at-once : (note value least : ℕ) → h.settings.own + 1 ≡ h.settings.n → note ≡ least_outstanding (sent_in h.settings.q m h.outstanding)
      → least ≡ least_queued (entries_in m h.queued) → value ≡ min note least → finished value (decode m) ≡ begun (decode m)
  unfolding begun
  stopping-at-once note value least o n q v =
      rw (v, q, n, ← outstanding-places m h k, ← queue-places m h k, ← settings-are m h k, eq-eqb (h.settings.own + 1) h.settings.n o)

  -- a refusal with 4
  module _ (output : List ℕ) where
    pub start-elsewhere : (h.settings.own ≡ 0 → ⊥) → left (answer_of (Err OutOfTurn)) m output ≡ leaving (start (length output) (decode m)) m output
    unfolding start
    start-elsewhere o = leaves-refused m output (decode m) OutOfTurn ∙ rw (← settings-are m h k, ne_eqb h.settings.own 0 o)

    pub start-again : {idle' : Bool} → h.settings.own ≡ 0 → idle' ≡ is_idle h.round.phase → not idle' ≡ true
        → left (answer_of (Err OutOfTurn)) m output ≡ leaving (start (length output) (decode m)) m output
    unfolding start
    start-again {idle'} o i n =
        leaves-refused m output (decode m) OutOfTurn ∙ rw (← settings-are m h k, ← round_is m h k, eq-eqb h.settings.own 0 o, sym i ∙ not-true idle' n)

  pub start-begins : (output : List ℕ) {idle' : Bool} {l : CallResult Answer} → h.settings.own ≡ 0 → idle' ≡ is_idle h.round.phase → not idle' ≡ false
      → l ≡ leaving (settled (length output) (decode m) (begun (decode m))) m output → l ≡ leaving (start (length output) (decode m)) m output
  unfolding start
  start-begins output {idle'} o i n p = p ∙ rw (← settings-are m h k, ← round_is m h k, eq-eqb h.settings.own 0 o, sym i ∙ not-false idle' n)
