-- A call on events at one gateway keeps the relation of both worlds: what is asked of the call, and the world that it leads to.
use mathlib.Core.Path.{◌≡◌, refl, sym, ◌∙◌, ap, subst}
use Prim.Native.Nat.{ℕ, ◌≤◌, ◌<◌}
use native.Mathlib.Omega.{arith}
use mathlib.Core.Bool.{Bool, true, false, cond}
use mathlib.Core.List.{List, map}
use lib.ListN.{length}
use Rattle.lists.specs.Lists.{All}
use Rattle.lists.specs.Families.{change}
use Rattle.lists.proofs.ListLaws.{all_map}
use Rattle.buffer.specs.Slice.{write}
use Rattle.frame.specs.Writing.{written}
use lib.Dec.{eqb}
use borrow.Author.Tests.{eqb-true}
use Rattle.model.specs.declared.Message.{Message}
use Rattle.memory.specs.Records.{Gateway}
use Rattle.memory.specs.Codec.{decode, encode}
use Rattle.gateway.specs.Effects.{with_round}
use Rattle.gateway.specs.Claims.{SoundBytes}
use Rattle.gateway.proofs.Maintaining.{Kept}
use Rattle.round_steps.specs.RoundSteps as RoundSteps
use Rattle.round_steps.specs.RoundSteps.{RoundFrame}
use Rattle.timewarp.specs.Worlds as Worlds
use Rattle.run.specs.Forecast.{SetUpInput}
use Rattle.run.specs.Ledger as Ledger
use Rattle.run.specs.World.{World, Carried, carry, frames_in, round_frames}
use Rattle.run.proofs.FigureGraph.{figure_graph}
use Rattle.run.proofs.SingleQueues.{history_record}
use Rattle.run.proofs.EventCalls.{Stands, noted_all}
use Rattle.run.proofs.Ledgers.{Follows}
use Rattle.run.proofs.EventWorlds.{GoesOn}
use Rattle.run.proofs.RoundsUnderWay.{Numbered, rounds_in}
use Rattle.run.proofs.RoundWorlds.{Alike, alike-again}
use Rattle.run.proofs.RoundNotes.{alike-sent}
use Rattle.run.proofs.FramesCut.{frames-of}
use Rattle.run.proofs.EventResults.{CallResult}
use Rattle.run.proofs.EventFrames.{rounds-still, none-counted, numbered-still, passing-still}
use Rattle.run.proofs.HeldGateways.{Holds, written_held}
use Rattle.run.proofs.DueHours.{NoteDue, noted-due}
use Rattle.run.proofs.PassingFrames.{Passing}
use Rattle.run.proofs.CommittedEvents.{Committed}
use Rattle.run.proofs.ClaimParts.{Beside}
use Rattle.run.proofs.BesideCalls.{change-self, world_after, beside-after, done-after}
use Rattle.run.proofs.BothWorlds.{model, forecast_setting, gateways_in, Both, Keeps}

-- the run's world after a call on events that writes frames
abbrev pub sending_after : World → ℕ → List ℕ → ℕ → List (List ℕ) → List Carried → Ledger.Ledger → World
sending_after w i memory tag frames rest l = record {
  memories = change i memory w.memories;
  under_way = carry tag frames rest;
  records = w.records;
  ledgers = change i l w.ledgers;
  rounds = w.rounds;
}

-- with other records
abbrev with_records : (ℕ → List ℕ) → World → World
with_records r w = record { memories = w.memories; under_way = w.under_way; records = r; ledgers = w.ledgers; rounds = w.rounds }

module _ (n : ℕ) (some : 1 ≤ n) (last : ℕ) (setups : ℕ → SetUpInput) {w : World} {t : Worlds.World (forecast_setting n some last setups)} (b
    : Both n some last setups w t) (i : ℕ) (h : i < n) where
  -- What a call on events at gateway i comes to: the gateway next, which has committed c, the frames cs under way, and the ledger l.
  pub record Comes (next : Gateway) (c : List Message) (cs : List Carried) (l : Ledger.Ledger) : Type 1 where
    -- the messages and cancels that it sends, which lower the note, and nothing else of the rounds changes
    pub sends : List Message
    pub goes : GoesOn n last setups (figure_graph n some) refl t i sends c next cs
    pub stands : Stands n last setups i c next
    pub follows : Follows n last setups next.queue l
    pub round : next.round ≡ noted_all sends (gateways_in n some last setups w i).round
    pub agreed : next.agreed ≡ (gateways_in n some last setups w i).agreed
    pub still : rounds_in cs ≡ rounds_in w.under_way
    pub numbered : All Numbered cs
    pub timely : All (λ m. m.hour ≤ last) sends
    pub passing : All (λ x. Passing n last x.frame) cs
    pub committed : Committed n last setups i c

  module _ (memory : List ℕ) (next : Gateway) (holds : Holds (decode (w.memories i)) memory next) (c : List Message) (cs : List Carried) (l
      : Ledger.Ledger) (comes : Comes next c cs l) where
    -- the gateways after it
    abbrev after : ℕ → Gateway
    after j = decode (change i memory w.memories j)

    goes_on : GoesOn n last setups (figure_graph n some) refl t i comes.sends c (decode memory) cs
    goes_on = subst (λ (x : Gateway). GoesOn n last setups (figure_graph n some) refl t i comes.sends c x cs) (sym holds.holds) comes.goes

    stands_at : (j : ℕ) → j < n → (x : Bool) → eqb i j ≡ x → Stands n last setups j (cond x c (b.beside.done j)) (decode (cond x memory (w.memories j)))
    stands_at j k true e =
        subst (λ (m : ℕ). Stands n last setups m c (decode memory)) (eqb-true i j e)
        (subst (λ (x : Gateway). Stands n last setups i c x) (sym holds.holds) comes.stands)
    stands_at j k false e = b.stands j k

    bytes-at : (j : ℕ) → j < n → (x : Bool) → SoundBytes (cond x memory (w.memories j))
    bytes-at j k true = holds.still
    bytes-at j k false = b.bytes j k

    notes-at : (j : ℕ) → j < n → (x : Bool) → NoteDue last (decode (cond x memory (w.memories j))).round
    notes-at j k true =
        subst (NoteDue last) (sym (ap (λ (x : Gateway). x.round) holds.holds ∙ comes.round))
        (noted-due last comes.timely (decode (w.memories i)).round (b.notes i h))
    notes-at j k false = b.notes j k

    committed-at : (j : ℕ) → j < n → (x : Bool) → eqb i j ≡ x → Committed n last setups j (cond x c (b.beside.done j))
    committed-at j k true e = subst (λ (m : ℕ). Committed n last setups m c) (eqb-true i j e) comes.committed
    committed-at j k false e = b.committed j k

    -- the gateway as it was, with the note lowered
    abbrev noted : Gateway
    noted = with_round (noted_all comes.sends (decode (w.memories i)).round) (decode (w.memories i))

    round-at : (j : ℕ) → (change i noted (gateways_in n some last setups w) j).round ≡ (after j).round
    unfolding change
    round-at j = by-case (eqb i j)
      where
        by-case : (x : Bool) → (cond x noted (decode (w.memories j))).round ≡ (decode (cond x memory (w.memories j))).round
        by-case true = sym (ap (λ (x : Gateway). x.round) holds.holds ∙ comes.round)
        by-case false = refl

    agreed-at : (j : ℕ) → (change i noted (gateways_in n some last setups w) j).agreed ≡ (after j).agreed
    unfolding change
    agreed-at j = by-case (eqb i j)
      where
        by-case : (x : Bool) → (cond x noted (decode (w.memories j))).agreed ≡ (decode (cond x memory (w.memories j))).agreed
        by-case true = sym (ap (λ (x : Gateway). x.agreed) holds.holds ∙ comes.agreed)
        by-case false = refl

    alike-after : Alike n some (model n some last setups) refl after (rounds_in cs) w.rounds goes_on.world.rounds
    alike-after =
        subst (λ (fs : List RoundFrame). Alike n some (model n some last setups) refl after fs w.rounds goes_on.world.rounds) (sym comes.still)
        (subst (λ (r : RoundSteps.Rounds). Alike n some (model n some last setups) refl after (rounds_in w.under_way) w.rounds r) (sym goes_on.rounds)
        (alike-again n some (model n some last setups) refl after round-at agreed-at
        (alike-sent n some last setups i (omega arith) comes.sends (gateways_in n some last setups w) b.rounds)))

    -- the world after the call, with bytes as the record that gateway i has committed
    module _ (bytes : List ℕ) (written : bytes ≡ history_record n last setups i c) where
      abbrev time : (decode memory).agreed ≡ (decode (w.memories i)).agreed
      time = ap (λ (x : Gateway). x.agreed) holds.holds ∙ comes.agreed

      abbrev follows : Follows n last setups (decode memory).queue l
      follows = subst (λ (x : Gateway). Follows n last setups x.queue l) (sym holds.holds) comes.follows

      beside-is : Beside n last setups (figure_graph n some) refl (world_after w i memory cs bytes l w.rounds) goes_on.world
      beside-is =
          beside-after n last setups (figure_graph n some) refl w t b.beside i h memory c cs bytes l w.rounds holds.still.is-sound
          goes_on time written follows

      -- only what gateway i has committed changes
      done-is : beside-is.done ≡ change i c b.beside.done
      unfolding beside-is
      done-is =
          done-after n last setups (figure_graph n some) refl w t b.beside i h memory c cs bytes l w.rounds holds.still.is-sound
          goes_on time written follows

      pub keeps : Keeps n some last setups t (world_after w i memory cs bytes l w.rounds)
      unfolding change
      keeps =
          record {
            world = goes_on.world;
            steps = goes_on.steps;
            both =
                record {
                  beside = beside-is;
                  stands = λ j k. subst (λ (d : ℕ → List Message). Stands n last setups j (d j) (after j)) (sym done-is) (stands_at j k (eqb i j) refl);
                  bytes = λ j k. bytes-at j k (eqb i j);
                  rounds = alike-after;
                  numbered = comes.numbered;
                  passing = comes.passing;
                  notes = λ j k. notes-at j k (eqb i j);
                  committed = λ j k. subst (λ (d : ℕ → List Message). Committed n last setups j (d j)) (sym done-is) (committed-at j k (eqb i j) refl);
                };
          }

  -- a call that writes frames: the rest of what is under way has the same frames of rounds
  module _ (tag : ℕ) (rest : List Carried) (still : rounds_in rest ≡ rounds_in w.under_way) (numbered : All Numbered rest) (passing : All (λ
      x. Passing n last x.frame) rest) {next : Gateway} {output : List ℕ} {l : Ledger.Ledger}
      (r : CallResult n last setups (figure_graph n some) refl i t (b.beside.done i) (decode (w.memories i)) tag rest next output l)
      (kept : Kept (decode (w.memories i)).settings next) (lent : List ℕ) where
    comes_of : Comes next (b.beside.done i) (carry tag (map written r.frames) rest) l
    comes_of =
        record {
          sends = r.sends;
          goes = r.goes;
          stands = r.stands;
          follows = r.follows;
          round = r.round;
          agreed = r.agreed;
          still = rounds-still tag r.are-events rest ∙ still;
          numbered = numbered-still tag r.are-events numbered;
          timely = r.timely;
          passing = passing-still tag r.are-events passing;
          committed = b.committed i h;
        }

    cut : frames_in (length output) (write 0 output lent) ≡ map written r.frames
    cut = frames-of r.frames r.bytes (all_map (λ f e. e.whole) r.are-events) lent

    -- what it writes counts for no round
    pub result-counts : (is_open : Bool) → round_frames is_open (frames_in (length output) (write 0 output lent)) ≡ 0
    result-counts is_open = ap (round_frames is_open) cut ∙ none-counted is_open r.are-events

    pub result-keeps : Keeps n some last setups t (sending_after w i (encode next (w.memories i)) tag (frames_in (length output) (write 0 output lent)) rest l)
    result-keeps =
        subst (λ (fs : List (List ℕ)). Keeps n some last setups t (sending_after w i (encode next (w.memories i)) tag fs rest l)) (sym cut)
        (subst (λ (x : ℕ → List ℕ). Keeps n some last setups t (with_records x (sending_after w i (encode next (w.memories i)) tag (map
        written r.frames) rest l))) (change-self i w.records)
        (keeps (encode next (w.memories i)) next (written_held (w.memories i) (b.bytes i h) next kept) (b.beside.done i) (carry tag
        (map written r.frames) rest) l comes_of
        (w.records i) (b.beside.records i h)))
