-- The calls of a round on bytes: an accepted one leads from a world that is alike to one that is.
use mathlib.Core.Path.{◌≡◌, refl, sym, ◌∙◌, ap, ap₂, subst}
use mathlib.Core.Bool.{Bool, true, false, cond, ◌&&◌, ◌||◌, true≢false}
use mathlib.Core.List.{List, [], ◌∷◌, ◌++◌, map, append-nil}
use Prim.Native.Nat.{ℕ, suc, ◌+◌, ◌-◌, ◌≤◌, min, max}
use native.Mathlib.Omega.{arith}
use lib.Dec.{eqb, leb}
use lib.ListN.{length}
use borrow.Author.Tests.{le-leb}
use Rattle.lists.specs.Lists.{any, without_first, All}
use Rattle.lists.proofs.ListLaws.{all-every}
use Rattle.routing.specs.Arcs.{from, to, children}
use Rattle.model.specs.Messages.{kind_number}
use Rattle.model.specs.declared.Message.{Message}
use Rattle.model.specs.declared.Kind.TheVariants.{Start, Lvt, Update}
use Rattle.frame.specs.Limits.{addressee, nothing_due}
use Rattle.frame.specs.Reasons.{frame_read}
use Rattle.frame.specs.Writing.{written}
use Rattle.frame.specs.declared.Frame.{Frame}
use Rattle.frame.specs.declared.Sense.{Sense}
use Rattle.frame.specs.declared.Sense.TheVariants.{Plain}
use Rattle.memory.specs.Records.{Gateway}
use Rattle.memory.specs.Codec.{decode}
use Rattle.memory.specs.declared.Settings.{Settings}
use Rattle.memory.proofs.Validated.{Valid}
use Rattle.gateway.specs.Effects.{Effect, Outcome, with_agreed}
use Rattle.gateway.specs.Rounds.{all_bits, start, begun, is_idle, one_start, one_lvt, bit_of, value_in, frames_in_round}
use Rattle.gateway.specs.Calls.{started, taken, take_bytes}
use Rattle.gateway.proofs.Accepting.{not-refused}
use Rattle.event_steps.specs.Models.{Model}
use Rattle.event_steps.specs.Gateways.{Event, network_of}
use Rattle.round_steps.specs.RoundSteps
use Rattle.round_steps.specs.RoundSteps.{RoundFrame}
use Rattle.timewarp.specs.Worlds
use Rattle.timewarp.proofs.Joined.{Good}
use Rattle.run.specs.World
use Rattle.run.specs.World.{Carried, kind_in, frames_in, is_frame, tag_of, carry, round_frames, after_starting, after_taking}
use Rattle.run.proofs.FigureGraph.{figure_graph}
use Rattle.run.proofs.ArrivalBits.{one_if}
use Rattle.run.proofs.Standing.{StandingAt, is-idle, is-finished, is-counting, is-stopped}
use Rattle.run.proofs.RoundCounters.{is_open, open-number}
use Rattle.run.proofs.RoundChains.{setting}
use Rattle.run.proofs.EventsUnderWay.{seen_in, seen-carried, seen-left, event_by_sense, event_of, acknowledged_by_sense, acknowledged_of, plain_by_kind}
use Rattle.run.proofs.EventWorlds.{network_in}
use Rattle.run.proofs.RoundsUnderWay.{by_kind, rounds_in, rounds_of, rounds-carried, round-taken, Numbered, carried-rest, carried-more, number-found}
use Rattle.run.proofs.RoundWorlds.{Alike, Led, Called, start-led, start-taken-led, lvt-taken-led, update-taken-led, open-by-start, open-by-lvt}
use Rattle.run.proofs.AcceptedFrames.{outcome_of, bytes-accepted}
use Rattle.run.proofs.AcceptedCalls.{on-sound, call-frames, start-accepted, start-bytes, lvt-bytes, update-bytes}
use Rattle.run.proofs.RoundForms.{frames-counted}
use Rattle.run.proofs.SendableFrames.{Sendable, none_seen, begun-sendable, start-sendable, lvt-sendable, relayed-sendable}
use Rattle.run.proofs.RoundEffects.{OnlyRound, begun-only, start-only, lvt-only, begun-due, start-due, lvt-due}
use Rattle.run.proofs.DueHours.{DueHour, NoteDue, due-min, value-in-due, allowed-due}
use Rattle.run.proofs.PassingFrames.{Passing}

-- frames of a round are put under way: the network is what it was
carried-network : {x : Settings} {open? : Bool} {fs : List Frame} → Sendable x open? fs → (tag : ℕ) (cs : List Carried) → network_in (carry
    tag (map written fs) cs) ≡ network_in cs
carried-network {fs = fs} s tag cs =
    let unseen : (see : Frame → List (Event Message)) → All (λ f. see f ≡ []) fs → seen_in see (carry tag (map written fs) cs) ≡ seen_in see cs =
    λ see a. seen-carried see tag fs s.readable cs ∙ ap (λ l. seen_in see cs ++ l) (none_seen see a) ∙ append-nil (seen_in see cs) in
    ap₂ network_of (unseen event_of s.no-events) (unseen acknowledged_of s.no-acknowledgments)

module _ (n : ℕ) (some : 1 ≤ n) (M : Model) (equal : n - 1 ≡ M.last) (w : Worlds.World (setting n some M equal)) (k : Good (setting n some M equal) w)
    (v : World.World) (i : ℕ) (inside : i ≤ n - 1) where
  abbrev gs : ℕ → Gateway
  gs j = decode (v.memories j)

  -- a frame under way passes by the settings of gateway i
  abbrev Passes : Carried → Type 0
  Passes x = Passing (gs i).settings.n (gs i).settings.last x.frame

  -- What a call of a round at gateway i comes to, r being its outcome, cs what is under way after it and c the counters.
  pub record Goes (r : Outcome) (cs : List Carried) (c : World.Rounds) : Type 0 where
    pub effect : Effect
    pub comes-to : r ≡ outcome_of effect
    pub only : OnlyRound (gs i) effect.gateway
    pub led : Led n some M equal w gs i effect (rounds_in cs) c
    pub network : network_in cs ≡ network_in v.under_way
    pub numbered : All Numbered v.under_way → All Numbered cs
    pub passing : All Passes v.under_way → All Passes cs
    pub note : NoteDue (gs i).settings.last effect.gateway.round

  led-again : {e : Effect} {fs fs' : List RoundFrame} {c c' : World.Rounds} → fs ≡ fs' → c ≡ c' → Led n some M equal w gs i e fs c → Led n
      some M equal w gs i e fs' c'
  led-again {e} {fs} {fs'} {c} {c'} p q l = subst (λ x. Led n some M equal w gs i e x c') p (subst (Led n some M equal w gs i e fs) q l)

  module _ (a : Called n some M equal w k gs i inside) (alike : Alike n some M equal gs (rounds_in v.under_way) v.rounds w.rounds)
      (valid : Valid (gs i)) (noted : NoteDue (gs i).settings.last (gs i).round) where
    -- The start call.
    module _ (output : List ℕ) (h : (started (v.memories i) output).answer.number ≡ 0) where
      -- the counters after m frames are written
      abbrev counters : ℕ → World.Rounds
      counters m =
          let took = World.took_more (World.opens v.rounds).opened m (World.opens v.rounds) in
          cond (eqb n 1) (World.closes took) took

      pub started-goes : let l = started (v.memories i) output in
          let u = after_starting n i l.memory (frames_in l.answer.written l.output) v in
          Goes (start (length output) (gs i)) u.under_way u.rounds
      unfolding started after_starting
      started-goes =
          let e = begun (gs i) in
          let s = begun-sendable (gs i) valid in
          let number = (on-sound start (v.memories i) output h).1 in
          let (own, idles, outcome) = start-accepted (length output) (gs i) number in
          let z : i ≡ 0 = sym a.own ∙ own in
          let cut = call-frames start (v.memories i) output e h outcome s.whole in
          let shut = not-open z idles (alike.standing i inside) in
          let carried = ap (λ xs. carry (suc v.rounds.opened) xs v.under_way) cut in
          record {
            effect = e;
            comes-to = outcome;
            only = begun-only (gs i);
            led =
                led-again
                (sym (ap rounds_in carried ∙ ap (λ (t : ℕ). rounds_in (carry (suc t) (map written e.frames) v.under_way)) shut ∙
                rounds-carried w.rounds.tag e.frames s.readable v.under_way))
                (sym (ap (λ xs. counters (round_frames true xs)) cut ∙ ap counters (frames-counted true s.readable s.counting)))
                (start-led n some M equal w k gs i inside a alike z idles);
            network = ap network_in carried ∙ carried-network s (suc v.rounds.opened) v.under_way;
            numbered = λ b. subst (All Numbered) (sym carried) (carried-more (suc v.rounds.opened) (all-every (λ f x. omega arith) e.frames) b);
            passing = λ b. subst (All Passes) (sym carried) (carried-more (suc v.rounds.opened) s.passing b);
            note = begun-due (gs i) valid;
          }
        where
          not-open : i ≡ 0 → is_idle (gs i).round.phase ≡ true
              → StandingAt (figure_graph n some) w.rounds.status w.rounds.mark w.rounds.arrived i (gs i).round → v.rounds.opened ≡ w.rounds.tag
          not-open z f (is-idle e q b) =
              omega (arith, alike.counted.opened, ap one_if (alike.counted.is_open_lem ∙ ap is_open (ap w.rounds.status (sym z) ∙ q)))
          not-open z f (is-finished e q b) = absurd (alike.unfinished (ap w.rounds.status (sym z) ∙ q))
          not-open z f (is-counting e q b y) = absurd (true≢false (sym f ∙ ap is_idle e))
          not-open z f (is-stopped e q b y) = absurd (true≢false (sym f ∙ ap is_idle e))

    -- A frame of a round that is under way.
    module _ (frame output : List ℕ) (h : (taken (v.memories i) frame output).answer.number ≡ 0) (found : any (is_frame frame) v.under_way ≡ true)
        (plain : (frame_read frame).sense ≡ Plain) where
      abbrev m : Message
      m = (frame_read frame).message

      abbrev rest : List Carried
      rest = without_first (is_frame frame) v.under_way

      abbrev outcome : Outcome
      outcome = take_bytes frame (length output) (gs i)

      abbrev after : World.World
      after = let l = taken (v.memories i) frame output in after_taking n i frame l.memory (frames_in l.answer.written l.output) v

      number : outcome.number ≡ 0
      unfolding taken
      number = (on-sound (take_bytes frame) (v.memories i) output h).1

      -- it is addressed to the gateway
      addressed : m.to ≡ i
      addressed =
          sym (ap (λ (s : Sense). addressee s m) plain)
          ∙ (not-refused (gs i).settings (frame_read frame) (bytes-accepted frame (length output) (gs i) number).passes).here
          ∙ a.own

      -- its hour is one that a round carries
      hour-due : 5 ≤ kind_number m.kind → DueHour (gs i).settings.last m.hour
      hour-due large =
          allowed-due
          (subst (λ (b : Bool). (leb m.hour (gs i).settings.last || (b && eqb m.hour nothing_due)) ≡ true) (le-leb 5 (kind_number m.kind) large)
          (not-refused (gs i).settings (frame_read frame) (bytes-accepted frame (length output) (gs i) number).passes).hour)

      -- and is no event
      rest-network : plain_by_kind m m.kind ≡ [] → network_in rest ≡ network_in v.under_way
      rest-network none =
          ap₂ network_of
          (seen-left event_of frame v.under_way (ap (event_by_sense m) plain ∙ none))
          (seen-left acknowledged_of frame v.under_way (ap (acknowledged_by_sense m) plain))

      cut : (e : Effect) → outcome ≡ outcome_of e → {open? : Bool} → Sendable (gs i).settings open? e.frames
          → let l = taken (v.memories i) frame output in frames_in l.answer.written l.output ≡ map written e.frames
      unfolding taken
      cut e same s = call-frames (take_bytes frame) (v.memories i) output e h same s.whole

      -- A Start or an Lvt belongs to the open round.
      module _ (e : Effect) (same : outcome ≡ outcome_of e) (only : OnlyRound (gs i) e.gateway) (due : NoteDue (gs i).settings.last
          e.gateway.round) (s : Sendable (gs i).settings true e.frames) (is_open_lem : v.rounds.open? ≡ true)
          (other : eqb (kind_in frame) 6 ≡ false) (none : plain_by_kind m m.kind ≡ []) where
        -- the counters after c frames are written
        abbrev open_counters : ℕ → World.Rounds
        open_counters c =
            let took = World.took_more v.rounds.opened c v.rounds in
            cond (eqb (kind_in frame) 5 && eqb i 0) (World.accepts_lvt n took) took

        after-carried : after.under_way ≡ carry v.rounds.opened (map written e.frames) rest
        unfolding after_taking
        after-carried = rw (other, cut e same s) refl

        after-counted : after.rounds ≡ open_counters (length e.frames)
        unfolding after_taking
        after-counted = rw (other, cut e same s, is_open_lem, frames-counted true s.readable s.counting) refl

        opened : v.rounds.opened ≡ suc w.rounds.tag
        opened = open-number (figure_graph n some) v.rounds w.rounds alike.counted is_open_lem

        open-goes : Led n some M equal w gs i e (rounds_in rest ++ rounds_of w.rounds.tag e.frames) (open_counters (length e.frames))
            → Goes outcome after.under_way after.rounds
        open-goes led =
            record {
              effect = e;
              comes-to = same;
              only = only;
              led =
                  led-again
                  (sym (ap rounds_in after-carried ∙ ap (λ (t : ℕ). rounds_in (carry t (map written e.frames) rest)) opened ∙
                  rounds-carried w.rounds.tag e.frames s.readable rest))
                  (sym after-counted)
                  led;
              network = ap network_in after-carried ∙ carried-network s v.rounds.opened rest ∙ rest-network none;
              numbered =
                  λ b. subst (All Numbered) (sym after-carried)
                  (carried-more v.rounds.opened (all-every (λ f x. omega (arith, opened)) e.frames) (carried-rest (is_frame frame) b));
              passing = λ b. subst (All Passes) (sym after-carried) (carried-more v.rounds.opened s.passing (carried-rest (is_frame frame) b));
              note = due;
            }

      abbrev t : ℕ
      t = tag_of frame v.under_way - 1

      -- taking a Start
      pub start-goes : m.kind ≡ Start → Goes outcome after.under_way after.rounds
      start-goes is =
          let heard = from (gs i).settings.n (gs i).settings.own in
          let e = one_start (all_bits heard) ((gs i).round.arrived + bit_of m.from heard) (gs i) in
          let x = round-taken frame v.under_way found (RoundSteps.start m.from i t) (ap (by_kind t m) is ∙ ap (λ (j : ℕ).
          RoundSteps.start m.from j t ∷ []) addressed) in
          let kind = ap kind_number is in
          open-goes e (start-bytes frame (length output) (gs i) plain number is)
          (start-only (gs i) heard ((gs i).round.arrived + bit_of m.from heard))
          (start-due (gs i) valid heard ((gs i).round.arrived + bit_of m.from heard))
          (start-sendable (gs i) valid heard ((gs i).round.arrived + bit_of m.from heard))
          (open-by-start n some M equal w k gs i inside alike (rounds_in rest) m.from t x)
          (ap (λ (c : ℕ). eqb c 6) kind)
          (ap (plain_by_kind m) is)
          (rw is (start-taken-led n some M equal w k gs i inside a alike m.from t (rounds_in rest) x))

      -- taking an Lvt
      pub lvt-goes : m.kind ≡ Lvt → Goes outcome after.under_way after.rounds
      lvt-goes is =
          let told = to (gs i).settings.n (gs i).settings.own in
          let value = min (value_in (gs i).round.phase (gs i)) m.hour in
          let due = due-min (value-in-due (gs i) valid (gs i).round.phase noted) (hour-due (omega (arith, ap kind_number is))) in
          let e = one_lvt (all_bits told) ((gs i).round.arrived + bit_of m.from told) value (gs i) in
          let x = round-taken frame v.under_way found (RoundSteps.lvt m.from i t m.hour) (ap (by_kind t m) is ∙ ap (λ (j : ℕ).
          RoundSteps.lvt m.from j t m.hour ∷ []) addressed) in
          let kind = ap kind_number is in
          open-goes e (lvt-bytes frame (length output) (gs i) plain number is)
          (lvt-only (gs i) told ((gs i).round.arrived + bit_of m.from told) value)
          (lvt-due (gs i) valid told ((gs i).round.arrived + bit_of m.from told) value due)
          (lvt-sendable (gs i) valid told ((gs i).round.arrived + bit_of m.from told) value due)
          (open-by-lvt n some M equal w k gs i inside alike (rounds_in rest) m.from t m.hour x)
          (ap (λ (c : ℕ). eqb c 6) kind)
          (ap (plain_by_kind m) is)
          (rw is (lvt-taken-led n some M equal w k gs i inside a alike m.from t m.hour (rounds_in rest) x))

      -- An Update belongs to its own round.
      module _ (e : Effect) (same : outcome ≡ outcome_of e) (s : Sendable (gs i).settings v.rounds.open? e.frames) (is : m.kind ≡ Update) where
        update-carried : after.under_way ≡ carry (tag_of frame v.under_way) (map written e.frames) rest
        unfolding after_taking
        update-carried = rw (is, cut e same s) refl

        update-counted : after.rounds ≡ World.accepts_update (tag_of frame v.under_way) i (World.took_more (tag_of frame v.under_way)
            (length e.frames) v.rounds)
        unfolding after_taking
        update-counted = rw (is, cut e same s, frames-counted v.rounds.open? s.readable s.counting) refl

      -- taking an Update
      pub update-goes : m.kind ≡ Update → All Numbered v.under_way → Goes outcome after.under_way after.rounds
      update-goes is numbered =
          let e : Effect = record {
            gateway = with_agreed (max (gs i).agreed m.hour) (gs i);
            frames = frames_in_round Update m.hour (gs
                i).settings.own (children (gs i).settings.n (gs i).settings.own);
          } in
          let x = round-taken frame v.under_way found (RoundSteps.update m.from i t m.hour) (ap (by_kind t m) is ∙ ap (λ (j : ℕ).
          RoundSteps.update m.from j t m.hour ∷ []) addressed) in
          let same = update-bytes frame (length output) (gs i) plain number is in
          let s = relayed-sendable (gs i).settings valid.settings v.rounds.open? m.hour (hour-due (omega (arith, ap kind_number is))) in
          let kind = ap kind_number is in
          let tag : tag_of frame v.under_way ≡ suc t = omega (arith, number-found frame (omega arith) numbered found) in
          let carried = update-carried e same s is in
          record {
            effect = e;
            comes-to = same;
            only = refl;
            led =
                led-again
                (sym (ap rounds_in carried ∙ ap (λ (u : ℕ). rounds_in (carry u (map written e.frames) rest)) tag ∙ rounds-carried t
                e.frames s.readable rest))
                (sym (update-counted e same s is ∙ ap (λ (u : ℕ). World.accepts_update u i (World.took_more u (length e.frames) v.rounds)) tag))
                (update-taken-led n some M equal w k gs i inside a alike m.from t m.hour (rounds_in rest) x);
            network = ap network_in carried ∙ carried-network s (tag_of frame v.under_way) rest ∙ rest-network (ap (plain_by_kind m) is);
            numbered =
                λ b. subst (All Numbered) (sym carried)
                (carried-more (tag_of frame v.under_way) (all-every (λ f y. omega (arith, tag)) e.frames) (carried-rest (is_frame frame) b));
            passing = λ b. subst (All Passes) (sym carried) (carried-more (tag_of frame v.under_way) s.passing (carried-rest (is_frame frame) b));
            note = noted;
          }
