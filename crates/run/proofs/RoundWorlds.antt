-- The gateways, the frames under way and the run's counters beside a world of the theory: what a call of a round makes of both.
use mathlib.Core.Path.{◌≡◌, refl, sym, ◌∙◌, ap, subst}
use mathlib.Core.Logic.{◌≢◌}
use mathlib.Core.Bool.{true, cond}
use mathlib.Core.List.{List, ◌++◌}
use Prim.Native.Nat.{ℕ, suc, ◌+◌, ◌-◌, ◌≤◌, min, max}
use native.Mathlib.Omega.{arith}
use lib.Dec.{eqb}
use lib.ListN.{length}
use Rattle.lists.specs.Lists.{Insert}
use Rattle.lists.specs.Families.{change}
use Rattle.lists.proofs.ListLaws.{all-taken, tally-insert}
use Rattle.lists.proofs.FamilyLaws.{Changed, at, off, change?}
use Rattle.memory.specs.Records.{Gateway}
use Rattle.gateway.specs.Effects.{Effect, with_agreed, with_round, noted}
use Rattle.gateway.specs.Rounds.{all_bits, begun, one_start, one_lvt, bit_of, is_idle, value_in, frames_in_round}
use Rattle.model.specs.declared.Kind.TheVariants.{Update}
use Rattle.routing.specs.Arcs.{from, to, children}
use Rattle.event_steps.specs.Models.{Model}
use Rattle.round_steps.specs.RoundSteps
use Rattle.round_steps.specs.RoundSteps.{RoundFrame, start, lvt, update}
use Rattle.timewarp.specs.Worlds
use Rattle.timewarp.specs.Worlds.{Steps, none}
use Rattle.round_steps.proofs.RoundFrames.{start_on, both_is}
use Rattle.round_steps.proofs.RoundArcs.{StateOf}
use Rattle.round_steps.proofs.RoundArcs
use Rattle.round_steps.proofs.RoundCarried.{of-start, of-lvt}
use Rattle.timewarp.proofs.Joined.{Good}
use Rattle.run.specs.World
use Rattle.run.proofs.FigureGraph.{figure_graph}
use Rattle.run.proofs.Standing.{Standings, StandingAt, lower-standings}
use Rattle.run.proofs.RoundCounters.{Counted, lower-counted}
use Rattle.run.proofs.RoundChains
use Rattle.run.proofs.RoundChains.{change-same}
use Rattle.run.proofs.RoundCalls
use Rattle.run.proofs.RoundsUnderWay.{rounds_of}

-- a family changed at one place, seen through a function
pub change-seen : {A B : Type 0} (f : A → B) (i : ℕ) (v : A) (fam : ℕ → A) (k : ℕ) → change i (f v) (λ j. f (fam j)) k ≡ f (change i v fam k)
change-seen f i v fam k = go (change? i v fam k) (change? i (f v) (λ j. f (fam j)) k)
  where
    go : Changed i v fam k → Changed i (f v) (λ j. f (fam j)) k → change i (f v) (λ j. f (fam j)) k ≡ f (change i v fam k)
    go (at p e) (at q d) = d ∙ ap f (sym e)
    go (at p e) (off q d) = absurd (q p)
    go (off p e) (at q d) = absurd (p q)
    go (off p e) (off q d) = d ∙ ap f (sym e)

module _ (n : ℕ) (some : 1 ≤ n) (M : Model) (equal : n - 1 ≡ M.last) where
  abbrev S : Worlds.Setting
  S = RoundChains.setting n some M equal

  -- The rounds of N gateways, the frames of rounds under way and the run's counters are those of the theory's world.
  pub record Alike (gs : ℕ → Gateway) (under_way : List RoundFrame) (c : World.Rounds) (r : RoundSteps.Rounds) : Type 0 where
    pub standing : Standings (figure_graph n some) r.status r.mark r.arrived (λ i. (gs i).round)
    pub agreed : (i : ℕ) → i ≤ n - 1 → (gs i).agreed ≡ r.agreed i
    pub counted : Counted (figure_graph n some) c r
    pub unfinished : r.status 0 ≢ RoundSteps.finished
    pub frames : under_way ≡ r.frames

  -- What a call at gateway i with the effect e comes to.
  pub record Led (w : Worlds.World S) (gs : ℕ → Gateway) (i : ℕ) (e : Effect) (under_way : List RoundFrame) (c : World.Rounds) : Type 0 where
    pub rounds : RoundSteps.Rounds
    pub steps : Steps S w (RoundChains.with_rounds n some M equal rounds w)
    pub alike : Alike (change i e.gateway gs) under_way c rounds

  module _ (w : Worlds.World S) (k : Good S w) (gs : ℕ → Gateway) (i : ℕ) (inside : i ≤ n - 1) where
    abbrev Now : World.Rounds → RoundSteps.Rounds → Type 0
    Now = RoundChains.Now n some M equal w k (λ j. (gs j).round) (λ j. (gs j).agreed) i inside (gs i).round (gs i).agreed

    -- at the beginning of the call
    pub entering : {under_way : List RoundFrame} {c : World.Rounds} → Alike gs under_way c w.rounds → Now c w.rounds
    entering a =
        record {
          steps = none;
          standing = λ j l. subst (StandingAt (figure_graph n some) w.rounds.status w.rounds.mark w.rounds.arrived j) (sym
              (change-same i (λ m. (gs m).round) j)) (a.standing j l);
          agreed = λ j l. change-same i (λ m. (gs m).agreed) j ∙ a.agreed j l;
          counted = a.counted;
          unfinished = a.unfinished;
        }

    -- the round is open while a Start or an Lvt of it is under way
    module _ {under_way : List RoundFrame} {c : World.Rounds} (h : Alike gs under_way c w.rounds) (rest : List RoundFrame) where
      open_by : (j : ℕ) → j ≤ n - 1 → 1 ≤ w.rounds.status j → c.open? ≡ true
      open_by = RoundChains.open_by n some M equal w k (λ j. (gs j).round) (λ j. (gs j).agreed) i inside (entering h)

      pub open-by-start : (j t : ℕ) → Insert (start j i t) rest under_way → c.open? ≡ true
      unfolding start_on
      open-by-start j t x =
          let y = subst (Insert (start j i t) rest) h.frames x in
          let a = (of-start (all-taken y k.rounds-sound.carried)).0 in
          open_by j (omega (arith, (figure_graph n some).upward j i a)) (begins y (k.rounds-sound.arcs j i a))
        where
          begins : Insert (start j i t) rest w.rounds.frames → StateOf (figure_graph n some) w.rounds.status w.rounds.mark
              w.rounds.arrived w.rounds.frames j i → 1 ≤ w.rounds.status j
          begins y (RoundArcs.fresh p) = omega (arith, tally-insert (start_on j i) y, both_is j i j i refl refl)
          begins y (RoundArcs.begun p) = omega arith
          begins y (RoundArcs.back p) = omega arith

      pub open-by-lvt : (j t v : ℕ) → Insert (lvt j i t v) rest under_way → c.open? ≡ true
      open-by-lvt j t v x =
          let y = subst (Insert (lvt j i t v) rest) h.frames x in
          let (a, s, e, d) = of-lvt (all-taken y k.rounds-sound.carried) in
          open_by j (omega (arith, (figure_graph n some).upward i j a)) (omega arith)

    -- and at its end
    leaving : {e : Effect} {c : World.Rounds} {under_way : List RoundFrame} {t : ℕ}
        → RoundCalls.Done n some M equal w k (λ j. (gs j).round) (λ j. (gs j).agreed) i inside e c under_way t
        → Led w gs i e (under_way ++ rounds_of t e.frames) c
    leaving {e} d =
        let r = d.after in
        record {
          rounds = r;
          steps = d.now.steps;
          alike =
              record {
                standing = λ j l. subst (StandingAt (figure_graph n some) r.status r.mark r.arrived j) (change-seen (λ g. g.round)
                    i e.gateway gs j) (d.now.standing j l);
                agreed = λ j l. sym (change-seen (λ g. g.agreed) i e.gateway gs j) ∙ d.now.agreed j l;
                counted = d.now.counted;
                unfinished = d.now.unfinished;
                frames = sym d.frames;
              };
        }

    abbrev pub Called : Type 0
    Called = RoundCalls.Called n some M equal w k (λ j. (gs j).round) (λ j. (gs j).agreed) i inside (gs i)

    module _ {under_way : List RoundFrame} {c : World.Rounds} (a : Called) (h : Alike gs under_way c w.rounds) where
      -- the start call
      pub start-led : i ≡ 0 → is_idle (gs i).round.phase ≡ true
          → Led w gs i (begun (gs i)) (under_way ++ rounds_of w.rounds.tag (begun (gs i)).frames)
          (let took = World.took_more (World.opens c).opened (length (begun (gs i)).frames) (World.opens c) in cond (eqb n 1) (World.closes took) took)
      start-led z idles = rw h.frames (leaving (RoundCalls.start-done n some M equal w k (λ j. (gs j).round) (λ j. (gs j).agreed) i inside
          a (entering h) z idles))

      -- taking a Start
      pub start-taken-led : (j t : ℕ) (rest : List RoundFrame) → Insert (start j i t) rest under_way
          → let heard = from (gs i).settings.n (gs i).settings.own in
          let e = one_start (all_bits heard) ((gs i).round.arrived + bit_of j heard) (gs i) in
          Led w gs i e (rest ++ rounds_of w.rounds.tag e.frames) (World.took_more c.opened (length e.frames) c)
      start-taken-led j t rest x =
          leaving (RoundCalls.start-taken n some M equal w k (λ m. (gs m).round) (λ m. (gs m).agreed) i inside a (entering h) j t rest (subst
          (Insert (start j i t) rest) h.frames x))

      -- taking an Lvt
      pub lvt-taken-led : (j t v : ℕ) (rest : List RoundFrame) → Insert (lvt j i t v) rest under_way
          → let told = to (gs i).settings.n (gs i).settings.own in
          let e = one_lvt (all_bits told) ((gs i).round.arrived + bit_of j told) (min (value_in (gs i).round.phase (gs i)) v) (gs i) in
          let took = World.took_more c.opened (length e.frames) c in
          Led w gs i e (rest ++ rounds_of w.rounds.tag e.frames) (cond (eqb i 0) (World.accepts_lvt n took) took)
      lvt-taken-led j t v rest x =
          leaving (RoundCalls.lvt-taken n some M equal w k (λ m. (gs m).round) (λ m. (gs m).agreed) i inside a (entering h) j t v rest (subst
          (Insert (lvt j i t v) rest) h.frames x))

      -- taking an Update
      pub update-taken-led : (j t v : ℕ) (rest : List RoundFrame) → Insert (update j i t v) rest under_way
          → let e : Effect = record {
            gateway = with_agreed (max (gs i).agreed v) (gs i);
            frames = frames_in_round Update v (gs
                i).settings.own (children (gs i).settings.n (gs i).settings.own);
          } in
          Led w gs i e (rest ++ rounds_of t e.frames) (World.accepts_update (suc t) i (World.took_more (suc t) (length e.frames) c))
      update-taken-led j t v rest x =
          leaving (RoundCalls.update-taken n some M equal w k (λ m. (gs m).round) (λ m. (gs m).agreed) i inside a (entering h) j t v rest
          (subst (Insert (update j i t v) rest) h.frames x))

  -- only the rounds and the agreed times of the gateways matter
  pub alike-again : {gs : ℕ → Gateway} {under_way : List RoundFrame} {c : World.Rounds} {r : RoundSteps.Rounds} (hs : ℕ → Gateway)
      → ((i : ℕ) → (gs i).round ≡ (hs i).round) → ((i : ℕ) → (gs i).agreed ≡ (hs i).agreed) → Alike gs under_way c r → Alike hs under_way c r
  alike-again {r = r} hs e d a =
      record {
        standing = λ i l. subst (StandingAt (figure_graph n some) r.status r.mark r.arrived i) (e i) (a.standing i l);
        agreed = λ i l. sym (d i) ∙ a.agreed i l;
        counted = a.counted;
        unfinished = a.unfinished;
        frames = a.frames;
      }

  -- gateway i sends a message or cancel of hour t
  pub alike-lowered : {gs : ℕ → Gateway} {under_way : List RoundFrame} {c : World.Rounds} {r : RoundSteps.Rounds} (i t : ℕ) → i ≤ n - 1
      → Alike gs under_way c r → Alike (change i (with_round (noted t (gs i).round) (gs i)) gs) under_way c (RoundSteps.lower i t r)
  unfolding RoundSteps.lower noted
  alike-lowered {gs} {c = c} {r = r} i t l a =
      record {
        standing = λ j m. subst (StandingAt (figure_graph n some) r.status (RoundSteps.lower i t r).mark r.arrived j) (change-seen (λ
            g. g.round) i (with_round (noted t (gs i).round) (gs i)) gs j) (lower-standings (figure_graph n some) r.status r.mark
            r.arrived (λ j. (gs j).round) a.standing i t l j m);
        agreed = λ j m. sym (change-seen (λ g. g.agreed) i (with_round (noted t (gs i).round) (gs i)) gs j) ∙ change-same i (λ j. (gs
            j).agreed) j ∙ a.agreed j m;
        counted = lower-counted (figure_graph n some) c r a.counted i t;
        unfinished = a.unfinished;
        frames = a.frames;
      }
