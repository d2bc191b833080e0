-- What the calls of a round do, as chains of the theory's steps.
use mathlib.Core.Path.{◌≡◌, refl, sym, ◌∙◌, ap, subst}
use mathlib.Core.Logic.{◌≢◌}
use mathlib.Core.Bool.{true}
use mathlib.Core.List.{List}
use Prim.Native.Nat.{ℕ, zero, suc, ◌+◌, ◌-◌, ◌≤◌, ◌<◌, min, max}
use native.Mathlib.Omega.{arith}
use lib.Dec.{leb-suc-suc, leb-zero}
use lib.ListN.{length}
use Rattle.routing.specs.Arcs.{children}
use Rattle.lists.specs.Lists.{Insert}
use Rattle.lists.specs.Families.{change, put}
use Rattle.lists.proofs.ListLaws.{all-taken}
use Rattle.lists.proofs.FamilyLaws.{Same, same, other, same?, Changed, at, off, change?, change-at, change-off}
use Rattle.memory.specs.declared.Round.{Round}
use Rattle.memory.specs.declared.Phase.TheVariants.{Idle, Counting, Stopped}
use Rattle.gateway.specs.Rounds.{bit_of}
use Rattle.round_steps.specs.Arcs.{Graph, Arc}
use Rattle.event_steps.specs.Models.{Model}
use Rattle.round_steps.specs.RoundSteps.{Rounds, RoundFrame, start, lvt, update, idle, counting, stopped, finished, begin, hear, stop, take_lvt}
use Rattle.round_steps.specs.RoundSteps.{finish, close, take_update, Stops, begins, hears, stops, takes-lvt, finishes, closes, takes-update}
use Rattle.round_steps.specs.RoundSteps.{InTurn, start-in-turn, lvt-in-turn}
use Rattle.timewarp.specs.Worlds.{Setting, World, round, Steps, then, least_outstanding, least_waiting}
use Rattle.round_steps.proofs.RoundArcs.{fresh, begun, back, StateOf, ArcStates}
use Rattle.round_steps.proofs.RoundReach.{all_done}
use Rattle.round_steps.proofs.RoundCarried.{of-lvt}
use Rattle.round_steps.proofs.RoundInvariants.{RoundSound, in-turn}
use Rattle.event_steps.proofs.Histories.{OutstandingFrom, WaitingFrom}
use Rattle.timewarp.proofs.Joined.{Good, good-steps}
use Rattle.run.specs.World
use Rattle.run.proofs.FigureGraph.{figure_graph}
use Rattle.run.proofs.Standing.{Standings, StandingAt, round_of, begin-standings, stop-standings, finish-standings}
use Rattle.run.proofs.Standing.{close-standings, hear-standings, lvt-standings}
use Rattle.run.proofs.RoundCounters.{Counted, is_open, one_more, open-counted, begin-counted, hear-counted, stop-counted, lvt-counted}
use Rattle.run.proofs.RoundCounters.{own-lvt-counted, finish-counted, close-counted, update-counted}

-- a family changed twice at one place
pub change-again : {A : Type 0} (i : ℕ) (a b : A) (f : ℕ → A) (k : ℕ) → change i b (change i a f) k ≡ change i b f k
change-again i a b f k = go (change? i b f k)
  where
    go : Changed i b f k → change i b (change i a f) k ≡ change i b f k
    go (at p e) = change-at i b (change i a f) k p ∙ sym e
    go (off n e) = change-off i b (change i a f) k n ∙ change-off i a f k n ∙ sym e

-- a family changed to what it is
pub change-same : {A : Type 0} (i : ℕ) (f : ℕ → A) (k : ℕ) → change i (f i) f k ≡ f k
change-same i f k = go (change? i (f i) f k)
  where
    go : Changed i (f i) f k → change i (f i) f k ≡ f k
    go (at p e) = e ∙ ap f p
    go (off n e) = e

-- once a gateway has begun, gateway 0 has
module _ (G : Graph) (st mk : ℕ → ℕ) (ar : ℕ → ℕ → ℕ) (fr : List RoundFrame) (h : ArcStates G st mk ar fr) where
  pub first-begun : (m j : ℕ) → j ≤ m → j ≤ G.last → 1 ≤ st j → 1 ≤ st 0
  first-begun zero j u l s =
      let e : j ≡ 0 = omega arith in
      omega (arith, ap st e)
  first-begun (suc m) j u l s = go (same? 0 j) (first-begun m)
    where
      before : (a : ℕ) → StateOf G st mk ar fr a j → 1 ≤ st a
      before a (fresh p) = absurd (omega arith)
      before a (begun p) = omega arith
      before a (back p) = omega arith

      go : Same 0 j → ((a : ℕ) → a ≤ m → a ≤ G.last → 1 ≤ st a → 1 ≤ st 0) → 1 ≤ st 0
      go (same p e) ih = omega (arith, ap st p)
      go (other p e) ih =
          let (a, c) = G.heard j (omega arith) l in
          let d : Arc G a j = omega (arith, G.matched a j) in
          let (x, y) = G.upward a j d in
          ih a (omega arith) (omega arith) (before a (h a j d))

module _ (n : ℕ) (some : 1 ≤ n) (M : Model) (equal : n - 1 ≡ M.last) where
  -- what the forecast is run on
  abbrev pub setting : Setting
  setting = record { model = M; graph = figure_graph n some; same-gateways = equal }

  abbrev G : Graph
  G = figure_graph n some

  -- the world with other rounds
  abbrev pub with_rounds : Rounds → World setting → World setting
  with_rounds r w = record { events = w.events; rounds = r }

  -- A call at gateway i in the world w, where the other gateways' rounds are rs and their agreed times times.
  module _ (w : World setting) (k : Good setting w) (rs : ℕ → Round) (times : ℕ → ℕ) (i : ℕ) (inside : i ≤ n - 1) where
    -- In the course of the call: gateway i's round and agreed time, the run's counters, and the theory's rounds.
    pub record Now (rd : Round) (time : ℕ) (c : World.Rounds) (r : Rounds) : Type 0 where
      pub steps : Steps setting w (with_rounds r w)
      pub standing : Standings G r.status r.mark r.arrived (change i rd rs)
      pub agreed : (j : ℕ) → j ≤ n - 1 → change i time times j ≡ r.agreed j
      pub counted : Counted G c r
      -- gateway 0 closes the round and so never has finished
      pub unfinished : r.status 0 ≢ finished

    module _ {rd : Round} {time : ℕ} {c : World.Rounds} {r : Rounds} (h : Now rd time c r) where
      open r use {status, mark, arrived, frames, tag}

      pub sound : RoundSound G M.never (λ j t. OutstandingFrom M (w.events.gateways j) t) (λ j t. WaitingFrom M (w.events.gateways j) t) r
      sound = (good-steps setting k h.steps).rounds-sound

      -- where gateway i stands
      pub here : StandingAt G status mark arrived i rd
      here = subst (StandingAt G status mark arrived i) (change-at i rd rs i refl) (h.standing i inside)

      -- the new round of gateway i stands for the old one
      settle : {st mk : ℕ → ℕ} {ar : ℕ → ℕ → ℕ} (new : Round) → Standings G st mk ar (change i new (change i rd rs)) → Standings G st mk ar (change i new rs)
      settle {st} {mk} {ar} new s j l = subst (StandingAt G st mk ar j) (change-again i rd new rs j) (s j l)

      -- gateway i takes a Start
      pub hear-now : (j t : ℕ) (rest : List RoundFrame) → Insert (start j i t) rest frames
          → Now (round_of Idle (rd.arrived + bit_of j (G.from i)) rd.note) time c (hear j i rest r)
      unfolding hear
      hear-now j t rest x = go (in-turn G _ _ _ r sound (start j i t) rest x)
        where
          go : InTurn G r (start j i t) → Now (round_of Idle (rd.arrived + bit_of j (G.from i)) rd.note) time c (hear j i rest r)
          go (start-in-turn a s z e) =
              record {
                steps = then h.steps (round (hears j i t x));
                standing =
                    settle (round_of Idle (rd.arrived + bit_of j (G.from i)) rd.note)
                    (subst
                    (λ (q : Round). Standings G status mark (put j i 1 arrived) (change i (round_of Idle (q.arrived + bit_of j (G.from i))
                    q.note) (change i rd rs)))
                    (change-at i rd rs i refl)
                    (hear-standings G status mark arrived (change i rd rs) h.standing j i inside a s z));
                agreed = h.agreed;
                counted = hear-counted G c r h.counted j i rest z;
                unfinished = h.unfinished;
              }

      -- the round is open once a gateway has begun
      pub open_by : (j : ℕ) → j ≤ n - 1 → 1 ≤ status j → c.open? ≡ true
      open_by j l s = h.counted.is_open_lem ∙ go (status 0) refl
        where
          go : (x : ℕ) → status 0 ≡ x → is_open x ≡ true
          go zero e = absurd (omega (arith, first-begun G status mark arrived frames sound.arcs j j (omega arith) l s))
          go (suc x) e = leb-suc-suc 0 x ∙ leb-zero x

      -- all Starts have come to gateway i
      module _ (idles : status i ≡ idle) (all : (j : ℕ) → Arc G j i → arrived j i ≡ 1) where
        -- no Lvt has come back yet
        none-back : (j : ℕ) → Arc G i j → arrived i j ≡ 0
        none-back j a = go (sound.arcs i j a)
          where
            go : StateOf G status mark arrived frames i j → arrived i j ≡ 0
            go (fresh p) = omega arith
            go (begun p) = absurd (omega arith)
            go (back p) = absurd (omega arith)

        -- it begins, and the run's counters have become d
        begins-now : (v : ℕ) → v ≡ least_outstanding setting (w.events.gateways i) → (d : World.Rounds) → Counted G d (begin G i v r)
            → Now (round_of Counting 0 v) time d (begin G i v r)
        unfolding begin
        begins-now v e d counted =
            record {
              steps = then h.steps (round (begins i v inside idles all e));
              standing =
                  settle (round_of Counting 0 v)
                  (begin-standings G status mark arrived (change i rd rs) h.standing i v none-back);
              agreed = h.agreed;
              counted = counted;
              unfinished = λ f. go f (change? i counting status 0);
            }
          where
            go : change i counting status 0 ≡ finished → Changed i counting status 0 → ⊥
            go f (at p q) = omega arith
            go f (off p q) = h.unfinished (omega arith)

        -- gateway 0 opens the round
        pub open-now : (v : ℕ) → v ≡ least_outstanding setting (w.events.gateways i) → i ≡ 0
            → Now (round_of Counting 0 v) time (World.took_more (World.opens c).opened (length (G.to i)) (World.opens c)) (begin G i v r)
        open-now v e z =
            begins-now v e (World.took_more (World.opens c).opened (length (G.to i)) (World.opens c))
            (subst (λ (x : ℕ). Counted G (World.took_more (World.opens c).opened (length (G.to x)) (World.opens c)) (begin G x v r)) (sym z)
            (open-counted G c r h.counted v (omega (arith, ap status z)) (λ j a. none_of j a)))
          where
            none_of : (j : ℕ) → Arc G 0 j → arrived 0 j ≡ 0
            none_of j = subst (λ (x : ℕ). Arc G x j → arrived x j ≡ 0) z (none-back j)

        -- another gateway begins
        pub begin-now : (v : ℕ) → v ≡ least_outstanding setting (w.events.gateways i) → 0 < i
            → Now (round_of Counting 0 v) time (World.took_more c.opened (length (G.to i)) c) (begin G i v r)
        begin-now v e p =
            let (j, a) = G.heard i p inside in
            let b : Arc G j i = omega (arith, G.matched j i) in
            let (x, y) = G.upward j i b in
            begins-now v e (World.took_more c.opened (length (G.to i)) c)
            (begin-counted G c r h.counted i v (omega arith) (open_by j (omega arith) (has-begun j (all j b) (sound.arcs j i b))))
          where
            has-begun : (j : ℕ) → arrived j i ≡ 1 → StateOf G status mark arrived frames j i → 1 ≤ status j
            has-begun j x (fresh q) = absurd (omega arith)
            has-begun j x (begun q) = omega arith
            has-begun j x (back q) = absurd (omega arith)

      -- gateway i stops
      pub stop-now : (v : ℕ) → status i ≡ counting → Stops G i r → v ≡ least_waiting setting (w.events.gateways i)
          → Now (round_of Stopped rd.arrived (min rd.note v)) time c (stop i v r)
      unfolding stop
      stop-now v s x e =
          record {
            steps = then h.steps (round (stops i v inside s x e));
            standing =
                settle (round_of Stopped rd.arrived (min rd.note v))
                (subst
                (λ (q : Round). Standings G (change i stopped status) (change i (min (mark i) v) mark) arrived (change i (round_of Stopped
                q.arrived (min q.note v)) (change i rd rs)))
                (change-at i rd rs i refl)
                (stop-standings G status mark arrived (change i rd rs) h.standing i v inside s));
            agreed = h.agreed;
            counted = stop-counted G c r h.counted i v s;
            unfinished = λ f. go f (change? i stopped status 0);
          }
        where
          go : change i stopped status 0 ≡ finished → Changed i stopped status 0 → ⊥
          go f (at p q) = omega arith
          go f (off p q) = h.unfinished (omega arith)

      -- gateway i, which has stopped, takes an Lvt
      module _ (j t v : ℕ) (rest : List RoundFrame) (x : Insert (lvt j i t v) rest frames) (s : status i ≡ stopped) where
        takes-lvt-now : (d : World.Rounds) → (Arc G i j → arrived i j ≡ 1 → Counted G d (take_lvt j i v rest r))
            → Now (round_of Stopped (rd.arrived + bit_of j (G.to i)) (min rd.note v)) time d (take_lvt j i v rest r)
        unfolding take_lvt
        takes-lvt-now d counted = go (in-turn G _ _ _ r sound (lvt j i t v) rest x)
          where
            go : InTurn G r (lvt j i t v) → Now (round_of Stopped (rd.arrived + bit_of j (G.to i)) (min rd.note v)) time d (take_lvt j i v rest r)
            go (lvt-in-turn a b c z f g) =
                record {
                  steps = then h.steps (round (takes-lvt j i t v s x));
                  standing =
                      settle (round_of Stopped (rd.arrived + bit_of j (G.to i)) (min rd.note v))
                      (subst
                      (λ (q : Round). Standings G status (change i (min (mark i) v) mark) (put i j 2 arrived) (change i (round_of Stopped
                      (q.arrived + bit_of j (G.to i)) (min q.note v)) (change i rd rs)))
                      (change-at i rd rs i refl)
                      (lvt-standings G status mark arrived (change i rd rs) h.standing j i v inside a s (of-lvt (all-taken x sound.carried)).1 z));
                  agreed = h.agreed;
                  counted = counted a z;
                  unfinished = h.unfinished;
                }

        pub lvt-now : 0 < i → Now (round_of Stopped (rd.arrived + bit_of j (G.to i)) (min rd.note v)) time c (take_lvt j i v rest r)
        lvt-now p = takes-lvt-now c (λ a z. lvt-counted G c r h.counted j i v rest (omega arith))

        pub own-lvt-now : i ≡ 0 → Now (round_of Stopped (rd.arrived + bit_of j (G.to i)) (min rd.note v)) time (one_more c) (take_lvt j i v rest r)
        own-lvt-now p =
            takes-lvt-now (one_more c)
            (subst (λ (y : ℕ). Arc G y j → arrived y j ≡ 1 → Counted G (one_more c) (take_lvt j y v rest r)) (sym p)
            (own-lvt-counted G c r h.counted j v rest))

      -- all Lvts have come to gateway i
      module _ (s : status i ≡ stopped) (all : (j : ℕ) → Arc G i j → arrived i j ≡ 2) where
        -- it sends its own
        pub finish-now : (note : ℕ) → 0 < i → Now (round_of Idle 0 note) time (World.took_more c.opened (length (G.from i)) c) (finish G i r)
        unfolding finish
        finish-now note p =
            record {
              steps = then h.steps (round (finishes i p inside s all));
              standing = settle (round_of Idle 0 note) (finish-standings G status mark arrived (change i rd rs) h.standing i note);
              agreed = h.agreed;
              counted = finish-counted G c r h.counted i p (open_by i inside (omega arith));
              unfinished = λ f. h.unfinished (omega (arith, change-off i finished status 0 (omega arith)));
            }

        -- or, at 0, closes the round
        pub close-now : (note : ℕ) → i ≡ 0
            → Now (round_of Idle 0 note) (mark i) (World.closes (World.took_more c.opened (length (children (suc (n - 1)) i)) c)) (close G r)
        unfolding close
        close-now note z =
            record {
              steps = then h.steps (round (closes zero-stopped zero-all));
              standing =
                  settle (round_of Idle 0 note)
                  (subst (λ (x : ℕ). Standings G (λ y. idle) mark (λ a b. 0) (change x (round_of Idle 0 note) (change i rd rs))) (sym z)
                  (close-standings G status mark arrived (change i rd rs) h.standing note
                  (λ j p l. (all_done G status mark arrived frames sound.arcs zero-stopped zero-all j l).is-finished p)));
              agreed = λ j l. new-time j l (change? i (mark i) times j);
              counted =
                  subst (λ (x : ℕ). Counted G (World.closes (World.took_more c.opened (length (children (suc (n - 1)) x)) c)) (close G r)) (sym z)
                  (close-counted G c r h.counted (open_by i inside (omega arith)));
              unfinished = λ f. omega arith;
            }
          where
            zero-stopped : status 0 ≡ stopped
            zero-stopped = omega (arith, ap status z)

            zero-all : (j : ℕ) → Arc G 0 j → arrived 0 j ≡ 2
            zero-all j = subst (λ (x : ℕ). Arc G x j → arrived x j ≡ 2) z (all j)

            new-time : (j : ℕ) → j ≤ n - 1 → Changed i (mark i) times j → change i (mark i) times j ≡ change 0 (mark 0) r.agreed j
            new-time j l (at p e) = e ∙ ap mark z ∙ sym (change-at 0 (mark 0) r.agreed j (sym z ∙ p))
            new-time j l (off p e) =
                e
                ∙ sym (change-off i time times j p)
                ∙ h.agreed j l
                ∙ sym (change-off 0 (mark 0) r.agreed j (λ q. p (z ∙ q)))

      -- gateway i takes the Update of round t
      pub update-now : (j t v : ℕ) (rest : List RoundFrame) → Insert (update j i t v) rest frames
          → Now rd (max time v) (World.accepts_update (suc t) i (World.took_more (suc t) (length (children (suc (n - 1)) i)) c)) (take_update G i t v rest r)
      unfolding take_update
      update-now j t v rest x =
          record {
            steps = then h.steps (round (takes-update j i t v x));
            standing = h.standing;
            agreed = λ l m. new-time l m (change? i (max time v) times l);
            counted = update-counted G c r h.counted i t v rest;
            unfinished = h.unfinished;
          }
        where
          own : time ≡ r.agreed i
          own = sym (change-at i time times i refl) ∙ h.agreed i inside

          new-time : (l : ℕ) → l ≤ n - 1 → Changed i (max time v) times l → change i (max time v) times l ≡ change i (max (r.agreed i) v) r.agreed l
          new-time l m (at p e) = omega (arith, own, change-at i (max (r.agreed i) v) r.agreed l p)
          new-time l m (off p e) =
              omega (arith, change-off i time times l p, h.agreed l m, change-off i (max (r.agreed i) v) r.agreed l p)
