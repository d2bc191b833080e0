-- The start call, Start, Lvt and Update at a gateway: each is a chain of the theory's steps.
use mathlib.Core.Path.{◌≡◌, refl, sym, ◌∙◌, ap, subst}
use mathlib.Core.Logic.{◌≢◌}
use mathlib.Core.Bool.{true, false, cond, true≢false}
use mathlib.Core.List.{List, [], ◌++◌, map, append-nil}
use Prim.Native.Nat.{ℕ, suc, ◌+◌, ◌-◌, ◌≤◌, ◌<◌, min, max}
use native.Mathlib.Omega.{arith}
use native.Mathlib.Decide.{ℕ_discrete}
use lib.Dec.{eqb, eqb→eq}
use lib.ListN.{length, length-map}
use Rattle.lists.specs.Lists.{All, Insert}
use Rattle.lists.proofs.ListLaws.{count-nil}
use Rattle.lists.proofs.FamilyLaws.{Same, same, other, same?, Changed, at, off, change?, change-at}
use Rattle.routing.specs.Arcs.{from, to, children}
use Rattle.model.specs.declared.Kind.TheVariants.{Start, Lvt, Update}
use Rattle.memory.specs.Records.{Gateway}
use Rattle.memory.specs.declared.Round.{Round}
use Rattle.memory.specs.declared.Phase.TheVariants.{Idle, Counting, Stopped}
use Rattle.gateway.specs.Effects.{Effect, with_round, with_agreed}
use Rattle.gateway.specs.Rounds.{least_outstanding, least_queued, frames_in_round, finished, begun, one_start, one_lvt, value_in, value_at, bit_of}
use Rattle.gateway.specs.Rounds.{all_bits, is_idle, idle}
use Rattle.round_steps.specs.Arcs
use Rattle.event_steps.specs.Models.{Model}
use Rattle.round_steps.specs.RoundSteps
use Rattle.round_steps.specs.RoundSteps.{RoundFrame, start, lvt, update}
use Rattle.timewarp.specs.Worlds.{World}
use Rattle.timewarp.specs.Worlds
use Rattle.timewarp.proofs.Joined.{Good}
use Rattle.round_steps.proofs.RoundCarried.{all_from, all-to}
use Rattle.round_steps.proofs.RoundInvariants.{in-turn}
use Rattle.run.specs.World
use Rattle.run.proofs.FigureGraph.{figure_graph, arc_laws, tells_is, hears-is}
use Rattle.run.proofs.ArrivalBits.{how_many, AllIn, all_in, not-all, all-in?}
use Rattle.run.proofs.Standing.{start_in, lvt_in, start_bits, lvt_bits, StandingAt, is-idle, is-finished, is-counting, is-stopped, round_of}
use Rattle.run.proofs.RoundCounters.{Counted, one_more, same-counted}
use Rattle.run.proofs.RoundChains
use Rattle.run.proofs.RoundsUnderWay.{rounds_of, starts-are, lvts-are, updates-are}

-- what the test of two numbers says
equal-test : (x y : ℕ) → x ≡ y → eqb x y ≡ true
equal-test x y p = go (same? x y)
  where
    go : Same x y → eqb x y ≡ true
    go (same q e) = e
    go (other q e) = absurd (q p)

unequal-test : (x y : ℕ) → x ≢ y → eqb x y ≡ false
unequal-test x y p = go (same? x y)
  where
    go : Same x y → eqb x y ≡ false
    go (same q e) = absurd (p q)
    go (other q e) = e

-- an effect that writes nothing
abbrev silent : Round → Gateway → Effect
silent rd g = record { gateway = with_round rd g; frames = [] }

-- one more Start, with all in and not
all-heard : (heard : List ℕ) (arrived : ℕ) (g : Gateway) → eqb arrived (all_bits heard) ≡ true → one_start (all_bits heard) arrived g ≡ begun g
unfolding one_start
all-heard heard arrived g e = rw e refl

not-all-heard : (heard : List ℕ) (arrived : ℕ) (g : Gateway) → eqb arrived (all_bits heard) ≡ false
    → one_start (all_bits heard) arrived g ≡ silent (round_of Idle arrived g.round.note) g
unfolding one_start
not-all-heard heard arrived g e = rw e refl

-- one more Lvt, with all in and not
all_right : (told : List ℕ) (arrived v : ℕ) (g : Gateway) → eqb arrived (all_bits told) ≡ true → one_lvt (all_bits told) arrived v g ≡ finished v g
unfolding one_lvt
all_right told arrived v g e = rw e refl

not-all-back : (told : List ℕ) (arrived v : ℕ) (g : Gateway) → eqb arrived (all_bits told) ≡ false
    → one_lvt (all_bits told) arrived v g ≡ silent (round_of Stopped arrived v) g
unfolding one_lvt
not-all-back told arrived v g e = rw e refl

module _ (n : ℕ) (some : 1 ≤ n) (M : Model) (equal : n - 1 ≡ M.last) where
  abbrev S : Worlds.Setting
  S = RoundChains.setting n some M equal

  abbrev G : Arcs.Graph
  G = figure_graph n some

  module _ (w : World S) (k : Good S w) (rs : ℕ → Round) (times : ℕ → ℕ) (i : ℕ) (inside : i ≤ n - 1) where
    abbrev Now : Round → ℕ → World.Rounds → RoundSteps.Rounds → Type 0
    Now = RoundChains.Now n some M equal w k rs times i inside

    -- The gateway g that the call is at: its settings, and the two least hours that the round asks of it.
    pub record Called (g : Gateway) : Type 0 where
      pub gateways : g.settings.n ≡ n
      pub own : g.settings.own ≡ i
      pub outstanding : least_outstanding g.outstanding ≡ Worlds.least_outstanding S (w.events.gateways i)
      pub queued : least_queued g.queue ≡ Worlds.least_waiting S (w.events.gateways i)

    -- The effect e is a chain of steps: to the round and agreed time after it, the counters c, and the frames of round t
    -- written behind those under way.
    pub record Done (e : Effect) (c : World.Rounds) (under_way : List RoundFrame) (t : ℕ) : Type 0 where
      pub after : RoundSteps.Rounds
      pub now : Now e.gateway.round e.gateway.agreed c after
      pub frames : after.frames ≡ under_way ++ rounds_of t e.frames

    module _ {g : Gateway} (a : Called g) where
      children-are : children g.settings.n g.settings.own ≡ children (suc (n - 1)) i
      children-are =
          let whole : g.settings.n ≡ suc (n - 1) = omega (arith, a.gateways) in
          ap (λ (m : ℕ). children m g.settings.own) whole ∙ ap (λ (o : ℕ). children (suc (n - 1)) o) a.own

      to_is : to g.settings.n g.settings.own ≡ G.to i
      to_is =
          ap (λ (m : ℕ). to m g.settings.own) a.gateways
          ∙ ap (λ (o : ℕ). to n o) a.own
          ∙ sym (tells_is n some i (omega arith))

      from_is : from g.settings.n g.settings.own ≡ G.from i
      from_is =
          ap (λ (m : ℕ). from m g.settings.own) a.gateways
          ∙ ap (λ (o : ℕ). from n o) a.own
          ∙ sym (hears-is n some i (omega arith))

      -- the frames that it writes
      updates-written : (t v : ℕ) → rounds_of t (frames_in_round Update v g.settings.own (children g.settings.n g.settings.own)) ≡
          map (λ j. update i j t v) (children (suc (n - 1)) i)
      updates-written t v =
          updates-are t v g.settings.own (children g.settings.n g.settings.own)
          ∙ ap (λ (o : ℕ). map (λ j. update o j t v) (children g.settings.n g.settings.own)) a.own
          ∙ ap (map (λ j. update i j t v)) children-are

      starts-written : (t v : ℕ) → rounds_of t (frames_in_round Start v g.settings.own (to g.settings.n g.settings.own)) ≡ map (λ
          j. start i j t) (G.to i)
      starts-written t v =
          starts-are t v g.settings.own (to g.settings.n g.settings.own)
          ∙ ap (λ (o : ℕ). map (λ j. start o j t) (to g.settings.n g.settings.own)) a.own
          ∙ ap (map (λ j. start i j t)) to_is

      lvts-written : (t v : ℕ) → rounds_of t (frames_in_round Lvt v g.settings.own (from g.settings.n g.settings.own)) ≡ map (λ j.
          lvt i j t v) (G.from i)
      lvts-written t v =
          lvts-are t v g.settings.own (from g.settings.n g.settings.own)
          ∙ ap (λ (o : ℕ). map (λ j. lvt o j t v) (from g.settings.n g.settings.own)) a.own
          ∙ ap (map (λ j. lvt i j t v)) from_is

    -- what `finished` comes to at 0 and elsewhere
    abbrev closing : ℕ → Gateway → Effect
    closing v g = record {
      gateway = with_agreed v (with_round idle g);
      frames = frames_in_round Update v g.settings.own (children
          g.settings.n g.settings.own);
    }

    abbrev sending : ℕ → Gateway → Effect
    sending v g =
        record { gateway = with_round idle g; frames = frames_in_round Lvt v g.settings.own (from g.settings.n g.settings.own) }

    at_zero : {g : Gateway} → Called g → i ≡ 0 → eqb g.settings.own 0 ≡ true
    at_zero a z = ap (λ (o : ℕ). eqb o 0) (a.own ∙ z)

    finished-closing : {g : Gateway} → Called g → (v : ℕ) → i ≡ 0 → finished v g ≡ closing v g
    unfolding finished
    finished-closing a v z = rw (at_zero a z) refl

    not-zero : {g : Gateway} → Called g → 0 < i → eqb g.settings.own 0 ≡ false
    not-zero a p = ap (λ (o : ℕ). eqb o 0) a.own ∙ go (same? i 0)
      where
        go : Same i 0 → eqb i 0 ≡ false
        go (same q e) = absurd (omega arith)
        go (other q e) = e

    finished-sending : {g : Gateway} → Called g → (v : ℕ) → 0 < i → finished v g ≡ sending v g
    unfolding finished
    finished-sending a v p = rw (not-zero a p) refl

    -- With all Lvts in.
    module _ {g : Gateway} {rd : Round} {c : World.Rounds} {r : RoundSteps.Rounds} (a : Called g) (h : Now rd g.agreed c r)
        (s : r.status i ≡ RoundSteps.stopped) (all : (j : ℕ) → Arcs.Arc G i j → r.arrived i j ≡ 2) (v : ℕ) (value : r.mark i ≡ v) where
      -- at 0 the round is closed
      closing-done : i ≡ 0 → Done (finished v g) (World.closes (World.took_more c.opened (length (finished v g).frames) c)) r.frames r.tag
      unfolding RoundSteps.close
      closing-done z =
          subst (λ e. Done e (World.closes (World.took_more c.opened (length e.frames) c)) r.frames r.tag) (sym (finished-closing a v z))
          (record {
            after = RoundSteps.close G r;
            now =
                rw (length-map, children-are a)
                (subst (λ (x : ℕ). Now (round_of Idle 0 0) x (World.closes (World.took_more c.opened (length (children (suc (n - 1)) i))
                c)) (RoundSteps.close G r)) value
                (RoundChains.close-now n some M equal w k rs times i inside h s all 0 z));
            frames = ap (λ l. r.frames ++ l) (zero-updates ∙ sym (updates-written a r.tag v));
          })
        where
          zero-updates : map (λ j. update 0 j r.tag (r.mark 0)) (children (suc (n - 1)) 0) ≡ map (λ j. update i j r.tag v) (children (suc (n - 1)) i)
          zero-updates =
              ap (λ (x : ℕ). map (λ j. update x j r.tag (r.mark x)) (children (suc (n - 1)) x)) (sym z)
              ∙ ap (λ (x : ℕ). map (λ j. update i j r.tag x) (children (suc (n - 1)) i)) value

      -- elsewhere the Lvts go out
      sending-done : 0 < i → Done (finished v g) (World.took_more c.opened (length (finished v g).frames) c) r.frames r.tag
      unfolding RoundSteps.finish
      sending-done p =
          subst (λ e. Done e (World.took_more c.opened (length e.frames) c) r.frames r.tag) (sym (finished-sending a v p))
          (record {
            after = RoundSteps.finish G i r;
            now = rw (length-map, from_is a) (RoundChains.finish-now n some M equal w k rs times i inside h s all 0 p);
            frames =
                ap (λ l. r.frames ++ l)
                (ap (λ (x : ℕ). map (λ j. lvt i j r.tag x) (G.from i)) value ∙ sym (lvts-written a r.tag v));
          })

    -- other counters that count the same
    recounted : {rd : Round} {time : ℕ} {c : World.Rounds} {r : RoundSteps.Rounds} → Now rd time c r → (d : World.Rounds) → Counted G d r → Now rd time d r
    recounted h d counted =
        record { steps = h.steps; standing = h.standing; agreed = h.agreed; counted = counted; unfinished = h.unfinished }

    -- a round that took nothing more
    nothing-more : (t m : ℕ) (c : World.Rounds) → m ≡ 0 → (u : ℕ) → (World.took_more t m c).took u ≡ c.took u
    nothing-more t m c z u = go (change? t (c.took t + m) c.took u)
      where
        go : Changed t (c.took t + m) c.took u → (World.took_more t m c).took u ≡ c.took u
        go (at p e) = omega (arith, ap c.took p)
        go (off p e) = omega (arith)

    took-none : {rd : Round} {time : ℕ} (t m : ℕ) (c : World.Rounds) {r : RoundSteps.Rounds} → m ≡ 0 → Now rd time (World.took_more t m c) r → Now rd time c r
    took-none t m c {r} z h =
        recounted h c (same-counted G (World.took_more t m c) r h.counted c refl refl refl (λ u. sym (nothing-more t m c z (suc u))) refl refl)

    none-took : {rd : Round} {time : ℕ} (t m : ℕ) (c : World.Rounds) {r : RoundSteps.Rounds} → m ≡ 0 → Now rd time c r → Now rd time (World.took_more t m c) r
    none-took t m c {r} z h =
        recounted h (World.took_more t m c) (same-counted G c r h.counted (World.took_more t m c) refl refl refl (λ u. nothing-more t m c z (suc u)) refl refl)

    -- What `begun` comes to at the last gateway and elsewhere.
    abbrev counting : Gateway → Effect
    counting g =
        let note = least_outstanding g.outstanding in
        record {
          gateway = with_round (round_of Counting 0 note) g;
          frames = frames_in_round Start 0 g.settings.own (to g.settings.n g.settings.own);
        }

    begun-counting : {g : Gateway} → Called g → i ≢ n - 1 → begun g ≡ counting g
    unfolding begun
    begun-counting {g} a l = rw (go (same? (g.settings.own + 1) g.settings.n)) refl
      where
        go : Same (g.settings.own + 1) g.settings.n → eqb (g.settings.own + 1) g.settings.n ≡ false
        go (same p e) = absurd (l (omega (arith, a.own, a.gateways)))
        go (other p e) = e

    begun-last : {g : Gateway} → Called g → i ≡ n - 1 → begun g ≡ finished (value_at (least_outstanding g.outstanding) g) g
    unfolding begun
    begun-last {g} a l = rw (go (same? (g.settings.own + 1) g.settings.n)) refl
      where
        go : Same (g.settings.own + 1) g.settings.n → eqb (g.settings.own + 1) g.settings.n ≡ true
        go (same p e) = e
        go (other p e) = absurd (p (omega (arith, a.own, a.gateways)))

    -- the last gateway tells none
    tells_none : i ≡ n - 1 → G.to i ≡ []
    tells_none l = tells_is n some i (omega arith) ∙ ((arc_laws n some).last i (omega arith)).1 (omega arith)

    -- With all Starts in.
    module _ {g : Gateway} {rd : Round} {c : World.Rounds} {r : RoundSteps.Rounds} (a : Called g) (h : Now rd g.agreed c r)
        (idles : r.status i ≡ RoundSteps.idle) (all : (j : ℕ) → Arcs.Arc G j i → r.arrived j i ≡ 1) where
      abbrev note : ℕ
      note = least_outstanding g.outstanding

      began : RoundSteps.Rounds
      began = RoundSteps.begin G i note r

      -- the last gateway stops as it starts
      module _ (l : i ≡ n - 1) {d : World.Rounds} (b : Now (round_of Counting 0 note) g.agreed d began) where
        halted : RoundSteps.Rounds
        halted = RoundSteps.stop i (least_queued g.queue) began

        halted-now : Now (round_of Stopped 0 (value_at note g)) g.agreed d halted
        unfolding began halted RoundSteps.begin
        halted-now =
            RoundChains.stop-now n some M equal w k rs times i inside b (least_queued g.queue)
            (change-at i RoundSteps.counting r.status i refl) (RoundSteps.as-it-starts l) a.queued

        halted-status : halted.status i ≡ RoundSteps.stopped
        unfolding halted RoundSteps.stop
        halted-status = change-at i RoundSteps.stopped began.status i refl

        halted-mark : halted.mark i ≡ value_at note g
        unfolding halted began RoundSteps.stop RoundSteps.begin
        halted-mark =
            change-at i (min (began.mark i) (least_queued g.queue)) began.mark i refl
            ∙ ap (λ (x : ℕ). min x (least_queued g.queue)) (change-at i note r.mark i refl)

        halted-all : (j : ℕ) → Arcs.Arc G i j → halted.arrived i j ≡ 2
        halted-all j x = absurd (go (subst (λ m. 1 ≤ Arcs.times j m) (tells_none l) x))
          where
            go : 1 ≤ Arcs.times j [] → ⊥
            go y = omega (arith, count-nil ℕ_discrete j)

        -- no Start is written
        halted-frames : halted.frames ≡ r.frames
        unfolding halted began RoundSteps.stop RoundSteps.begin
        halted-frames = rw (tells_none l) (append-nil r.frames)

      -- a gateway but 0
      pub begun-done : 0 < i → Done (begun g) (World.took_more c.opened (length (begun g).frames) c) r.frames r.tag
      unfolding began halted RoundSteps.begin RoundSteps.stop
      begun-done p = go (same? i (n - 1))
        where
          first : Now (round_of Counting 0 note) g.agreed (World.took_more c.opened (length (G.to i)) c) began
          first = RoundChains.begin-now n some M equal w k rs times i inside h idles all note a.outstanding p

          go : Same i (n - 1) → Done (begun g) (World.took_more c.opened (length (begun g).frames) c) r.frames r.tag
          go (same l e) =
              let b = took-none c.opened (length (G.to i)) c (ap length (tells_none l)) first in
              subst (λ x. Done x (World.took_more c.opened (length x.frames) c) r.frames r.tag) (sym (begun-last a l))
              (subst (λ f. Done (finished (value_at note g) g) (World.took_more c.opened (length (finished (value_at note g) g).frames) c)
              f r.tag) (halted-frames l b)
              (sending-done a (halted-now l b) (halted-status l b) (halted-all l b) (value_at note g) (halted-mark l b) p))
          go (other l e) =
              subst (λ x. Done x (World.took_more c.opened (length x.frames) c) r.frames r.tag) (sym (begun-counting a l))
              (record {
                after = began;
                now = rw (length-map, to_is a) first;
                frames = ap (λ f. r.frames ++ f) (sym (starts-written a r.tag 0));
              })

      -- gateway 0 opens the round; the only gateway does the whole of it
      pub opening-done : i ≡ 0
          → Done (begun g)
          (let took = World.took_more (World.opens c).opened (length (begun g).frames) (World.opens c) in cond (eqb n 1) (World.closes took) took)
          r.frames r.tag
      unfolding began halted RoundSteps.begin RoundSteps.stop
      opening-done z = go (same? i (n - 1)) (same? n 1)
        where
          d : World.Rounds
          d = World.opens c

          first : Now (round_of Counting 0 note) g.agreed (World.took_more d.opened (length (G.to i)) d) began
          first = RoundChains.open-now n some M equal w k rs times i inside h idles all note a.outstanding z

          go : Same i (n - 1) → Same n 1
              → Done (begun g) (let took = World.took_more d.opened (length (begun g).frames) d in cond (eqb n 1) (World.closes took)
              took) r.frames r.tag
          go (same l e) (same m f) =
              let b = took-none d.opened (length (G.to i)) d (ap length (tells_none l)) first in
              rw f
              (subst (λ x. Done x (World.closes (World.took_more d.opened (length x.frames) d)) r.frames r.tag) (sym (begun-last a l))
              (subst (λ y. Done (finished (value_at note g) g) (World.closes (World.took_more d.opened (length (finished (value_at note g)
              g).frames) d)) y r.tag) (halted-frames l b)
              (closing-done a (halted-now l b) (halted-status l b) (halted-all l b) (value_at note g) (halted-mark l b) z)))
          go (same l e) (other m f) = absurd (omega arith)
          go (other l e) (same m f) = absurd (omega arith)
          go (other l e) (other m f) =
              rw f
              (subst (λ x. Done x (World.took_more d.opened (length x.frames) d) r.frames r.tag) (sym (begun-counting a l))
              (record {
                after = began;
                now = rw (length-map, to_is a) first;
                frames = ap (λ f. r.frames ++ f) (sym (starts-written a r.tag 0));
              }))

    -- The start call, which is accepted at gateway 0 in no open round.
    pub start-done : {g : Gateway} {c : World.Rounds} {r : RoundSteps.Rounds} → Called g → Now g.round g.agreed c r → i ≡ 0 → is_idle
        g.round.phase ≡ true
        → Done (begun g)
        (let took = World.took_more (World.opens c).opened (length (begun g).frames) (World.opens c) in cond (eqb n 1) (World.closes took) took)
        r.frames r.tag
    start-done {g} {c} {r} a h z f =
        opening-done a h (idles (RoundChains.here n some M equal w k rs times i inside h)) none-heard z
      where
        idles : StandingAt G r.status r.mark r.arrived i g.round → r.status i ≡ RoundSteps.idle
        idles (is-idle e s b) = s
        idles (is-finished e s b) = absurd (h.unfinished (omega (arith, ap r.status z)))
        idles (is-counting e s b v) = absurd (true≢false (sym f ∙ ap is_idle e))
        idles (is-stopped e s b v) = absurd (true≢false (sym f ∙ ap is_idle e))

        none-heard : (j : ℕ) → Arcs.Arc G j i → r.arrived j i ≡ 1
        none-heard j x = absurd (omega (arith, (G.upward j i x).0))

    -- an effect that writes nothing
    silent-done : (g : Gateway) {rd : Round} {c : World.Rounds} {r : RoundSteps.Rounds} → Now rd g.agreed c r → (t : ℕ) → Done (silent rd g) c r.frames t
    unfolding rounds_of
    silent-done g {r = r} h t = record { after = r; now = h; frames = sym (append-nil r.frames) }

    -- Taking a Start that is under way.
    module _ {g : Gateway} {c : World.Rounds} {r : RoundSteps.Rounds} (a : Called g) (h : Now g.round g.agreed c r)
        (j t : ℕ) (rest : List RoundFrame) (x : Insert (start j i t) rest r.frames) where
      abbrev pub heard : List ℕ
      heard = from g.settings.n g.settings.own

      abbrev pub arrivals : ℕ
      arrivals = g.round.arrived + bit_of j heard

      told : RoundSteps.Rounds
      told = RoundSteps.hear j i rest r

      told-now : Now (round_of Idle arrivals g.round.note) g.agreed c told
      unfolding told
      told-now = rw (from_is a) (RoundChains.hear-now n some M equal w k rs times i inside h j t rest x)

      pub start-taken : Done (one_start (all_bits heard) arrivals g) (World.took_more c.opened (length (one_start (all_bits heard) arrivals
          g).frames) c) rest r.tag
      unfolding told RoundSteps.hear
      start-taken =
          go (in-turn G _ _ _ r (RoundChains.sound n some M equal w k rs times i inside h) (start j i t) rest x)
          (RoundChains.here n some M equal w k rs times i inside told-now)
        where
          all_of : All (λ y. start_in G told.arrived i y ≡ true) (G.from i) → (y : ℕ) → Arcs.Arc G y i → told.arrived y i ≡ 1
          all_of b y c = eqb→eq (told.arrived y i) 1 (rw (all_from G i b y c) tt)

          standing : r.status i ≡ RoundSteps.idle → j < i → arrivals ≡ start_bits G told.arrived i → AllIn (start_in G told.arrived i) (G.from i)
              → Done (one_start (all_bits heard) arrivals g) (World.took_more c.opened (length (one_start (all_bits heard) arrivals g).frames) c) rest r.tag
          standing s l b (all_in y e f) =
              let test : eqb arrivals (all_bits heard) ≡ true = equal-test arrivals (all_bits heard) (b ∙ e ∙ ap all_bits (sym (from_is a))) in
              subst (λ e. Done e (World.took_more c.opened (length e.frames) c) rest r.tag) (sym (all-heard heard arrivals g test))
              (begun-done a told-now s (all_of y) (omega arith))
          standing s l b (not-all e f) =
              let test : eqb arrivals (all_bits heard) ≡ false = unequal-test arrivals (all_bits heard) (λ q. omega (arith, ap all_bits (from_is a))) in
              subst (λ e. Done e (World.took_more c.opened (length e.frames) c) rest r.tag) (sym (not-all-heard heard arrivals g test))
              (silent-done g (none-took c.opened 0 c refl told-now) r.tag)

          go : RoundSteps.InTurn G r (start j i t) → StandingAt G told.status told.mark told.arrived i (round_of Idle arrivals g.round.note)
              → Done (one_start (all_bits heard) arrivals g) (World.took_more c.opened (length (one_start (all_bits heard) arrivals g).frames) c) rest r.tag
          go (RoundSteps.start-in-turn y s z e) (is-idle d q b) = standing s (G.upward j i y).0 b (all-in? (start_in G told.arrived i) (G.from i))
          go (RoundSteps.start-in-turn y s z e) (is-finished d q b) = absurd (omega arith)
          go (RoundSteps.start-in-turn y s z e) (is-counting d q b v) = absurd (omega arith)
          go (RoundSteps.start-in-turn y s z e) (is-stopped d q b v) = absurd (omega arith)

    -- Taking an Lvt at a gateway that has stopped, with that value before it.
    module _ {g : Gateway} {c : World.Rounds} {r : RoundSteps.Rounds} (a : Called g) (value : ℕ)
        (h : Now (round_of Stopped g.round.arrived value) g.agreed c r) (s : r.status i ≡ RoundSteps.stopped)
        (j t v : ℕ) (rest : List RoundFrame) (x : Insert (lvt j i t v) rest r.frames) where
      abbrev pub told-by : List ℕ
      told-by = to g.settings.n g.settings.own

      abbrev pub come-back : ℕ
      come-back = g.round.arrived + bit_of j told-by

      abbrev pub lvt_effect : Effect
      lvt_effect = one_lvt (all_bits told-by) come-back (min value v) g

      lowered : RoundSteps.Rounds
      lowered = RoundSteps.take_lvt j i v rest r

      -- with all Lvts in or not, the counters being d
      module _ {d : World.Rounds} (b : Now (round_of Stopped come-back (min value v)) g.agreed d lowered) where
        all_of : All (λ y. lvt_in G lowered.arrived i y ≡ true) (G.to i) → (y : ℕ) → Arcs.Arc G i y → lowered.arrived i y ≡ 2
        all_of f y q = eqb→eq (lowered.arrived i y) 2 (rw (all-to G i f y q) tt)

        facts : StandingAt G lowered.status lowered.mark lowered.arrived i (round_of Stopped come-back (min value v))
            → (come-back ≡ lvt_bits G lowered.arrived i) × (lowered.mark i ≡ min value v)
        unfolding lowered RoundSteps.take_lvt
        facts (is-idle e q y) = absurd (omega arith)
        facts (is-finished e q y) = absurd (omega arith)
        facts (is-counting e q y z) = absurd (omega arith)
        facts (is-stopped e q y z) = (y, sym z)

        bits : (come-back ≡ lvt_bits G lowered.arrived i) × (lowered.mark i ≡ min value v)
        bits = facts (RoundChains.here n some M equal w k rs times i inside b)

        every : All (λ y. lvt_in G lowered.arrived i y ≡ true) (G.to i) → lvt_bits G lowered.arrived i ≡ all_bits (G.to i) → lvt_effect
            ≡ finished (min value v) g
        every f e =
            all_right told-by come-back (min value v) g
            (equal-test come-back (all_bits told-by) (bits.0 ∙ e ∙ ap all_bits (sym (to_is a))))

        some_left : lvt_bits G lowered.arrived i < all_bits (G.to i) → lvt_effect ≡ silent (round_of Stopped come-back (min value v)) g
        some_left e =
            not-all-back told-by come-back (min value v) g
            (unequal-test come-back (all_bits told-by) (λ q. omega (arith, bits.0, ap all_bits (to_is a))))

      -- at a gateway but 0
      pub lvt-elsewhere : 0 < i → Done lvt_effect (World.took_more c.opened (length lvt_effect.frames) c) rest r.tag
      unfolding lowered RoundSteps.take_lvt
      lvt-elsewhere p = go (all-in? (lvt_in G lowered.arrived i) (G.to i))
        where
          b : Now (round_of Stopped come-back (min value v)) g.agreed c lowered
          b = rw (to_is a) (RoundChains.lvt-now n some M equal w k rs times i inside h j t v rest x s p)

          go : AllIn (lvt_in G lowered.arrived i) (G.to i) → Done lvt_effect (World.took_more c.opened (length lvt_effect.frames) c) rest r.tag
          go (all_in f e q) =
              subst (λ e. Done e (World.took_more c.opened (length e.frames) c) rest r.tag) (sym (every b f e))
              (sending-done a b s (all_of b f) (min value v) (bits b).1 p)
          go (not-all e q) =
              subst (λ e. Done e (World.took_more c.opened (length e.frames) c) rest r.tag) (sym (some_left b e))
              (silent-done g (none-took c.opened 0 c refl b) r.tag)

      -- at gateway 0, where the last one closes the round
      pub lvt-at-0 : i ≡ 0 → Done lvt_effect (World.accepts_lvt n (World.took_more c.opened (length lvt_effect.frames) c)) rest r.tag
      unfolding lowered RoundSteps.take_lvt World.accepts_lvt
      lvt-at-0 z = go (all-in? (lvt_in G lowered.arrived i) (G.to i))
        where
          b : Now (round_of Stopped come-back (min value v)) g.agreed (one_more c) lowered
          b = rw (to_is a) (RoundChains.own-lvt-now n some M equal w k rs times i inside h j t v rest x s z)

          -- how many Lvts gateway 0 has accepted
          accepted : suc c.lvts ≡ how_many (lvt_in G lowered.arrived i) (G.to i)
          accepted =
              b.counted.lvts (RoundChains.open_by n some M equal w k rs times i inside b i inside (omega arith))
              ∙ ap (λ (y : ℕ). how_many (lvt_in G lowered.arrived y) (G.to y)) (sym z)

          awaited : length (to n 0) ≡ length (G.to i)
          awaited = ap length (ap (λ (y : ℕ). to n y) (sym z) ∙ sym (tells_is n some i (omega arith)))

          go : AllIn (lvt_in G lowered.arrived i) (G.to i) → Done lvt_effect (World.accepts_lvt n (World.took_more c.opened (length
              lvt_effect.frames) c)) rest r.tag
          go (all_in f e q) =
              rw (equal-test (suc c.lvts) (length (to n 0)) (omega (arith, accepted, awaited)))
              (subst (λ e. Done e (World.closes (one_more (World.took_more c.opened (length e.frames) c))) rest r.tag) (sym (every b f e))
              (closing-done a b s (all_of b f) (min value v) (bits b).1 z))
          go (not-all e q) =
              rw (unequal-test (suc c.lvts) (length (to n 0)) (λ y. omega (arith, accepted, awaited)))
              (subst (λ e. Done e (one_more (World.took_more c.opened (length e.frames) c)) rest r.tag) (sym (some_left b e))
              (silent-done g (none-took c.opened 0 (one_more c) refl b) r.tag))

    -- Taking an Lvt that is under way: the first one stops the note and takes the value then.
    module _ {g : Gateway} {c : World.Rounds} {r : RoundSteps.Rounds} (a : Called g) (h : Now g.round g.agreed c r)
        (j t v : ℕ) (rest : List RoundFrame) (x : Insert (lvt j i t v) rest r.frames) where
      abbrev pub taken_lvt : ℕ → Effect
      taken_lvt value =
          let told = to g.settings.n g.settings.own in
          one_lvt (all_bits told) (g.round.arrived + bit_of j told) (min value v) g

      abbrev pub lvt_counters : ℕ → World.Rounds
      lvt_counters value =
          let took = World.took_more c.opened (length (taken_lvt value).frames) c in
          cond (eqb i 0) (World.accepts_lvt n took) took

      abbrev LvtDone : ℕ → Type 0
      LvtDone value = Done (taken_lvt value) (lvt_counters value) rest r.tag

      -- with the value before it
      module _ {q : RoundSteps.Rounds} (value : ℕ) (b : Now (round_of Stopped g.round.arrived value) g.agreed c q)
          (s : q.status i ≡ RoundSteps.stopped) (y : Insert (lvt j i t v) rest q.frames) where
        either : Same i 0
            → Done (lvt_effect a value b s j t v rest y)
            (let took = World.took_more c.opened (length (lvt_effect a value b s j t v rest y).frames) c in cond (eqb i 0) (World.accepts_lvt n took) took)
            rest q.tag
        either (same z e) = rw e (lvt-at-0 a value b s j t v rest y z)
        either (other z e) = rw e (lvt-elsewhere a value b s j t v rest y (omega arith))

      pub lvt-taken : Done (taken_lvt (value_in g.round.phase g)) (lvt_counters (value_in g.round.phase g)) rest r.tag
      unfolding RoundSteps.stop
      lvt-taken =
          go (in-turn G _ _ _ r (RoundChains.sound n some M equal w k rs times i inside h) (lvt j i t v) rest x)
          (RoundChains.here n some M equal w k rs times i inside h)
        where
          go : RoundSteps.InTurn G r (lvt j i t v) → StandingAt G r.status r.mark r.arrived i g.round → LvtDone (value_in g.round.phase g)
          go (RoundSteps.lvt-in-turn y l m z f d) (is-idle e s b) = absurd (omega arith)
          go (RoundSteps.lvt-in-turn y l m z f d) (is-finished e s b) = absurd (omega arith)
          go (RoundSteps.lvt-in-turn y l m z f d) (is-counting e s b o) =
              subst LvtDone (sym (ap (λ p. value_in p g) e))
              (either (value_at g.round.note g)
              (RoundChains.stop-now n some M equal w k rs times i inside h (least_queued g.queue) s (RoundSteps.at-an-lvt x) a.queued)
              (change-at i RoundSteps.stopped r.status i refl) x (same? i 0))
          go (RoundSteps.lvt-in-turn y l m z f d) (is-stopped e s b o) =
              subst LvtDone (sym (ap (λ p. value_in p g) e))
              (either g.round.note (subst (λ p. Now (round_of p g.round.arrived g.round.note) g.agreed c r) e h) s x (same? i 0))

    -- Taking an Update that is under way.
    module _ {g : Gateway} {c : World.Rounds} {r : RoundSteps.Rounds} (a : Called g) (h : Now g.round g.agreed c r)
        (j t v : ℕ) (rest : List RoundFrame) (x : Insert (update j i t v) rest r.frames) where
      abbrev pub taken_update : Effect
      taken_update =
          record {
            gateway = with_agreed (max g.agreed v) g;
            frames = frames_in_round Update v g.settings.own (children g.settings.n g.settings.own);
          }

      pub update-taken : Done taken_update (World.accepts_update (suc t) i (World.took_more (suc t) (length taken_update.frames) c)) rest t
      unfolding RoundSteps.take_update
      update-taken =
          record {
            after = RoundSteps.take_update G i t v rest r;
            now = rw (length-map, children-are a) (RoundChains.update-now n some M equal w k rs times i inside h j t v rest x);
            frames = ap (λ l. rest ++ l) (sym (updates-written a t v));
          }
