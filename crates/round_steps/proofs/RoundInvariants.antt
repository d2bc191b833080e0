-- All that holds of a round in every reachable world, kept by every step of the round and of the queues.
use mathlib.Core.List.{List}
use mathlib.Core.Path.{◌≡◌, refl, ap}
use mathlib.Core.Logic.{◌≢◌}
use Prim.Native.Nat.{ℕ, suc, ◌≤◌, ◌<◌, min, max}
use native.Mathlib.Omega.{arith}
use Rattle.routing.specs.Arcs.{children}
use Rattle.lists.specs.Lists.{All, nil, Insert, tally}
use Rattle.lists.specs.Families.{change}
use Rattle.lists.proofs.ListLaws.{all_append, all-taken, all_rest, all-image, all_map, all-every, tally-insert}
use Rattle.lists.proofs.FamilyLaws.{Same, same, other, same?, Changed, at, off, change?, change-at, change-off, sum-constant}
use Rattle.round_steps.specs.Arcs.{Graph, Arc, Child, round_messages}
use Rattle.round_steps.specs.RoundSteps.{idle, counting, stopped, finished, RoundFrame, start, lvt, update, Rounds, opening, noted}
use Rattle.round_steps.specs.RoundSteps.{lower, begin, hear, stop, take_lvt, finish, close, take_update, Stops, as-it-starts, at-an-lvt}
use Rattle.round_steps.specs.RoundSteps.{RoundStep, begins, hears, stops, takes-lvt, finishes, closes, takes-update, Completed, InTurn}
use Rattle.round_steps.specs.RoundSteps.{start-in-turn, lvt-in-turn, update-in-turn}
use Rattle.round_steps.proofs.RoundFrames.{start_on, lvt_on, update_to, both_is}
use Rattle.round_steps.proofs.RoundArcs.{fresh, begun, back, StateOf, ArcStates, arcs-begin, arcs-hear, arcs-stop, arcs-lvt}
use Rattle.round_steps.proofs.RoundArcs.{arcs-finish, arcs-update, arcs-close, arcs-lower, noted_other}
use Rattle.round_steps.proofs.RoundReach.{all-begun, Done, all_done, LastStops, last-stops-begin, last-stops-change}
use Rattle.round_steps.proofs.RoundCarried.{Carried, of-start, of-lvt, of-update, carried_on, change-unfinished, starts-carried}
use Rattle.round_steps.proofs.RoundCarried.{lvts-carried, updates-carried, carried-close}
use Rattle.round_steps.proofs.RoundQueues.{Downward, Reading, Arrives, Sends}
use Rattle.round_steps.proofs.RoundCut.{Cut, UnderMarks, cut-begin, cut-stop, cut-fall, cut-finish, cut-arrives, cut-sends}
use Rattle.round_steps.proofs.RoundFloor.{Floor, OnMarks, marks-change, marks-noted, floor-round, floor-arrives, floor-sends}
use Rattle.round_steps.proofs.RoundCounts.{Counts, spent, spent_by, all-spent, accepted-once, accepted-all, completed-count, counts-begin, counts-hear}
use Rattle.round_steps.proofs.RoundCounts.{counts-stop, counts-lvt, counts-finish, counts-close, counts-update}
use Rattle.round_steps.proofs.ArcLaws.{ChildOf, child, no-child, child?}

-- the hour of an Update has the property
abbrev pub UpdateHour : (ℕ → Type 0) → RoundFrame → Type 0
UpdateHour P (start i j t) = Unit {0}
UpdateHour P (lvt i j t v) = Unit {0}
UpdateHour P (update i j t v) = P v

update-hour : {P Q : ℕ → Type 0} → ((g : ℕ) → P g → Q g) → (f : RoundFrame) → UpdateHour P f → UpdateHour Q f
update-hour on (start i j t) h = tt
update-hour on (lvt i j t v) h = tt
update-hour on (update i j t v) h = on v h

-- a maximum is one of the two
max-either : (P : ℕ → Type 0) (a b : ℕ) → P a → P b → P (max a b)
max-either P a b p q = go (max a b) refl (same? (max a b) a)
  where
    go : (m : ℕ) → max a b ≡ m → Same m a → P m
    go m e (same d f) = rw d p
    go m e (other n f) =
        let d : m ≡ b = omega arith in
        rw d q

-- O and W are the bounds of what is outstanding and of what waits at each gateway
pub record RoundSound (G : Graph) (never : ℕ) (O W : ℕ → ℕ → Type 0) (r : Rounds) : Type 0 where
  pub arcs : ArcStates G r.status r.mark r.arrived r.frames
  pub last-stops : LastStops G.last r.status
  pub carried : All (Carried G r.status r.mark r.tag) r.frames
  pub cut : Cut G.last r.status r.mark O W
  -- no mark is above "nothing due"
  pub marks-capped : OnMarks (λ m. m ≤ never) G.last r.status r.mark
  -- each agreed time, and each that an Update under way carries, bounds everything from below
  pub floor : (i : ℕ) → i ≤ G.last → Floor never G.last r.status r.mark O W (r.agreed i)
  pub update-floor : All (UpdateHour (Floor never G.last r.status r.mark O W)) r.frames
  pub counts : Counts G r.status r.frames r.tag r.written r.accepted

-- before the first step all hours are at least 0
pub sound-opening : (G : Graph) (never : ℕ) (O W : ℕ → ℕ → Type 0) → ((j : ℕ) → j ≤ G.last → O j 0) → ((j : ℕ) → j ≤ G.last → W j 0)
    → RoundSound G never O W opening
unfolding opening tally spent_by spent
sound-opening G never O W o w =
    record {
      arcs = λ a b c. fresh (omega arith);
      last-stops = λ i l p. absurd (omega arith);
      carried = nil;
      cut = λ g u j l. record { outstanding = λ p. absurd (omega arith); waiting = λ p. absurd (omega arith) };
      marks-capped = λ j l p. absurd (omega arith);
      floor =
          λ i l. record { capped = omega arith; outstanding = o; waiting = w; marks = λ j m p. absurd (omega arith) };
      update-floor = nil;
      counts =
          record {
            open-round = omega (arith, sum-constant (suc G.last) 0);
            closed-rounds = λ t p. absurd (omega arith);
            later-rounds = λ t p. refl;
            none-accepted = λ t j p. refl;
            accepted-at-0 = λ t p. absurd (omega arith);
            sent-once = λ t i j c. omega arith;
          };
    }

module _ (G : Graph) (never : ℕ) (O W : ℕ → ℕ → Type 0) (down-O : Downward O) (down-W : Downward W)
    (L M : ℕ → ℕ → Type 0) (read-O : Reading never O L) (read-W : Reading never W M)
    (r : Rounds) (s : RoundSound G never O W r) where
  open r use {agreed, status, mark, arrived, frames, tag, written, accepted}

  pub sound-begin : (i v : ℕ) → i ≤ G.last → status i ≡ idle → ((k : ℕ) → Arc G k i → arrived k i ≡ 1) → L i v
      → RoundSound G never O W (begin G i v r)
  unfolding begin
  sound-begin i v l p q x =
      record {
        arcs = arcs-begin G status mark arrived frames s.arcs i v tag p q;
        last-stops = last-stops-begin G.last status s.last-stops i p;
        carried =
            all_append
            (all_map (carried_on G status mark tag st' mk' (change-unfinished G status mark tag i counting v (omega arith))) s.carried)
            (starts-carried G st' mk' tag i);
        cut = cut-begin G.last status mark O W down-O down-W s.cut i v p (read-O.bound i v x);
        marks-capped = marks-change (λ m. m ≤ never) G.last status mark s.marks-capped st' i v (λ m n. read-O.capped i v x) others;
        floor = λ k m. on (agreed k) (s.floor k m);
        update-floor = all_append (all_map (update-hour on) s.update-floor) (all-image (λ j. start i j tag) (all-every (λ j. tt) (G.to i)));
        counts = counts-begin G status frames tag written accepted s.counts i tag l p;
      }
    where
      st' : ℕ → ℕ
      st' = change i counting status

      mk' : ℕ → ℕ
      mk' = change i v mark

      others : (k : ℕ) → i ≢ k → counting ≤ st' k → counting ≤ status k
      others k n m = omega (arith, change-off i counting status k n)

      on : (g : ℕ) → Floor never G.last status mark O W g → Floor never G.last st' mk' O W g
      on g f =
          floor-round never G.last status mark O W O W g f st' mk'
          (marks-change (λ m. g ≤ m) G.last status mark f.marks st' i v
          (λ m n. read-O.greatest i v g x f.capped (f.outstanding i l)) others)

  pub sound-hear : (i j t : ℕ) (rest : List RoundFrame) → Insert (start i j t) rest frames → RoundSound G never O W (hear i j rest r)
  unfolding hear
  sound-hear i j t rest x =
      record {
        arcs = arcs-hear G status mark arrived frames s.arcs i j t rest x;
        last-stops = s.last-stops;
        carried = all_rest x s.carried;
        cut = s.cut;
        marks-capped = s.marks-capped;
        floor = s.floor;
        update-floor = all_rest x s.update-floor;
        counts = counts-hear G status frames tag written accepted s.counts i j t rest x;
      }

  pub sound-stop : (i v : ℕ) → i ≤ G.last → status i ≡ counting → Stops G i r → M i v → RoundSound G never O W (stop i v r)
  unfolding stop
  sound-stop i v l p q x =
      record {
        arcs = arcs-stop G status mark arrived frames s.arcs i v p;
        last-stops = last-stops-change G.last status s.last-stops i stopped (omega arith) (last-stopped q);
        carried =
            all_map (carried_on G status mark tag st' mk' (change-unfinished G status mark tag i stopped m (omega arith))) s.carried;
        cut = cut-stop G.last status mark O W down-O down-W s.cut i v p (read-W.bound i v x);
        marks-capped =
            marks-change (λ n. n ≤ never) G.last status mark s.marks-capped st' i m
            (λ k n. omega (arith, s.marks-capped i l (omega arith))) others;
        floor = λ k n. on (agreed k) (s.floor k n);
        update-floor = all_map (update-hour on) s.update-floor;
        counts = counts-stop G status frames tag written accepted s.counts i l p;
      }
    where
      m : ℕ
      m = min (mark i) v

      st' : ℕ → ℕ
      st' = change i stopped status

      mk' : ℕ → ℕ
      mk' = change i m mark

      last-stopped : Stops G i r → i ≢ G.last → stopped ≤ status G.last
      last-stopped (as-it-starts e) n = absurd (n e)
      last-stopped (at-an-lvt {j = j} y) n =
          let (c, f, e, d) = of-lvt (all-taken y s.carried) in
          s.last-stops j (G.upward i j c).1 (omega arith)

      others : (k : ℕ) → i ≢ k → counting ≤ st' k → counting ≤ status k
      others k n a = omega (arith, change-off i stopped status k n)

      on : (g : ℕ) → Floor never G.last status mark O W g → Floor never G.last st' mk' O W g
      on g f =
          floor-round never G.last status mark O W O W g f st' mk'
          (marks-change (λ n. g ≤ n) G.last status mark f.marks st' i m
          (λ k n. omega (arith, f.marks i l (omega arith), read-W.greatest i v g x f.capped (f.waiting i l))) others)

  pub sound-lvt : (j i t v : ℕ) (rest : List RoundFrame) → status i ≡ stopped → Insert (lvt j i t v) rest frames
      → RoundSound G never O W (take_lvt j i v rest r)
  unfolding take_lvt
  sound-lvt j i t v rest p x =
      let (c, f, e, d) = of-lvt (all-taken x s.carried) in
      go c f e
    where
      m : ℕ
      m = min (mark i) v

      mk' : ℕ → ℕ
      mk' = change i m mark

      on : Arc G i j → status j ≡ finished → v ≡ mark j → (g : ℕ) → Floor never G.last status mark O W g → Floor never G.last status mk' O W g
      on c y e g f =
          floor-round never G.last status mark O W O W g f status mk'
          (marks-change (λ n. g ≤ n) G.last status mark f.marks status i m
          (λ k n. omega (arith, f.marks i k n, f.marks j (G.upward i j c).1 (omega arith))) (λ k n a. a))

      go : Arc G i j → status j ≡ finished → v ≡ mark j → RoundSound G never O W (take_lvt j i v rest r)
      go c y e =
          record {
            arcs = arcs-lvt G status mark arrived frames s.arcs j i t v rest x p e;
            last-stops = s.last-stops;
            carried =
                all_rest x
                (all_map
                (carried_on G status mark tag status mk'
                (λ k q. (q, (change-unfinished G status mark tag i stopped m (omega arith) k q).1)))
                s.carried);
            cut = cut-fall G.last status mark O W down-O down-W s.cut i m (omega arith);
            marks-capped =
                marks-change (λ n. n ≤ never) G.last status mark s.marks-capped status i m
                (λ k n. omega (arith, s.marks-capped i k n)) (λ k n a. a);
            floor = λ k n. on c y e (agreed k) (s.floor k n);
            update-floor = all_rest x (all_map (update-hour (on c y e)) s.update-floor);
            counts = counts-lvt G status frames tag written accepted s.counts j i t v rest x;
          }

  pub sound-finish : (j : ℕ) → j ≤ G.last → status j ≡ stopped → ((k : ℕ) → Arc G j k → arrived j k ≡ 2)
      → RoundSound G never O W (finish G j r)
  unfolding finish
  sound-finish j l p q =
      record {
        arcs = arcs-finish G status mark arrived frames s.arcs j tag (mark j) p q;
        last-stops = last-stops-change G.last status s.last-stops j finished (omega arith) (λ n. s.last-stops j l (omega arith));
        carried =
            all_append (all_map (carried_on G status mark tag st' mark (λ k e. (stays k e (same? j k), refl))) s.carried)
            (lvts-carried G st' mark tag j (change-at j finished status j refl));
        cut = cut-finish G.last status mark O W down-O down-W s.cut j p;
        marks-capped = λ k m n. s.marks-capped k m (begun-before k n (same? j k));
        floor = λ k m. on (agreed k) (s.floor k m);
        update-floor =
            all_append (all_map (update-hour on) s.update-floor) (all-image (λ i. lvt j i tag (mark j)) (all-every (λ i. tt) (G.from j)));
        counts = counts-finish G status frames tag written accepted s.counts j tag (mark j) l p;
      }
    where
      st' : ℕ → ℕ
      st' = change j finished status

      stays : (k : ℕ) → status k ≡ finished → Same j k → st' k ≡ finished
      stays k e (same d f) = change-at j finished status k d
      stays k e (other n f) = omega (arith, change-off j finished status k n)

      begun-before : (k : ℕ) → counting ≤ st' k → Same j k → counting ≤ status k
      begun-before k n (same d f) = omega (arith, ap status d)
      begun-before k n (other m f) = omega (arith, change-off j finished status k m)

      on : (g : ℕ) → Floor never G.last status mark O W g → Floor never G.last st' mark O W g
      on g f =
          floor-round never G.last status mark O W O W g f st' mark (λ k m n. f.marks k m (begun-before k n (same? j k)))

  -- the close: the value of gateway 0 bounds everything outstanding and waiting anywhere
  module _ (p : status 0 ≡ stopped) (q : (k : ℕ) → Arc G 0 k → arrived 0 k ≡ 2) where
    done : (j : ℕ) → j ≤ G.last → Done G status mark arrived frames s.arcs j
    done = all_done G status mark arrived frames s.arcs p q

    -- every other gateway has sent its Lvts
    pub close-finished : (j : ℕ) → 0 < j → j ≤ G.last → status j ≡ finished
    close-finished j n l = (done j l).is-finished n

    has-stopped : (j : ℕ) → j ≤ G.last → Same 0 j → stopped ≤ status j
    has-stopped j l (same e d) = omega (arith, ap status e)
    has-stopped j l (other n d) = omega (arith, (done j l).is-finished (omega arith))

    pub close-floor : Floor never G.last (λ i. idle) mark O W (mark 0)
    close-floor =
        record {
          capped = s.marks-capped 0 (omega arith) (omega arith);
          outstanding = λ j l. (s.cut (mark 0) under j l).outstanding (omega (arith, has-stopped j l (same? 0 j)));
          waiting = λ j l. (s.cut (mark 0) under j l).waiting (has-stopped j l (same? 0 j));
          marks = λ j l n. absurd (omega arith);
        }
      where
        under : UnderMarks G.last status mark (mark 0)
        under j l n = (done j l).not-below

    pub sound-close : RoundSound G never O W (close G r)
    unfolding close
    sound-close =
        record {
          arcs = arcs-close G status mark arrived frames s.arcs tag (mark 0) (children (suc G.last) 0) all_in;
          last-stops = λ i l n. absurd (omega arith);
          carried =
              all_append (carried-close G status mark tag arrived frames s.arcs all_in s.carried)
              (updates-carried G (λ i. idle) mark (suc tag) 0 tag (mark 0) (omega arith));
          cut = λ g u j l. record { outstanding = λ n. absurd (omega arith); waiting = λ n. absurd (omega arith) };
          marks-capped = λ j l n. absurd (omega arith);
          floor = λ k l. kept k l (change? 0 (mark 0) agreed k);
          update-floor =
              all_append (all_map (update-hour on) s.update-floor)
              (all-image (λ k. update 0 k tag (mark 0)) (all-every (λ k. close-floor) (children (suc G.last) 0)));
          counts =
              counts-close G status frames tag written accepted s.counts (mark 0)
              (all-spent G status p close-finished);
        }
      where
        all_in : (a b : ℕ) → Arc G a b → arrived a b ≡ 2
        all_in a b c =
            let (u, v) = G.upward a b c in
            (done a (omega arith)).lvts-in b c

        on : (g : ℕ) → Floor never G.last status mark O W g → Floor never G.last (λ i. idle) mark O W g
        on g f = floor-round never G.last status mark O W O W g f (λ i. idle) mark (λ k l n. absurd (omega arith))

        kept : (k : ℕ) → k ≤ G.last → Changed 0 (mark 0) agreed k
            → Floor never G.last (λ i. idle) mark O W (change 0 (mark 0) agreed k)
        kept k l (at e d) = rw d close-floor
        kept k l (off n d) = rw d (on (agreed k) (s.floor k l))

  pub sound-update : (i j t v : ℕ) (rest : List RoundFrame) → Insert (update i j t v) rest frames
      → RoundSound G never O W (take_update G j t v rest r)
  unfolding take_update
  sound-update i j t v rest x =
      let (c, l) = of-update (all-taken x s.carried) in
      go c l (child? G.last i j)
    where
      new : Floor never G.last status mark O W v
      new = all-taken x s.update-floor

      kept : j ≤ G.last → (k : ℕ) → k ≤ G.last → Changed j (max (agreed j) v) agreed k
          → Floor never G.last status mark O W (change j (max (agreed j) v) agreed k)
      kept b k l (at e d) = rw d (max-either (Floor never G.last status mark O W) (agreed j) v (s.floor j b) new)
      kept b k l (off n d) = rw d (s.floor k l)

      go : Child G.last i j → t < tag → ChildOf G.last i j → RoundSound G never O W (take_update G j t v rest r)
      go c l (no-child y) = absurd (omega arith)
      go c l (child y) =
          record {
            arcs = arcs-update G status mark arrived frames s.arcs i j t v rest (children (suc G.last) j) x;
            last-stops = s.last-stops;
            carried = all_append (all_rest x s.carried) (updates-carried G status mark tag j t v l);
            cut = s.cut;
            marks-capped = s.marks-capped;
            floor = λ k m. kept y.2 k m (change? j (max (agreed j) v) agreed k);
            update-floor =
                all_append (all_rest x s.update-floor)
                (all-image (λ k. update j k t v) (all-every (λ k. new) (children (suc G.last) j)));
            counts = counts-update G status frames tag written accepted s.counts i j t v rest x l c;
          }

  -- every step of the round keeps it
  pub sound-round : {r' : Rounds} → RoundStep G L M r r' → RoundSound G never O W r'
  sound-round (begins i v l p q x) = sound-begin i v l p q x
  sound-round (hears i j t {rest = rest} x) = sound-hear i j t rest x
  sound-round (stops i v l p q x) = sound-stop i v l p q x
  sound-round (takes-lvt j i t v {rest = rest} p x) = sound-lvt j i t v rest p x
  sound-round (finishes j n l p q) = sound-finish j l p q
  sound-round (closes p q) = sound-close p q
  sound-round (takes-update i j t v {rest = rest} x) = sound-update i j t v rest x

  -- no agreed time falls
  pub agreed-rises : {r' : Rounds} → RoundStep G L M r r' → (k : ℕ) → agreed k ≤ r'.agreed k
  unfolding begin hear stop take_lvt finish close take_update
  agreed-rises (begins i v l p q x) k = omega arith
  agreed-rises (hears i j t x) k = omega arith
  agreed-rises (stops i v l p q x) k = omega arith
  agreed-rises (takes-lvt j i t v p x) k = omega arith
  agreed-rises (finishes j n l p q) k = omega arith
  agreed-rises (closes p q) k = go (change? 0 (mark 0) agreed k)
    where
      go : Changed 0 (mark 0) agreed k → agreed k ≤ change 0 (mark 0) agreed k
      go (at e d) = omega (arith, (s.floor 0 (omega arith)).marks 0 (omega arith) (omega arith), ap agreed e)
      go (off n d) = omega arith
  agreed-rises (takes-update i j t v x) k = go (change? j (max (agreed j) v) agreed k)
    where
      go : Changed j (max (agreed j) v) agreed k → agreed k ≤ change j (max (agreed j) v) agreed k
      go (at e d) = omega (arith, ap agreed e)
      go (off n d) = omega arith

module _ (G : Graph) (never : ℕ) (O W : ℕ → ℕ → Type 0) (r : Rounds) (s : RoundSound G never O W r) where
  open r use {agreed, status, mark, arrived, frames, tag, written, accepted}

  -- once one gateway has stopped all have begun
  all-after-stop : (i : ℕ) → i ≤ G.last → stopped ≤ status i → (j : ℕ) → j ≤ G.last → counting ≤ status j
  all-after-stop i l p = all-begun G status mark arrived frames s.arcs (omega (arith, s.last-stops i l p))

  -- something comes to wait at a gateway, or things go
  pub sound-arrives : (O' W' : ℕ → ℕ → Type 0) → Downward O → Downward W → (i : ℕ) → Arrives G.last i O W O' W'
      → RoundSound G never O' W' r
  sound-arrives O' W' down-O down-W i a =
      record {
        arcs = s.arcs;
        last-stops = s.last-stops;
        carried = s.carried;
        cut = cut-arrives G.last status mark O W down-O down-W s.cut all-after-stop O' W' i a;
        marks-capped = s.marks-capped;
        floor = λ k l. on (agreed k) (s.floor k l);
        update-floor = all_map (update-hour on) s.update-floor;
        counts = s.counts;
      }
    where
      on : (g : ℕ) → Floor never G.last status mark O W g → Floor never G.last status mark O' W' g
      on g f = floor-arrives never G.last status mark O W O' W' g f i a

  -- gateway i sends a message or a cancel of hour h
  pub sound-sends : (O' W' : ℕ → ℕ → Type 0) → Downward O → Downward W → (i h : ℕ) → i ≤ G.last → Sends G.last i h O W O' W'
      → RoundSound G never O' W' (lower i h r)
  unfolding lower
  sound-sends O' W' down-O down-W i h l a =
      record {
        arcs = arcs-lower G status mark arrived frames s.arcs i h;
        last-stops = s.last-stops;
        carried = all_map (carried_on G status mark tag status (change i m mark) (λ k e. (e, stays k e (same? i k)))) s.carried;
        cut = cut-sends G.last status mark O W down-O down-W s.cut all-after-stop O' W' i h a;
        marks-capped = marks-noted (λ n. n ≤ never) G.last status mark s.marks-capped i h (λ p q. omega arith);
        floor = λ k p. on (agreed k) (s.floor k p);
        update-floor = all_map (update-hour on) s.update-floor;
        counts = s.counts;
      }
    where
      m : ℕ
      m = noted (status i) (mark i) h

      stays : (k : ℕ) → status k ≡ finished → Same i k → change i m mark k ≡ mark k
      stays k e (same d f) =
          omega (arith, change-at i m mark k d, noted_other (status i) (mark i) h (omega (arith, ap status d)), ap mark d)
      stays k e (other n f) = change-off i m mark k n

      on : (g : ℕ) → Floor never G.last status mark O W g → Floor never G.last status (change i m mark) O' W' g
      on g f = floor-sends never G.last status mark O W O' W' g f i h l a

  -- a completed round wrote two messages an arc and one for each gateway but 0
  pub round-count : (t : ℕ) → Completed G r t → written t ≡ round_messages G
  round-count t c = completed-count G status frames tag written accepted s.counts t c.is-closed c.all-accepted

  -- a closed round is completed where no Update of it is under way
  pub closed-completed : (t : ℕ) → t < tag → ((j : ℕ) → tally (update_to t j) frames ≡ 0) → Completed G r t
  closed-completed t p none =
      record { is-closed = p; all-accepted = λ j n l. accepted-all G status frames tag written accepted s.counts t p none j l }

  -- a frame under way is never out of turn
  pub in-turn : (f : RoundFrame) (rest : List RoundFrame) → Insert f rest frames → InTurn G r f
  unfolding start_on lvt_on update_to
  in-turn (start i j t) rest x =
      let (c, e) = of-start (all-taken x s.carried) in
      go c e (s.arcs i j c)
    where
      under-way : 1 ≤ tally (start_on i j) frames
      under-way = omega (arith, tally-insert (start_on i j) x, both_is i j i j refl refl)

      go : Arc G i j → t ≡ tag → StateOf G status mark arrived frames i j → InTurn G r (start i j t)
      go c e (fresh l) = start-in-turn c (omega arith) (omega arith) e
      go c e (begun l) = absurd (omega (arith, under-way))
      go c e (back l) = absurd (omega (arith, under-way))
  in-turn (lvt j i t v) rest x =
      let (c, f, e, d) = of-lvt (all-taken x s.carried) in
      go c f e d (s.arcs i j c)
    where
      under-way : 1 ≤ tally (lvt_on i j) frames
      under-way = omega (arith, tally-insert (lvt_on i j) x, both_is j i j i refl refl)

      go : Arc G i j → status j ≡ finished → v ≡ mark j → t ≡ tag → StateOf G status mark arrived frames i j → InTurn G r (lvt j i t v)
      go c f e d (fresh l) = absurd (omega (arith, under-way))
      go c f e d (begun l) =
          let (a, b) = G.upward i j c in
          lvt-in-turn {h = v} c (omega arith) (omega arith) (omega arith)
          (omega (arith, (s.floor i (omega arith)).marks j b (omega arith)))
          d
      go c f e d (back l) = absurd (omega (arith, under-way))
  in-turn (update i j t v) rest x =
      let (c, l) = of-update (all-taken x s.carried) in
      update-in-turn c l (omega (arith, once c l (child? G.last i j)))
    where
      under-way : 1 ≤ tally (update_to t j) frames
      under-way = omega (arith, tally-insert (update_to t j) x, both_is t j t j refl refl)

      once : Child G.last i j → t < tag → ChildOf G.last i j → accepted t j ≡ 0
      once c l (no-child y) = absurd (omega arith)
      once c l (child y) =
          omega (
            arith,
            under-way,
            s.counts.sent-once t i j c,
            accepted-once G status frames tag written accepted s.counts t l i (omega arith),
          )
