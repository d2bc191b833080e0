-- The counts: what the open round and each closed round wrote, and no Update accepted twice.
use mathlib.Core.List.{List, ◌++◌, map}
use mathlib.Core.Path.{◌≡◌, refl, ap}
use mathlib.Core.Logic.{◌≢◌}
use Prim.Native.Nat.{ℕ, zero, suc, ◌+◌, ◌*◌, ◌≤◌, ◌<◌}
use native.Mathlib.Omega.{arith}
use lib.ListN.{length}
use Rattle.routing.specs.Arcs.{children}
use Rattle.lists.specs.Lists.{Insert, tally}
use Rattle.lists.specs.Families.{change, put, sum}
use Rattle.lists.proofs.ListLaws.{tally-append, tally-insert}
use Rattle.lists.proofs.FamilyLaws.{Same, same, other, same?, change-at, change-off, put-at, put-off, row_at, row-off, sum-agree, sum-add}
use Rattle.lists.proofs.FamilyLaws.{sum-change, sum-constant}
use Rattle.round_steps.specs.Arcs.{Graph, Child, times, arc_count, round_messages}
use Rattle.round_steps.specs.RoundSteps.{idle, counting, stopped, finished, RoundFrame, start, lvt, update, raise}
use Rattle.round_steps.proofs.RoundFrames.{both, both_is, both-not, update_to, sent-first, sent-not-first, sent-none}
use Rattle.round_steps.proofs.ArcLaws.{ChildOf, child, no-child, child?, from-parents, all-children, arcs-at-receivers, none-to-0}

-- what a gateway of a status has written in the open round: nothing, its Starts, its Starts and Lvts
unfoldable pub spent : ℕ → ℕ → ℕ → ℕ
spent zero starts lvts = 0
spent (suc zero) starts lvts = starts
spent (suc (suc zero)) starts lvts = starts
spent (suc (suc (suc s))) starts lvts = starts + lvts

unfoldable pub spent_by : Graph → (ℕ → ℕ) → ℕ → ℕ
spent_by G st j = spent (st j) (length (G.to j)) (length (G.from j))

-- the Updates that gateway j sends on, if it took one
unfoldable pub relayed_by : Graph → (ℕ → ℕ) → ℕ → ℕ
relayed_by G accepted j = accepted j * length (children (suc G.last) j)

pub record Counts (G : Graph) (st : ℕ → ℕ) (fr : List RoundFrame) (tag : ℕ) (written : ℕ → ℕ) (accepted : ℕ → ℕ → ℕ) : Type 0 where
  pub open-round : written tag ≡ sum (suc G.last) (spent_by G st)
  pub closed-rounds : (t : ℕ) → t < tag → written t ≡ 2 * arc_count G + sum (suc G.last) (relayed_by G (accepted t))
  pub later-rounds : (t : ℕ) → tag < t → written t ≡ 0
  pub none-accepted : (t j : ℕ) → tag ≤ t → accepted t j ≡ 0
  pub accepted-at-0 : (t : ℕ) → t < tag → accepted t 0 ≡ 1
  -- what a gateway accepted of a round's Update, each child was sent once
  pub sent-once : (t i j : ℕ) → Child G.last i j → tally (update_to t j) fr + accepted t j ≡ accepted t i

-- at the close every gateway has written its Starts and its Lvts, of which 0 has none
pub all-spent : (G : Graph) (st : ℕ → ℕ) → st 0 ≡ stopped → ((j : ℕ) → 0 < j → j ≤ G.last → st j ≡ finished)
    → sum (suc G.last) (spent_by G st) ≡ 2 * arc_count G
unfolding arc_count spent_by spent
all-spent G st p q =
    omega (
      arith,
      sum-agree (suc G.last) (spent_by G st) (λ j. length (G.to j) + length (G.from j)) (λ j l. go j (omega arith) (same? 0 j)),
      sum-add (suc G.last) (λ j. length (G.to j)) (λ j. length (G.from j)),
      arcs-at-receivers G,
    )
  where
    go : (j : ℕ) → j ≤ G.last → Same 0 j → spent_by G st j ≡ length (G.to j) + length (G.from j)
    go j l (same e d) = rw (← e, p) (omega (arith, none-to-0 G))
    go j l (other n d) = rw (q j (omega arith) l)

-- no Update is accepted twice
module _ (G : Graph) (st : ℕ → ℕ) (fr : List RoundFrame) (tag : ℕ) (written : ℕ → ℕ) (accepted : ℕ → ℕ → ℕ)
    (h : Counts G st fr tag written accepted) where
  pub accepted-once : (t : ℕ) → t < tag → (j : ℕ) → j ≤ G.last → accepted t j ≤ 1
  accepted-once t p =
      from-parents G.last (λ j. accepted t j ≤ 1) (omega (arith, h.accepted-at-0 t p)) (λ i j c a. omega (arith, h.sent-once t i j c))

  -- and each is accepted where none is under way
  pub accepted-all : (t : ℕ) → t < tag → ((j : ℕ) → tally (update_to t j) fr ≡ 0) → (j : ℕ) → j ≤ G.last → 1 ≤ accepted t j
  accepted-all t p none =
      from-parents G.last (λ j. 1 ≤ accepted t j) (omega (arith, h.accepted-at-0 t p)) (λ i j c a. omega (arith, h.sent-once t i j c, none j))

  -- a completed round wrote two messages an arc and one for each gateway but 0
  pub completed-count : (t : ℕ) → t < tag → ((j : ℕ) → 0 < j → j ≤ G.last → 1 ≤ accepted t j) → written t ≡ round_messages G
  unfolding round_messages relayed_by
  completed-count t p q =
      omega (
        arith,
        h.closed-rounds t p,
        all-children G.last,
        sum-agree (suc G.last) (relayed_by G (accepted t)) (λ j. length (children (suc G.last) j)) (λ j l. rw (one_each j (omega arith)
            (same? 0 j)) (omega arith)),
      )
    where
      one_each : (j : ℕ) → j ≤ G.last → Same 0 j → accepted t j ≡ 1
      one_each j l (same e d) = omega (arith, h.accepted-at-0 t p, ap (accepted t) e)
      one_each j l (other n d) = omega (arith, q j (omega arith) l, accepted-once t p j l)

  -- gateway i comes to status s
  spent-change : (i s : ℕ) → i ≤ G.last
      → sum (suc G.last) (spent_by G (change i s st)) + spent_by G st i
      ≡ sum (suc G.last) (spent_by G st) + spent s (length (G.to i)) (length (G.from i))
  unfolding spent_by
  spent-change i s l = sum-change (suc G.last) i s st (λ k x. spent x (length (G.to k)) (length (G.from k))) (omega arith)

  -- a step that writes nothing and takes no Update: the frames left are as many Updates, the sum is the same
  counts-quiet : (st' : ℕ → ℕ) (fr' : List RoundFrame) → sum (suc G.last) (spent_by G st') ≡ sum (suc G.last) (spent_by G st)
      → ((t j : ℕ) → tally (update_to t j) fr' ≡ tally (update_to t j) fr)
      → Counts G st' fr' tag written accepted
  counts-quiet st' fr' e f =
      record {
        open-round = omega (arith, h.open-round);
        closed-rounds = h.closed-rounds;
        later-rounds = h.later-rounds;
        none-accepted = h.none-accepted;
        accepted-at-0 = h.accepted-at-0;
        sent-once = λ t i j c. omega (arith, h.sent-once t i j c, f t j);
      }

  pub counts-hear : (i j t : ℕ) (rest : List RoundFrame) → Insert (start i j t) rest fr → Counts G st rest tag written accepted
  unfolding update_to
  counts-hear i j t rest x = counts-quiet st rest refl (λ s k. omega (arith, tally-insert (update_to s k) x))

  pub counts-lvt : (j i t v : ℕ) (rest : List RoundFrame) → Insert (lvt j i t v) rest fr → Counts G st rest tag written accepted
  unfolding update_to
  counts-lvt j i t v rest x = counts-quiet st rest refl (λ s k. omega (arith, tally-insert (update_to s k) x))

  pub counts-stop : (i : ℕ) → i ≤ G.last → st i ≡ counting → Counts G (change i stopped st) fr tag written accepted
  unfolding spent spent_by
  counts-stop i l p = counts-quiet (change i stopped st) fr (omega (arith, spent-change i stopped l, before)) (λ t j. refl)
    where
      before : spent_by G st i ≡ spent stopped (length (G.to i)) (length (G.from i))
      before = rw p

  -- gateway i comes to status s, and writes what that status adds
  counts-write : (i s n : ℕ) (f : ℕ → RoundFrame) (l : List ℕ) → i ≤ G.last
      → spent_by G st i + n ≡ spent s (length (G.to i)) (length (G.from i))
      → ((t j k : ℕ) → update_to t j (f k) ≡ 0)
      → Counts G (change i s st) (fr ++ map f l) tag (raise tag n written) accepted
  unfolding raise
  counts-write i s n f l p e z =
      record {
        open-round = omega (arith, h.open-round, spent-change i s p, change-at tag (written tag + n) written tag refl);
        closed-rounds = λ t q. omega (arith, h.closed-rounds t q, change-off tag (written tag + n) written t (omega arith));
        later-rounds = λ t q. omega (arith, h.later-rounds t q, change-off tag (written tag + n) written t (omega arith));
        none-accepted = h.none-accepted;
        accepted-at-0 = h.accepted-at-0;
        sent-once =
            λ t a b c.
            omega (
              arith,
              h.sent-once t a b c,
              tally-append (update_to t b) fr (map f l),
              sent-none (update_to t b) f l (z t b),
            );
      }

  pub counts-begin : (i t : ℕ) → i ≤ G.last → st i ≡ idle
      → Counts G (change i counting st) (fr ++ map (λ j. start i j t) (G.to i)) tag (raise tag (length (G.to i)) written) accepted
  unfolding update_to spent spent_by
  counts-begin i t l p = counts-write i counting (length (G.to i)) (λ j. start i j t) (G.to i) l (rw p (omega arith)) (λ s k j. refl)

  pub counts-finish : (j t v : ℕ) → j ≤ G.last → st j ≡ stopped
      → Counts G (change j finished st) (fr ++ map (λ i. lvt j i t v) (G.from j)) tag (raise tag (length (G.from j)) written) accepted
  unfolding update_to spent spent_by
  counts-finish j t v l p = counts-write j finished (length (G.from j)) (λ i. lvt j i t v) (G.from j) l (rw p (omega arith)) (λ s k i. refl)

  -- a gateway that takes an Update sends it to each of its children, and to no others
  to-child : (i j : ℕ) → Child G.last i j → times j (children (suc G.last) i) ≡ 1
  to-child i j c = go (child? G.last i j)
    where
      go : ChildOf G.last i j → times j (children (suc G.last) i) ≡ 1
      go (child x) = omega arith
      go (no-child x) = omega arith

  to-other : (i k j : ℕ) → Child G.last i j → k ≢ i → times j (children (suc G.last) k) ≡ 0
  to-other i k j c n = go (child? G.last i j) (child? G.last k j)
    where
      go : ChildOf G.last i j → ChildOf G.last k j → times j (children (suc G.last) k) ≡ 0
      go x (no-child y) = y
      go (no-child x) (child y) = absurd (omega arith)
      go (child x) (child y) = absurd (n (omega arith))

  -- gateway 0 closes the round, when all have written all
  module _ (v : ℕ) (all : sum (suc G.last) (spent_by G st) ≡ 2 * arc_count G) where
    closing : List RoundFrame
    closing = map (λ k. update 0 k tag v) (children (suc G.last) 0)

    closed-sent-once : (t i j : ℕ) → Child G.last i j
        → tally (update_to t j) (fr ++ closing) + put tag 0 1 accepted t j ≡ put tag 0 1 accepted t i
    unfolding update_to closing
    closed-sent-once t i j c = go (same? tag t) (same? 0 i) (child? G.last i j)
      where
        more : tally (update_to t j) (fr ++ closing) ≡ tally (update_to t j) fr + tally (update_to t j) closing
        more = tally-append (update_to t j) fr closing

        to_j : tag ≡ t → tally (update_to t j) closing ≡ times j (children (suc G.last) 0)
        to_j e = sent-first update_to (λ k. update 0 k tag v) tag (λ a b k. refl) t j (children (suc G.last) 0) e

        go : Same tag t → Same 0 i → ChildOf G.last i j
            → tally (update_to t j) (fr ++ closing) + put tag 0 1 accepted t j ≡ put tag 0 1 accepted t i
        go x y (no-child z) = absurd (omega arith)
        go (same e d) (same f b) (child z) =
            omega (
              arith,
              more,
              to_j e,
              ap (λ k. times j (children (suc G.last) k)) f,
              put-at tag 0 1 accepted t i e f,
              put-off tag 0 1 accepted t j (λ p. omega arith),
              h.sent-once t i j c,
              h.none-accepted t i (omega arith),
            )
        go (same e d) (other n b) (child z) =
            omega (
              arith,
              more,
              to_j e,
              to-other i 0 j c n,
              put-off tag 0 1 accepted t i (λ p. n),
              put-off tag 0 1 accepted t j (λ p. omega arith),
              h.sent-once t i j c,
            )
        go (other n d) y (child z) =
            omega (
              arith,
              more,
              sent-not-first update_to (λ k. update 0 k tag v) tag (λ a b k. refl) t j (children (suc G.last) 0) n,
              put-off tag 0 1 accepted t i (λ p. absurd (n p)),
              put-off tag 0 1 accepted t j (λ p. absurd (n p)),
              h.sent-once t i j c,
            )

    closed-relays : (t : ℕ) → t < suc tag → Same tag t
        → raise tag (length (children (suc G.last) 0)) written t
        ≡ 2 * arc_count G + sum (suc G.last) (relayed_by G (put tag 0 1 accepted t))
    unfolding raise relayed_by
    closed-relays t q (same e d) =
        omega (
          arith,
          all,
          h.open-round,
          change-at tag (written tag + length (children (suc G.last) 0)) written t e,
          ap (λ row. sum (suc G.last) (relayed_by G row)) (row_at tag 0 1 accepted t e),
          sum-change (suc G.last) 0 1 (accepted tag) (λ k x. x * length (children (suc G.last) k)) (omega arith),
          sum-agree (suc G.last) (relayed_by G (accepted tag)) (λ k. 0) (λ k l. none k),
          sum-constant (suc G.last) 0,
          none 0,
        )
      where
        none : (k : ℕ) → accepted tag k * length (children (suc G.last) k) ≡ 0
        none k = rw (h.none-accepted tag k (omega arith)) (omega arith)
    closed-relays t q (other n d) =
        omega (
          arith,
          h.closed-rounds t (omega arith),
          change-off tag (written tag + length (children (suc G.last) 0)) written t n,
          ap (λ row. sum (suc G.last) (relayed_by G row)) (row-off tag 0 1 accepted t n),
        )

    pub counts-close : Counts G (λ i. idle) (fr ++ map (λ k. update 0 k tag v) (children (suc G.last) 0)) (suc tag)
        (raise tag (length (children (suc G.last) 0)) written) (put tag 0 1 accepted)
    unfolding raise closing spent_by spent
    counts-close =
        record {
          open-round =
              omega (
                arith,
                h.later-rounds (suc tag) (omega arith),
                change-off tag (written tag + length (children (suc G.last) 0)) written (suc tag) (omega arith),
                sum-constant (suc G.last) 0,
              );
          closed-rounds = λ t q. closed-relays t q (same? tag t);
          later-rounds =
              λ t q.
              omega (
                arith,
                h.later-rounds t (omega arith),
                change-off tag (written tag + length (children (suc G.last) 0)) written t (omega arith),
              );
          none-accepted =
              λ t j q. omega (arith, h.none-accepted t j (omega arith), put-off tag 0 1 accepted t j (λ p. absurd (omega arith)));
          accepted-at-0 = λ t q. at-0 t q (same? tag t);
          sent-once = closed-sent-once;
        }
      where
        at-0 : (t : ℕ) → t < suc tag → Same tag t → put tag 0 1 accepted t 0 ≡ 1
        at-0 t q (same e d) = put-at tag 0 1 accepted t 0 e refl
        at-0 t q (other n d) = omega (arith, h.accepted-at-0 t (omega arith), put-off tag 0 1 accepted t 0 (λ p. absurd (n p)))

  -- gateway j takes an Update of round s from i and relays it
  module _ (i j s v : ℕ) (rest : List RoundFrame) (x : Insert (update i j s v) rest fr) (q : s < tag) (c : Child G.last i j) where
    relayed : List RoundFrame
    relayed = map (λ k. update j k s v) (children (suc G.last) j)

    accepted' : ℕ → ℕ → ℕ
    accepted' = put s j (suc (accepted s j)) accepted

    update-sent-once : (t a b : ℕ) → Child G.last a b
        → tally (update_to t b) (rest ++ relayed) + accepted' t b ≡ accepted' t a
    unfolding update_to relayed accepted'
    update-sent-once t a b k = go (same? s t) (same? j b) (same? j a) (child? G.last a b)
      where
        more : tally (update_to t b) (rest ++ relayed) ≡ tally (update_to t b) rest + tally (update_to t b) relayed
        more = tally-append (update_to t b) rest relayed

        taken : tally (update_to t b) fr ≡ both t b s j + tally (update_to t b) rest
        taken = tally-insert (update_to t b) x

        to-b : s ≡ t → tally (update_to t b) relayed ≡ times b (children (suc G.last) j)
        to-b e = sent-first update_to (λ k. update j k s v) s (λ y z k. refl) t b (children (suc G.last) j) e

        go : Same s t → Same j b → Same j a → ChildOf G.last a b
            → tally (update_to t b) (rest ++ relayed) + accepted' t b ≡ accepted' t a
        go y z w (no-child m) = absurd (omega arith)
        go (same p y) (same e d) (same f g) (child m) = absurd (omega arith)
        go (other n y) z w (child m) =
            omega (
              arith,
              more,
              taken,
              h.sent-once t a b k,
              both-not t b s j (λ p. absurd (n p)),
              sent-not-first update_to (λ k. update j k s v) s (λ y z k. refl) t b (children (suc G.last) j) n,
              put-off s j (suc (accepted s j)) accepted t a (λ p. absurd (n p)),
              put-off s j (suc (accepted s j)) accepted t b (λ p. absurd (n p)),
            )
        go (same e y) (same f z) (other n w) (child m) =
            omega (
              arith,
              more,
              taken,
              h.sent-once t a b k,
              to-b e,
              to-other a j b k n,
              both_is t b s j e f,
              put-at s j (suc (accepted s j)) accepted t b e f,
              put-off s j (suc (accepted s j)) accepted t a (λ p. n),
              ap (λ u. accepted u j) e,
              ap (accepted t) f,
            )
        go (same e y) (other n z) (same f w) (child m) =
            omega (
              arith,
              more,
              taken,
              h.sent-once t a b k,
              to-b e,
              to-child a b k,
              ap (λ u. times b (children (suc G.last) u)) f,
              both-not t b s j (λ p. n),
              put-at s j (suc (accepted s j)) accepted t a e f,
              put-off s j (suc (accepted s j)) accepted t b (λ p. n),
              ap (λ u. accepted u j) e,
              ap (accepted t) f,
            )
        go (same e y) (other n z) (other o w) (child m) =
            omega (
              arith,
              more,
              taken,
              h.sent-once t a b k,
              to-b e,
              to-other a j b k o,
              both-not t b s j (λ p. n),
              put-off s j (suc (accepted s j)) accepted t a (λ p. o),
              put-off s j (suc (accepted s j)) accepted t b (λ p. n),
            )

    bounds : ChildOf G.last i j → (0 < j) × (j ≤ G.last)
    bounds (child m) = omega arith
    bounds (no-child m) = absurd (omega arith)

    update-relays : (t : ℕ) → t < tag → Same s t
        → raise s (length (children (suc G.last) j)) written t ≡ 2 * arc_count G + sum (suc G.last) (relayed_by G (accepted' t))
    unfolding raise relayed_by accepted'
    update-relays t p (same e d) =
        omega (
          arith,
          h.closed-rounds s q,
          change-at s (written s + length (children (suc G.last) j)) written t e,
          ap (λ row. sum (suc G.last) (relayed_by G row)) (row_at s j (suc (accepted s j)) accepted t e),
          sum-change (suc G.last) j (suc (accepted s j)) (accepted s) (λ k x. x * length (children (suc G.last) k)) (omega (
            arith,
            (bounds (child? G.last i j)).1,
          )),
        )
    update-relays t p (other n d) =
        omega (
          arith,
          h.closed-rounds t p,
          change-off s (written s + length (children (suc G.last) j)) written t n,
          ap (λ row. sum (suc G.last) (relayed_by G row)) (row-off s j (suc (accepted s j)) accepted t n),
        )

    pub counts-update : Counts G st (rest ++ map (λ k. update j k s v) (children (suc G.last) j)) tag
        (raise s (length (children (suc G.last) j)) written) (put s j (suc (accepted s j)) accepted)
    unfolding raise relayed accepted'
    counts-update =
        record {
          open-round = omega (arith, h.open-round, change-off s (written s + length (children (suc G.last) j)) written tag (omega arith));
          closed-rounds = λ t p. update-relays t p (same? s t);
          later-rounds =
              λ t p. omega (arith, h.later-rounds t p, change-off s (written s + length (children (suc G.last) j)) written t (omega arith));
          none-accepted =
              λ t k p.
              omega (arith, h.none-accepted t k p, put-off s j (suc (accepted s j)) accepted t k (λ e. absurd (omega arith)));
          accepted-at-0 =
              λ t p.
              omega (
                arith,
                h.accepted-at-0 t p,
                put-off s j (suc (accepted s j)) accepted t 0 (λ e f. omega (arith, (bounds (child? G.last i j)).0)),
              );
          sent-once = update-sent-once;
        }
