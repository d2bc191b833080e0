-- The rounds: what each gateway knows of the open round, the frames under way, and the steps of a round.
use Rattle.std.specs.Prelude.{List, [], ◌++◌, map, ◌≡◌, ℕ, zero, suc, ◌+◌, ◌≤◌, ◌<◌, min, max, length}
use Rattle.routing.specs.Arcs.{children}
use Rattle.lists.specs.Lists.{Insert}
use Rattle.lists.specs.Families.{change, put}
use Rattle.round_steps.specs.Arcs.{Graph, Arc, Child}

-- A gateway's status in the open round: it has not sent its Starts; it has, and each of its sends lowers its note;
-- it has stopped, and its value is taken; it has sent its Lvts.
abbrev pub idle : ℕ
idle = 0

abbrev pub counting : ℕ
counting = 1

abbrev pub stopped : ℕ
stopped = 2

abbrev pub finished : ℕ
finished = 3

-- A frame of a round, with its sender, its receiver, its round's tag and, but for a Start, an hour.
pub data RoundFrame : Type 0 where
  start : (from to tag : ℕ) → RoundFrame
  lvt : (from to tag hour : ℕ) → RoundFrame
  update : (from to tag hour : ℕ) → RoundFrame

-- The state of the rounds. A gateway's memory has its agreed time, its status (a finished one counts as idle), its mark
-- and what arrived along its arcs. The rest is kept for the statements alone: that a gateway has finished, the tags,
-- what each round wrote, and where its Update was accepted.
pub record Rounds : Type 0 where
  -- each gateway's agreed time
  pub agreed : ℕ → ℕ
  -- each gateway's status in the open round
  pub status : ℕ → ℕ
  -- each gateway's note until it stops, then its value
  pub mark : ℕ → ℕ
  -- what came along the arc from i to j: 0 nothing, 1 the Start to j, 2 the Lvt to i too
  pub arrived : ℕ → ℕ → ℕ
  -- the frames under way, in the order written
  pub frames : List RoundFrame
  -- how many rounds are closed, which is the open round's tag
  pub tag : ℕ
  -- how many frames the round of each tag took so far
  pub written : ℕ → ℕ
  -- how often each round's Update was accepted at each gateway; at 0 it counts as accepted at the close
  pub accepted : ℕ → ℕ → ℕ

-- before the first step
unfoldable pub opening : Rounds
opening =
    record {
      agreed = λ i. 0;
      status = λ i. idle;
      mark = λ i. 0;
      arrived = λ i j. 0;
      frames = [];
      tag = 0;
      written = λ t. 0;
      accepted = λ t j. 0;
    }

-- the family f with n added at i
unfoldable pub raise : ℕ → ℕ → (ℕ → ℕ) → ℕ → ℕ
raise i n f = change i (f i + n) f

-- What a gateway's note or value becomes when it sends a message or cancel of hour h: only a note is lowered.
unfoldable pub noted : ℕ → ℕ → ℕ → ℕ
noted zero m h = m
noted (suc zero) m h = min m h
noted (suc (suc s)) m h = m

-- gateway i sends a plain message or a cancel of hour h
unfoldable pub lower : ℕ → ℕ → Rounds → Rounds
lower i h r =
    record {
      agreed = r.agreed;
      status = r.status;
      mark = change i (noted (r.status i) (r.mark i) h) r.mark;
      arrived = r.arrived;
      frames = r.frames;
      tag = r.tag;
      written = r.written;
      accepted = r.accepted;
    }

-- gateway i notes v and sends its Starts
unfoldable pub begin : Graph → ℕ → ℕ → Rounds → Rounds
begin G i v r =
    record {
      agreed = r.agreed;
      status = change i counting r.status;
      mark = change i v r.mark;
      arrived = r.arrived;
      frames = r.frames ++ map (λ j. start i j r.tag) (G.to i);
      tag = r.tag;
      written = raise r.tag (length (G.to i)) r.written;
      accepted = r.accepted;
    }

-- gateway j takes the Start from i, and `rest` stays under way
unfoldable pub hear : ℕ → ℕ → List RoundFrame → Rounds → Rounds
hear i j rest r =
    record {
      agreed = r.agreed;
      status = r.status;
      mark = r.mark;
      arrived = put i j 1 r.arrived;
      frames = rest;
      tag = r.tag;
      written = r.written;
      accepted = r.accepted;
    }

-- gateway i stops: its value is the lesser of its note and v
unfoldable pub stop : ℕ → ℕ → Rounds → Rounds
stop i v r =
    record {
      agreed = r.agreed;
      status = change i stopped r.status;
      mark = change i (min (r.mark i) v) r.mark;
      arrived = r.arrived;
      frames = r.frames;
      tag = r.tag;
      written = r.written;
      accepted = r.accepted;
    }

-- gateway i takes the Lvt of hour h from j, and `rest` stays under way
unfoldable pub take_lvt : ℕ → ℕ → ℕ → List RoundFrame → Rounds → Rounds
take_lvt j i h rest r =
    record {
      agreed = r.agreed;
      status = r.status;
      mark = change i (min (r.mark i) h) r.mark;
      arrived = put i j 2 r.arrived;
      frames = rest;
      tag = r.tag;
      written = r.written;
      accepted = r.accepted;
    }

-- gateway j sends its Lvts
unfoldable pub finish : Graph → ℕ → Rounds → Rounds
finish G j r =
    record {
      agreed = r.agreed;
      status = change j finished r.status;
      mark = r.mark;
      arrived = r.arrived;
      frames = r.frames ++ map (λ i. lvt j i r.tag (r.mark j)) (G.from j);
      tag = r.tag;
      written = raise r.tag (length (G.from j)) r.written;
      accepted = r.accepted;
    }

-- Gateway 0 closes the round: its value is its agreed time, and its Updates go out. All are ready for the next round:
-- every other gateway has sent its Lvts by then, which is proved, so no status is lost.
unfoldable pub close : Graph → Rounds → Rounds
close G r =
    record {
      agreed = change 0 (r.mark 0) r.agreed;
      status = λ i. idle;
      mark = r.mark;
      arrived = λ i j. 0;
      frames = r.frames ++ map (λ k. update 0 k r.tag (r.mark 0)) (children (suc G.last) 0);
      tag = suc r.tag;
      written = raise r.tag (length (children (suc G.last) 0)) r.written;
      accepted = put r.tag 0 1 r.accepted;
    }

-- gateway j takes an Update of tag t and hour h, keeps the larger time, relays the Update; `rest` stays under way
unfoldable pub take_update : Graph → ℕ → ℕ → ℕ → List RoundFrame → Rounds → Rounds
take_update G j t h rest r =
    record {
      agreed = change j (max (r.agreed j) h) r.agreed;
      status = r.status;
      mark = r.mark;
      arrived = r.arrived;
      frames = rest ++ map (λ k. update j k t h) (children (suc G.last) j);
      tag = r.tag;
      written = raise t (length (children (suc G.last) j)) r.written;
      accepted = put t j (suc (r.accepted t j)) r.accepted;
    }

-- when gateway i stops: the last as it starts, any other when an Lvt has come to it
pub data Stops (G : Graph) (i : ℕ) (r : Rounds) : Type 0 where
  as-it-starts : i ≡ G.last → Stops G i r
  at-an-lvt : {j t h : ℕ} {rest : List RoundFrame} → Insert (lvt j i t h) rest r.frames → Stops G i r

-- The steps of a round. What a gateway reads of its queue enters by two relations: v is the least hour outstanding at
-- i, and v is the least hour of the unprocessed messages and waiting cancels at i.
pub data RoundStep (G : Graph) (LeastOutstanding LeastWaiting : ℕ → ℕ → Type 0) (r : Rounds) : Rounds → Type 0 where
  -- all Starts have come
  begins : (i v : ℕ) → i ≤ G.last → r.status i ≡ idle → ((k : ℕ) → Arc G k i → r.arrived k i ≡ 1)
      → LeastOutstanding i v
      → RoundStep G LeastOutstanding LeastWaiting r (begin G i v r)
  hears : (i j t : ℕ) {rest : List RoundFrame} → Insert (start i j t) rest r.frames
      → RoundStep G LeastOutstanding LeastWaiting r (hear i j rest r)
  stops : (i v : ℕ) → i ≤ G.last → r.status i ≡ counting → Stops G i r → LeastWaiting i v
      → RoundStep G LeastOutstanding LeastWaiting r (stop i v r)
  takes-lvt : (j i t h : ℕ) {rest : List RoundFrame} → r.status i ≡ stopped → Insert (lvt j i t h) rest r.frames
      → RoundStep G LeastOutstanding LeastWaiting r (take_lvt j i h rest r)
  -- all Lvts have come
  finishes : (j : ℕ) → 0 < j → j ≤ G.last → r.status j ≡ stopped → ((k : ℕ) → Arc G j k → r.arrived j k ≡ 2)
      → RoundStep G LeastOutstanding LeastWaiting r (finish G j r)
  closes : r.status 0 ≡ stopped → ((k : ℕ) → Arc G 0 k → r.arrived 0 k ≡ 2)
      → RoundStep G LeastOutstanding LeastWaiting r (close G r)
  takes-update : (i j t h : ℕ) {rest : List RoundFrame} → Insert (update i j t h) rest r.frames
      → RoundStep G LeastOutstanding LeastWaiting r (take_update G j t h rest r)

-- round t is completed: closed, and its Update accepted at each gateway
pub record Completed (G : Graph) (r : Rounds) (t : ℕ) : Type 0 where
  pub is-closed : t < r.tag
  pub all-accepted : (j : ℕ) → 0 < j → j ≤ G.last → 1 ≤ r.accepted t j

-- a frame under way is what its receiver waits for
pub data InTurn (G : Graph) (r : Rounds) : RoundFrame → Type 0 where
  -- its Start along this arc is the first, and the receiver has not begun
  start-in-turn : {i j t : ℕ} → Arc G i j → r.status j ≡ idle → r.arrived i j ≡ 0 → t ≡ r.tag
      → InTurn G r (start i j t)
  -- the receiver has begun and not finished, the Lvt is the first along this arc and not below its agreed time
  lvt-in-turn : {i j t h : ℕ} → Arc G i j → counting ≤ r.status i → r.status i ≤ stopped → r.arrived i j ≡ 1
      → r.agreed i ≤ h
      → t ≡ r.tag
      → InTurn G r (lvt j i t h)
  -- it comes from the parent, of a closed round, and was not accepted before
  update-in-turn : {i j t h : ℕ} → Child G.last i j → t < r.tag → r.accepted t j ≡ 0 → InTurn G r (update i j t h)
