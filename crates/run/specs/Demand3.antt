-- Demand 3: one claim about every list of calls and every order and delay of the carrier. Its words:
-- "Take N gateways, N from 1 to 255, each number below N set up once, first, with that N and one last hour. For every list of these calls on
-- them (work, take a frame, start a round, commit; refused ones included), after it every gateway's committed record is a beginning of the
-- one that a single queue of all events in order gives it, and the whole where its agreed time is "nothing due" and it has nothing to
-- commit; no gateway's agreed time ever fell, and none is past the hour of an event message or cancel waiting at any gateway or under way;
-- each completed round took exactly two messages an arc and N − 1 more, under 4N. Each call gets the memory that its gateway's last call
-- left, and nobody else writes it meanwhile. This holds whatever order and delay the carrier chooses, if it brings only frames that a
-- gateway wrote for it, each unaltered to its addressee, accepted once at most."
use Rattle.std.specs.Prelude.{◌≡◌, ℕ, ◌+◌, ◌*◌, ◌-◌, ◌≤◌, ◌<◌, true, not, IsOk}
use mathlib.Core.List.{List, ◌++◌, Memᴰ}
use Rattle.lists.specs.Lists.{Beginning}
use Rattle.routing.specs.Arcs.{arc_count}
use Rattle.model.specs.declared.Message.{Message}
use Rattle.frame.specs.Limits.{nothing_due}
use Rattle.frame.specs.Reasons.{reading, frame_read}
use Rattle.memory.specs.Codec.{decode}
use Rattle.gateway.specs.Rounds.{is_idle}
use Rattle.gateway.specs.Calls.{committed, agreed_time}
use Rattle.gateway.specs.Claims.{SoundBytes}
use Rattle.run.specs.Forecast.{SetUpInput, Forecast}
use Rattle.run.specs.SingleQueue.{whole_record}
use Rattle.run.specs.Ledger.{waiting}
use Rattle.run.specs.World.{World, Call, Carried, Rounds, kind_in, opening_world, after_calls, AllAllowed}

-- gateway i's agreed time (GVT)
abbrev pub agreed : World → ℕ → ℕ
agreed w i = (agreed_time (w.memories i)).hour

-- nothing to commit at i: a commit, with some output, would answer 6
abbrev pub NothingToCommit : World → ℕ → Type 0
NothingToCommit w i = (output : List ℕ) × ((committed (w.memories i) output).answer.number ≡ 6)

-- round t is completed: it is closed, and each gateway but 0 has accepted its Update
pub record Completed (n : ℕ) (r : Rounds) (t : ℕ) : Type 0 where
  pub is_closed : r.closed t ≡ true
  pub all_accepted : (i : ℕ) → 0 < i → i < n → r.accepted t i ≡ true

-- What demand 3 claims of the world w to which a list of calls has led.
pub record Claim (n last : ℕ) (setups : ℕ → SetUpInput) (lent : ℕ → List ℕ) (calls : List Call) (w : World) : Type 0 where
  -- each committed record is a beginning of the single queue's
  pub beginning : (i : ℕ) → i < n → Beginning (w.records i) (whole_record n last setups i)
  -- and whole at the end: where nothing is due any more and nothing is left to commit
  pub whole : (i : ℕ) → i < n → agreed w i ≡ nothing_due → NothingToCommit w i → w.records i ≡ whole_record n last setups i
  -- every memory is sound: no call answers 10, and the agreed time is what the memory holds
  pub sound_memories : (i : ℕ) → i < n → SoundBytes (w.memories i)
  -- no agreed time ever fell
  pub never_fell : (earlier later : List Call) → calls ≡ earlier ++ later → (i : ℕ) → i < n
      → agreed (after_calls n (opening_world setups lent) earlier) i ≤ agreed w i
  -- no agreed time is past anything that waits
  pub bound_waiting : (i j : ℕ) → i < n → j < n → (m : Message) → Memᴰ m (waiting (w.ledgers j)) → agreed w i ≤ m.hour
  -- every frame under way is of one of the forms
  pub good_forms : (c : Carried) → Memᴰ c w.under_way → IsOk (reading c.frame)
  -- and no agreed time is past any message, cancel or acknowledgment under way
  pub bound_under_way : (i : ℕ) → i < n → (c : Carried) → Memᴰ c w.under_way → kind_in c.frame < 4
      → agreed w i ≤ (frame_read c.frame).message.hour
  -- gateway 0's phase says whether a round is open
  pub open_round : is_idle (decode (w.memories 0)).round.phase ≡ not w.rounds.open?
  -- each completed round took two messages an arc and N − 1 more, below 4N
  pub rounds : (t : ℕ) → Completed n w.rounds t → w.rounds.took t ≡ 2 * arc_count n + (n - 1)
  pub fewer : (t : ℕ) → Completed n w.rounds t → w.rounds.took t < 4 * n

-- The claim for every forecast, every list of calls and every carrier that keeps to the rules.
abbrev pub Demand3 : Type 0
Demand3 =
    (n last : ℕ) (setups : ℕ → SetUpInput) (lent : ℕ → List ℕ) → Forecast n last setups lent
    → (calls : List Call) → AllAllowed n (opening_world setups lent) calls
    → Claim n last setups lent calls (after_calls n (opening_world setups lent) calls)
