-- The single queue: a plain machine, fed the settings and opening lists of the N set-ups and nothing more.
use Rattle.std.specs.Prelude.{◌≡◌, ℕ, zero, suc, ◌+◌, ◌-◌, cond, List, [], ◌∷◌, ◌++◌, map, length}
use Rattle.lists.specs.Families.{change, together}
use Rattle.model.specs.Doing.{opening_state, after, sent}
use Rattle.model.specs.declared.Message.{Message}
use Rattle.model.specs.declared.State.{State}
use Rattle.frame.specs.Reasons.{frame_read}
use Rattle.memory.specs.Validity.{later}
use Rattle.memory.specs.Records.{site_of}
use Rattle.gateway.specs.Committing.{record_for}
use Rattle.gateway.specs.SettingUp.{settings_of, cut_frames}
use Rattle.run.specs.Forecast.{SetUpInput, Forecast}

-- the messages of an opening list
unfoldable pub opening_messages : List ℕ → List Message
opening_messages list = map (λ f. (frame_read f).message) (cut_frames (length list) list)

-- Its state: each gateway's stock and counters, one list of messages, and a record for each gateway.
pub record Queue : Type 0 where
  pub states : ℕ → State
  pub list : List Message
  pub records : ℕ → List ℕ

-- at first: the opening stocks, the counters 0, all opening lists together, empty records
unfoldable pub opening_queue : ℕ → (ℕ → SetUpInput) → Queue
opening_queue n setups = record {
  states = λ i. opening_state (setups i).opening.stock;
  list = together n (λ i. opening_messages (setups i).list);
  records = λ i. [];
}

-- the first of m and l in event order, and m and l without it
unfoldable pub earliest : Message → List Message → Message
earliest m [] = m
earliest m (x ∷ l) = let e = earliest x l in cond (later m e) e m

unfoldable pub others : Message → List Message → List Message
others m [] = []
others m (x ∷ l) = let rest = m ∷ others x l in cond (later m (earliest x l)) rest (x ∷ l)

-- the gateway in its to does m; what is sent, never past H, joins the list; frame and state go to the end of its record
unfoldable pub do_one : (ℕ → SetUpInput) → Message → List Message → Queue → Queue
do_one setups m rest q =
    let i = m.to in
    let s = after (q.states i) m.kind in
    record {
      states = change i s q.states;
      list = rest ++ sent (site_of (settings_of (setups i).opening)) (q.states i) m;
      records = change i (q.records i ++ record_for m s) q.records;
    }

-- a step takes the first message in event order out of the list; with the list empty it has ended
unfoldable pub step_on : (ℕ → SetUpInput) → Queue → List Message → Queue
step_on setups q [] = q
step_on setups q (m ∷ l) = do_one setups (earliest m l) (others m l) q

unfoldable pub steps : (ℕ → SetUpInput) → ℕ → Queue → Queue
steps setups zero q = q
steps setups (suc turns) q = steps setups turns (step_on setups q q.list)

-- steps enough to empty the list: each message counts the hours that are left to it, and what it sends is later
unfoldable pub turns_for : ℕ → List Message → ℕ
turns_for last [] = 0
turns_for last (m ∷ l) = suc (last - m.hour) + turns_for last l

-- gateway i's whole record
unfoldable pub whole_record : ℕ → ℕ → (ℕ → SetUpInput) → ℕ → List ℕ
whole_record n last setups i =
    let q = opening_queue n setups in
    (steps setups (turns_for last q.list) q).records i

-- With the list empty it ends, and it always does: those steps leave it empty.
abbrev pub SingleQueueEnds : Type 0
SingleQueueEnds =
    (n last : ℕ) (setups : ℕ → SetUpInput) (lent : ℕ → List ℕ) → Forecast n last setups lent
    → let q = opening_queue n setups in
    (steps setups (turns_for last q.list) q).list ≡ []
