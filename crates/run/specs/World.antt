-- N gateways, what is under way between them, and what each call does to all of it.
use Rattle.std.specs.Prelude.{◌≡◌, ℕ, suc, ◌+◌, ◌<◌, Bool, true, false, cond, ◌&&◌, ◌||◌, List, [], ◌∷◌, ◌++◌, map, eqb, leb, length, take}
use Rattle.lists.specs.Lists.{any, without_first}
use Rattle.lists.specs.Families.{change}
use Rattle.buffer.specs.Slice.{Bytes, same_bytes}
use Rattle.routing.specs.Arcs.{to}
use Rattle.model.specs.Messages.{kind_number}
use Rattle.model.specs.declared.Message.{Message}
use Rattle.frame.specs.Reasons.{frame_read}
use Rattle.frame.specs.declared.Sense.{Sense}
use Rattle.frame.specs.declared.Sense.TheVariants.{Plain, Cancel, Acknowledgment, CancelAcknowledgment}
use Rattle.gateway.specs.SettingUp.{cut_frames}
use Rattle.gateway.specs.Calls.{taken, started, committed, worked_off, set_up}
use Rattle.gateway.specs.declared.Opening.{Opening}
use Rattle.run.specs.Forecast.{SetUpInput}
use Rattle.run.specs.SingleQueue.{opening_messages}
use Rattle.run.specs.Ledger.{Ledger, after_plain, after_cancel, did_some, committed_one}

-- A call of the list: at a gateway, with any output; work with any B, any bytes as a frame.
pub data Call : Type 0 where
  works : (i b : ℕ) (output : List ℕ) → Call
  takes : (i : ℕ) (frame output : List ℕ) → Call
  starts : (i : ℕ) (output : List ℕ) → Call
  commits : (i : ℕ) (output : List ℕ) → Call
  sets_up : (i : ℕ) (opening : Opening) (list : List ℕ) → Call

-- A frame under way: written for the carrier and not yet accepted. The tag tells which round a frame of a round belongs to.
pub record Carried : Type 0 where
  pub frame : List ℕ
  pub tag : ℕ

-- The rounds, counted from 1: how many were opened, whether the last of them is open, the Lvts that gateway 0 accepted in
-- it, how many messages each took, whether each is closed, and whether each gateway accepted its Update.
pub record Rounds : Type 0 where
  pub opened : ℕ
  pub open? : Bool
  pub lvts : ℕ
  pub took : ℕ → ℕ
  pub closed : ℕ → Bool
  pub accepted : ℕ → ℕ → Bool

pub record World : Type 0 where
  pub memories : ℕ → List ℕ
  -- in the order written
  pub under_way : List Carried
  -- the bytes that each gateway's commits wrote, in order
  pub records : ℕ → List ℕ
  pub ledgers : ℕ → Ledger
  pub rounds : Rounds

-- the kind of a frame's message
abbrev pub kind_in : List ℕ → ℕ
kind_in frame = kind_number (frame_read frame).message.kind

-- the frames that a call wrote
abbrev pub frames_in : ℕ → List ℕ → List (List ℕ)
frames_in count output = cut_frames count (take count output)

-- frames put under way behind the others
abbrev pub carry : ℕ → List (List ℕ) → List Carried → List Carried
carry tag frames carried = carried ++ map (λ f. record { frame = f; tag = tag }) frames

-- how many of some frames belong to a round: Updates, and, while it is open, Starts and Lvts
unfoldable pub round_frames : Bool → List (List ℕ) → ℕ
round_frames is_open [] = 0
round_frames is_open (f ∷ fs) = cond (eqb (kind_in f) 6 || (is_open && (eqb (kind_in f) 4 || eqb (kind_in f) 5))) 1 0 + round_frames is_open fs

-- the round of that tag took these frames
abbrev pub took_more : ℕ → ℕ → Rounds → Rounds
took_more tag count r =
    let took = change tag (r.took tag + count) r.took in
    record { opened = r.opened; open? = r.open?; lvts = r.lvts; took = took; closed = r.closed; accepted = r.accepted }

-- the next round is opened
abbrev pub opens : Rounds → Rounds
opens r = record { opened = suc r.opened; open? = true; lvts = 0; took = r.took; closed = r.closed; accepted = r.accepted }

-- the open round is closed
abbrev pub closes : Rounds → Rounds
closes r = record { opened = r.opened; open? = false; lvts = r.lvts; took = r.took; closed = change r.opened true r.closed; accepted = r.accepted }

-- gateway 0 accepted an Lvt: with one from each of its to the round is closed
unfoldable pub accepts_lvt : ℕ → Rounds → Rounds
accepts_lvt n r =
    let more : Rounds = record { opened = r.opened; open? = r.open?; lvts = suc r.lvts; took = r.took; closed = r.closed; accepted = r.accepted } in
    cond (eqb (suc r.lvts) (length (to n 0))) (closes more) more

-- gateway i accepted the Update of that tag
abbrev pub accepts_update : ℕ → ℕ → Rounds → Rounds
accepts_update tag i r =
    let accepted = change tag (change i true (r.accepted tag)) r.accepted in
    record { opened = r.opened; open? = r.open?; lvts = r.lvts; took = r.took; closed = r.closed; accepted = accepted }

-- what an accepted frame does to the ledger
abbrev pub taken_by_sense : Message → Sense → Ledger → Ledger
taken_by_sense m Plain l = cond (leb (kind_number m.kind) 2) (after_plain m l) l
taken_by_sense m Cancel l = after_cancel m l
taken_by_sense m Acknowledgment l = l
taken_by_sense m CancelAcknowledgment l = l

-- equal to a frame
abbrev pub is_frame : List ℕ → Carried → Bool
is_frame frame c = same_bytes frame c.frame

-- the tag of the oldest equal frame under way
unfoldable pub tag_of : List ℕ → List Carried → ℕ
tag_of frame [] = 0
tag_of frame (c ∷ cs) = let rest = tag_of frame cs in cond (is_frame frame c) c.tag rest

-- the world after a frame is accepted at gateway i: of equal ones under way the oldest counts as brought
unfoldable pub after_taking : ℕ → ℕ → List ℕ → List ℕ → List (List ℕ) → World → World
after_taking n i frame memory written w =
    let f = (frame_read frame) in
    let r = w.rounds in
    let is_update = eqb (kind_in frame) 6 in
    let tag = cond is_update (tag_of frame w.under_way) r.opened in
    let counted = took_more tag (round_frames r.open? written) r in
    record {
      memories = change i memory w.memories;
      under_way = carry tag written (without_first (is_frame frame) w.under_way);
      records = w.records;
      ledgers = change i (taken_by_sense f.message f.sense (w.ledgers i)) w.ledgers;
      rounds =
          cond is_update (accepts_update tag i counted) (cond (eqb (kind_in frame) 5 && eqb i 0) (accepts_lvt n counted) counted);
    }

-- the world after the start call is accepted; for one gateway it does the whole round
unfoldable pub after_starting : ℕ → ℕ → List ℕ → List (List ℕ) → World → World
after_starting n i memory written w =
    let r = opens w.rounds in
    let counted = took_more r.opened (round_frames true written) r in
    record {
      memories = change i memory w.memories;
      under_way = carry r.opened written w.under_way;
      records = w.records;
      ledgers = w.ledgers;
      rounds = cond (eqb n 1) (closes counted) counted;
    }

-- the world after work
unfoldable pub after_working : ℕ → ℕ → List ℕ → List (List ℕ) → World → World
after_working i count memory written w = record {
  memories = change i memory w.memories;
  under_way = carry 0 written w.under_way;
  records = w.records;
  ledgers = change i (did_some count (w.ledgers i)) w.ledgers;
  rounds = w.rounds;
}

-- the world after a commit is accepted: what it writes is record and is never carried
unfoldable pub after_committing : ℕ → List ℕ → List ℕ → World → World
after_committing i memory written w = record {
  memories = change i memory w.memories;
  under_way = w.under_way;
  records = change i (w.records i ++ written) w.records;
  ledgers = change i (committed_one (w.ledgers i)) w.ledgers;
  rounds = w.rounds;
}

-- the world in which a call at gateway i left this memory and nothing else
abbrev pub with_memory : ℕ → List ℕ → World → World
with_memory i memory w = record {
  memories = change i memory w.memories;
  under_way = w.under_way;
  records = w.records;
  ledgers = w.ledgers;
  rounds = w.rounds;
}

-- the world after a call; a refused one writes nothing, and its memory is what it left
unfoldable pub after_call : ℕ → World → Call → World
after_call n w (works i b output) =
    let r = worked_off b (w.memories i) output in
    after_working i r.answer.count r.memory (frames_in r.answer.written r.output) w
after_call n w (takes i frame output) =
    let r = taken (w.memories i) frame output in
    cond (eqb r.answer.number 0) (after_taking n i frame r.memory (frames_in r.answer.written r.output) w) (with_memory i r.memory w)
after_call n w (starts i output) =
    let r = started (w.memories i) output in
    cond (eqb r.answer.number 0) (after_starting n i r.memory (frames_in r.answer.written r.output) w) (with_memory i r.memory w)
after_call n w (commits i output) =
    let r = committed (w.memories i) output in
    cond (eqb r.answer.number 0) (after_committing i r.memory (take r.answer.written r.output) w) (with_memory i r.memory w)
after_call n w (sets_up i opening list) = with_memory i (set_up opening list (w.memories i)).memory w

-- the world after a list of calls
unfoldable pub after_calls : ℕ → World → List Call → World
after_calls n w [] = w
after_calls n w (c ∷ cs) = after_calls n (after_call n w c) cs

-- the messages of an opening list, as a ledger
unfoldable pub opening_ledger : List Message → Ledger → Ledger
opening_ledger [] l = l
opening_ledger (m ∷ ms) l = opening_ledger ms (after_plain m l)

-- N memories just set up, with nothing under way
unfoldable pub opening_world : (ℕ → SetUpInput) → (ℕ → List ℕ) → World
opening_world setups lent = record {
  memories = λ i. (set_up (setups i).opening (setups i).list (lent i)).memory;
  under_way = [];
  records = λ i. [];
  ledgers = λ i. opening_ledger (opening_messages (setups i).list) (record { items = []; cancels = [] });
  rounds = record { opened = 0; open? = false; lvts = 0; took = λ t. 0; closed = λ t. false; accepted = λ t i. false };
}

-- what the list of calls keeps to: every call is at one of the N gateways, a set up is refused, and a frame that is accepted is
-- under way. Of a refused frame nothing is asked. A frame is made of bytes
abbrev pub Allowed : ℕ → World → Call → Type 0
Allowed n w (works i b output) = i < n
Allowed n w (takes i frame output) =
    (i < n) × Bytes frame × ((taken (w.memories i) frame output).answer.number ≡ 0 → any (is_frame frame) w.under_way ≡ true)
Allowed n w (starts i output) = i < n
Allowed n w (commits i output) = i < n
Allowed n w (sets_up i opening list) = (i < n) × ((set_up opening list (w.memories i)).answer.number ≡ 0 → ⊥)

-- every call of a list, in the world in which it is made
abbrev pub AllAllowed : ℕ → World → List Call → Type 0
AllAllowed n w [] = Unit {0}
AllAllowed n w (c ∷ cs) = Allowed n w c × AllAllowed n (after_call n w c) cs
