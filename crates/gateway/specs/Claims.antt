-- What is proved of the calls beside their contracts: a refusal changes nothing, no call answers 10 to memory that the calls left, at every
-- gateway that set up accepts a message is later than its cause, and no sum of a stock and a Restock wraps.
use Rattle.std.specs.Prelude.{◌≡◌, ℕ, ◌+◌, ◌≤◌, ◌<◌, true, List, [], ◌∷◌, length}
use Rattle.buffer.specs.Slice.{Bytes, part}
use Rattle.lists.specs.Lists.{◌∈◌}
use Rattle.model.specs.Messages.{quantity_of}
use Rattle.model.specs.Doing.{most_stock, sent}
use Rattle.model.specs.declared.Message.{Message}
use Rattle.model.specs.declared.State.{State}
use Rattle.memory.specs.Layout.{size_for}
use Rattle.memory.specs.Records.{site_of}
use Rattle.memory.specs.Codec.{decode}
use Rattle.memory.specs.Validity.{is_processed}
use Rattle.memory.specs.Soundness.{sound}
use Rattle.memory.specs.declared.Entry.{Entry}
use Rattle.memory.specs.declared.Settings.{Settings}
use Rattle.gateway.specs.Working.{pending_of}
use Rattle.gateway.specs.SettingUp.{settings_of}
use Rattle.gateway.specs.Calls.{CallResult, refused_with, taken, started, committed, worked_off, set_up, agreed_time}
use Rattle.gateway.specs.Answers.{Answer}
use Rattle.gateway.specs.declared.Opening.{Opening}

-- Demand 1: "Where a gateway is handed a frame, opening list, setting or memory of any content, in any state, the call returns within its
-- buffers; what it can't use is refused by document 01's number, and a refusal changes nothing."
-- That every call returns, within its buffers and with the number that Calls gives, is its contract, which has no premise. That a refusal
-- changes nothing is claimed here.

-- a call that refuses leaves its number alone: no byte is written, and memory and output are as they were
abbrev pub RefusedAlone : List ℕ → List ℕ → CallResult Answer → Type 0
RefusedAlone memory output r = (r.answer.number ≡ 0 → ⊥) → r ≡ refused_with r.answer.number memory output

-- every call that is refused, whatever the memory and what it is handed; and work that does no event, for whatever reason
pub record RefusalsChangeNothing : Type 0 where
  pub at_set_up : (o : Opening) (list memory : List ℕ) → RefusedAlone memory [] (set_up o list memory)
  pub at_taking : (memory frame output : List ℕ) → RefusedAlone memory output (taken memory frame output)
  pub at_starting : (memory output : List ℕ) → RefusedAlone memory output (started memory output)
  pub at_committing : (memory output : List ℕ) → RefusedAlone memory output (committed memory output)
  pub at_working : (b : ℕ) (memory output : List ℕ) → Bytes memory
      → let r = worked_off b memory output in
      r.answer.count ≡ 0 → (r.answer.written ≡ 0) × (r.memory ≡ memory) × (r.output ≡ output)

-- sound memory of bytes
pub record SoundBytes (memory : List ℕ) : Type 0 where
  pub bytes : Bytes memory
  pub is-sound : sound memory ≡ true

-- a call leaves sound memory with these settings, as long as it was; what lies past its last place is never touched; and the
-- call's number is not 10
pub record StaysSound (s : Settings) (memory : List ℕ) (number : ℕ) (after : List ℕ) : Type 0 where
  pub still : SoundBytes after
  pub settings : (decode after).settings ≡ s
  pub as_long : length after ≡ length memory
  pub rest : (n : ℕ) → part after (size_for s.q s.u) n ≡ part memory (size_for s.q s.u) n
  pub answer : number ≡ 10 → ⊥

-- set up that is not refused makes sound memory of any, and every other call, refused or not, keeps it
pub record NeverUnsound : Type 0 where
  pub by_set_up : (o : Opening) (list memory : List ℕ) → Bytes list → Bytes memory → (set_up o list memory).answer.number ≡ 0
      → StaysSound (settings_of o) memory 0 (set_up o list memory).memory
  pub by_taking : (memory frame output : List ℕ) → Bytes frame → SoundBytes memory
      → StaysSound (decode memory).settings memory (taken memory frame output).answer.number (taken memory frame output).memory
  pub by_starting : (memory output : List ℕ) → SoundBytes memory
      → StaysSound (decode memory).settings memory (started memory output).answer.number (started memory output).memory
  pub by_committing : (memory output : List ℕ) → SoundBytes memory
      → StaysSound (decode memory).settings memory (committed memory output).answer.number (committed memory output).memory
  pub by_working : (b : ℕ) (memory output : List ℕ) → SoundBytes memory
      → StaysSound (decode memory).settings memory (worked_off b memory output).answer.why (worked_off b memory output).memory
  -- reading the agreed time then gives it
  pub by_reading : (memory : List ℕ) → SoundBytes memory → (agreed_time memory).number ≡ 0

-- at a gateway of these settings, what doing a message sends, which is at most one message, is later than that message
abbrev pub Later : Settings → Type 0
Later settings = (s : State) (m x : Message) → sent (site_of settings) s m ≡ x ∷ [] → m.hour < x.hour

-- at every gateway that set up accepts, and at every one that sound memory holds
pub record LaterThanItsCause : Type 0 where
  pub by_set_up : (o : Opening) (list memory : List ℕ) → (set_up o list memory).answer.number ≡ 0 → Later (settings_of o)
  pub in_memory : (memory : List ℕ) → SoundBytes memory → Later (decode memory).settings

-- in sound memory no sum of a stock and a Restock comes to more than 33,619,455: that of the stock held and the message to be done next, and
-- that of each stock saved and its own message
pub record NoStockWraps : Type 0 where
  pub held : (memory : List ℕ) → SoundBytes memory → (m : Message) (ms : List Message) → pending_of (decode memory).queue ≡ m ∷ ms
      → (decode memory).state.stock + quantity_of m.kind ≤ most_stock
  pub saved : (memory : List ℕ) → SoundBytes memory → (e : Entry) → e ∈ (decode memory).queue → is_processed e ≡ true
      → e.before.stock + quantity_of e.message.kind ≤ most_stock
