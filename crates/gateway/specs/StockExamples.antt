-- Examples of shelves that do not stop at 65,535, as one table: the most that set up can reach, memory that holds it and one more, held
-- and saved, and a record.
use Rattle.std.specs.Prelude.{◌≡◌, ℕ, false, List, [], ◌∷◌, ◌++◌, length, replicate}
use Rattle.model.specs.Doing.{opening_state, after}
use Rattle.model.specs.declared.Kind.TheVariants.{Failure, Restock}
use Rattle.model.specs.declared.Message.{Message}
use Rattle.frame.specs.Writing.{written}
use Rattle.memory.specs.Codec.{encode}
use Rattle.memory.specs.Records.{Gateway}
use Rattle.memory.specs.Validity.{frame_if}
use Rattle.memory.specs.declared.Entry.{Entry}
use Rattle.memory.specs.declared.Mark.TheVariants.{Processed}
use Rattle.gateway.specs.Effects.{bytes_of_frames}
use Rattle.gateway.specs.Undoing.{pending_entry}
use Rattle.gateway.specs.Taking.{take_cancel}
use Rattle.gateway.specs.Working.{worked}
use Rattle.gateway.specs.Rounds.{idle}
use Rattle.gateway.specs.Committing.{commit}
use Rattle.gateway.specs.SettingUp.{cut_frames, opened, set_up_refusal}
use Rattle.gateway.specs.Calls.{agreed_time}
use Rattle.gateway.specs.Examples.{town_hours}
use Rattle.gateway.specs.declared.Opening.{Opening}

-- a Restock of so many drivers and a Failure, each at that hour at gateway 0; a Restock has no lamp
abbrev pub restock : (hour quantity : ℕ) → Message
restock hour quantity = record { hour = hour; from = 0; to = 0; kind = Restock quantity; lamp = replicate 18 0 }

abbrev failure : (hour : ℕ) → Message
failure hour = record { hour = hour; from = 0; to = 0; kind = Failure 0; lamp = replicate 18 48 }

-- a gateway alone, with that stock, agreed time 12, and these entries in its queue
abbrev alone : ℕ → List Entry → Gateway
alone stock queue = record {
  settings = record { n = 1; own = 0; supplier = 0; last = 100; q = 4; u = 4; hours = town_hours };
  state = opening_state stock;
  agreed = 12;
  round = idle;
  queue = queue;
  outstanding = [];
}

-- a processed message, and the stock before it
abbrev done : ℕ → Message → Entry
done stock m = record { message = m; mark = Processed; before = opening_state stock }

-- what a call answers to memory that holds such a gateway
abbrev answer_to : ℕ → List Entry → ℕ
answer_to stock queue = (agreed_time (encode (alone stock queue) (replicate 640 0))).number

-- Set up with that opening stock and 512 queue places, in memory that is just long enough; and an opening list of so many Restocks of 65,535
abbrev pub told : ℕ → Opening
told stock = record { n = 1; own = 0; supplier = 0; stock = stock; last = 100; q = 512; u = 1; hours = town_hours }

abbrev pub restocks : ℕ → List ℕ
restocks count = bytes_of_frames (replicate count (frame_if false (restock 5 65535)))

-- the stock that is held when the first so many events of such a list are done
abbrev pub stock_after : (stock count : ℕ) → ℕ
stock_after stock count = (worked count 0 (opened (told stock) (cut_frames (length (restocks count)) (restocks count)))).gateway.state.stock

pub record ShelvesWithoutAStop : Type 0 where
  -- a stock of 65,535 and a Restock of 1 come to 65,536
  pub no_stop : after (opening_state 65535) (Restock 1) ≡ opening_state 65536
  -- the record has it in four bytes, behind the frame
  pub recorded : (commit 100 (alone 65536 (done 65535 (restock 5 1) ∷ []))).output
      ≡ written (frame_if false (restock 5 1)) ++ (0 ∷ 1 ∷ 0 ∷ 0 ∷ replicate 12 0)
  -- and it comes back when what was done since is undone: a cancel of the Failure at 6
  pub restored : (take_cancel (failure 6) (alone 65536 (done 65535 (restock 5 1) ∷ done 65536 (failure 6) ∷ []))).gateway.state ≡ opening_state 65536
  -- an opening stock of 65,535 is accepted, 65,536 is 8
  pub opening_stock : (set_up_refusal (told 65535) 33056 [] ≡ 0) × (set_up_refusal (told 65536) 33056 [] ≡ 8)
  -- with 512 Restocks of 65,535 it is accepted, and when all are done the stock is 33,619,455
  pub accepted : set_up_refusal (told 65535) 33056 (restocks 512) ≡ 0
  pub reached : stock_after 65535 512 ≡ 33619455
  -- a stock held: that much is sound, one more is 10
  pub held : (answer_to 33619455 [] ≡ 0) × (answer_to 33619456 [] ≡ 10) × (answer_to 4294967295 [] ≡ 10)
  -- a Restock that is still to be done from it counts
  pub held_pending : (answer_to 33619454 (pending_entry (restock 5 1) ∷ []) ≡ 0) × (answer_to 33619455 (pending_entry (restock 5 1) ∷ []) ≡ 10)
  -- one that is done does not
  pub held_done : answer_to 33619455 (done 33619454 (restock 5 1) ∷ []) ≡ 0
  -- a stock saved: its own message's Restock counts
  pub saved : (answer_to 0 (done 33619455 (failure 5) ∷ []) ≡ 0) × (answer_to 0 (done 33619456 (failure 5) ∷ []) ≡ 10)
      × (answer_to 0 (done 33619455 (restock 5 1) ∷ []) ≡ 10)
  -- and those behind it, processed or pending
  pub saved_behind : (answer_to 0 (done 33619454 (failure 5) ∷ done 0 (restock 6 1) ∷ []) ≡ 0) × (answer_to 0 (done 33619455 (failure 5) ∷ done 0 (restock 6 1) ∷ []) ≡ 10)
      × (answer_to 0 (done 33619455 (failure 5) ∷ pending_entry (restock 6 1) ∷ []) ≡ 10)
  -- but none before it
  pub saved_before : answer_to 0 (done 0 (restock 5 65535) ∷ done 33619455 (failure 6) ∷ []) ≡ 0
