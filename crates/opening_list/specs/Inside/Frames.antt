-- What the functions inside set up are told and promise: the frames of the opening list by their positions, a message entered, the header.
-- The call's own contract does not cite this file.
use Rattle.std.specs.Prelude.{ℕ, List, Result, Ok, Err, length}
use Rattle.lists.specs.Lists.{before_first}
use Rattle.lists.specs.Inside.Positions.{first_where}
use Rattle.lists.specs.Inside.Pieces.{pieces_from, is_refused}
use Rattle.model.specs.Doing.{opening_state}
use Rattle.model.specs.declared.Message.{Message}
use Rattle.frame.specs.Layout.{whole_length}
use Rattle.memory.specs.declared.Settings.{Settings}
use Rattle.memory.specs.declared.Header.{Header}
use Rattle.gateway.specs.Undoing.{pending_entry}
use Rattle.gateway.specs.Rounds.{idle}
use Rattle.gateway.specs.SettingUp.{settings_of, opening_refusal, first_refusal}
use Rattle.gateway.specs.Taking.{is_later}
use Rattle.places.specs.Inside.Searching.{entries_in}
use Rattle.gateway.specs.declared.Opening.{Opening}
use Rattle.effects.specs.Inside.Placed.{entry_inserted}
use Rattle.refusal.specs.Numbers.{refusal_number}
use Rattle.opening_list.specs.declared.FrameRefused.{FrameRefused}

-- the frames of the list from a position on
abbrev pub frames_from : List ℕ → ℕ → List (List ℕ)
frames_from list at = pieces_from whole_length list at

-- what the pass over the frames finds: the number of the first refusal, or 0, and how many frames stand before it or in all
pub record Checked : Type 0 where
  pub number : ℕ
  pub count : ℕ

abbrev pub checked_as : Settings → List (List ℕ) → Checked
checked_as s frames = record { number = first_refusal s frames; count = length (before_first (is_refused (opening_refusal s)) frames) }

-- the same as the code answers it
abbrev pub checked_of : Result ℕ FrameRefused → Checked
checked_of (Ok count) = record { number = 0; count = count }
checked_of (Err found) = record { number = refusal_number found.refusal; count = found.before }

-- the memory after a message has entered the first count queue places, behind those that are not later
unfoldable pub memory_entered : ℕ → Message → List ℕ → List ℕ
memory_entered count m memory =
    entry_inserted count (first_where (is_later m) (entries_in memory count)) (pending_entry m) memory

-- the header of a gateway just set up, with so many messages in its queue
abbrev pub opened_header : Opening → ℕ → Header
opened_header o count = record {
  settings = settings_of o;
  state = opening_state o.stock;
  agreed = 0;
  round = idle;
  queued = count;
  outstanding = 0;
}
