-- Set up: the settings, then each frame of the opening list in turn, then the queue places.
use Rattle.std.specs.Prelude.{ℕ, Bool, cond, ◌&&◌, ◌||◌, List, [], ◌∷◌, ◌++◌, leb, eqb, length}
use Rattle.model.specs.Messages.{kind_number}
use Rattle.model.specs.Doing.{opening_state}
use Rattle.frame.specs.Layout.{whole_length}
use Rattle.frame.specs.Kinds.{sense_number}
use Rattle.frame.specs.Reasons.{reading, frame_read, read_in, refusal_in}
use Rattle.frame.specs.Limits.{refusal}
use Rattle.frame.specs.declared.Frame.{Frame}
use Rattle.memory.specs.Layout.{size_for}
use Rattle.memory.specs.Records.{Gateway}
use Rattle.memory.specs.Validity.{settings_valid}
use Rattle.memory.specs.declared.Settings.{Settings}
use Rattle.memory.specs.declared.Entry.{Entry}
use Rattle.gateway.specs.Undoing.{pending_entry}
use Rattle.lists.specs.Lists.{before_first, from_first, first_number, cut_by}
use Rattle.gateway.specs.Taking.{is_later}
use Rattle.gateway.specs.Rounds.{idle}
use Rattle.gateway.specs.declared.Opening.{Opening}

-- the settings that set up was told
abbrev pub settings_of : Opening → Settings
settings_of o = record { n = o.n; own = o.own; supplier = o.supplier; last = o.last; q = o.q; u = o.u; hours = o.hours }

-- every setting in its range, and memory of at least 256 + 64 × Q + 32 × U bytes; else 8
unfoldable pub opening_valid : Opening → ℕ → Bool
opening_valid o size = settings_valid (settings_of o) && leb o.stock 65535 && leb (size_for o.q o.u) size

-- the list cut into frames by the lengths of their maps; what is left too short is a cut frame. `turns` bounds their number
abbrev pub cut_frames : ℕ → List ℕ → List (List ℕ)
cut_frames turns s = cut_by whole_length turns s

-- a plain message of kind 0 or 3
abbrev pub may_open : Frame → Bool
may_open f = eqb (sense_number f.sense) 0 && (eqb (kind_number f.message.kind) 0 || eqb (kind_number f.message.kind) 3)

-- what a frame of the opening list is refused with, or 0: the number of the first reason why it is no frame or is not taken in
-- a list, then 2, then 3. Both kinds have from = to, so that a frame addressed here is from here too
unfoldable pub opening_refusal : Settings → List ℕ → ℕ
opening_refusal s bytes = refusal_in (λ f. refusal f s.n s.own s.last) (read_in may_open (reading bytes))

-- the first refusal among the frames, or 0
abbrev pub first_refusal : Settings → List (List ℕ) → ℕ
first_refusal s fs = first_number (opening_refusal s) fs

-- the opening messages in event order, of equal ones the first first
unfoldable pub queued : List Entry → List (List ℕ) → List Entry
queued queue [] = queue
queued queue (f ∷ fs) =
    let m = (frame_read f).message in
    queued (before_first (is_later m) queue ++ (pending_entry m ∷ from_first (is_later m) queue)) fs

-- the gateway just set up: the opening stock, the other counters 0, agreed time 0, no round
unfoldable pub opened : Opening → List (List ℕ) → Gateway
unfolding queued
opened o fs = record {
  settings = settings_of o;
  state = opening_state o.stock;
  agreed = 0;
  round = idle;
  queue = queued [] fs;
  outstanding = [];
}

-- what set up is refused with, or 0: 8, then of each frame in turn the number of its form, 2 or 3, then 5
unfoldable pub set_up_refusal : Opening → ℕ → List ℕ → ℕ
unfolding opening_valid opening_refusal first_number cut_by
set_up_refusal o size list =
    let fs = cut_frames (length list) list in
    let refusal' = first_refusal (settings_of o) fs in
    cond (opening_valid o size)
    (cond (eqb refusal' 0) (cond (leb (length fs) o.q) 0 5) refusal')
    8
