-- One event of work and several, on the memory: what the functions inside work are told and promise.
use Rattle.std.specs.Prelude.{◌≡◌, ℕ, ◌+◌, ◌-◌, ◌≤◌, Bool, true, false, ◌&&◌, List, Option, Some, leb, length, drop}
use Rattle.lists.specs.Lists.{tally}
use Rattle.lists.specs.Inside.Positions.{first_where}
use Rattle.model.specs.Doing.{most_stock, sent_by}
use Rattle.model.specs.declared.Message.{Message}
use Rattle.refusal.specs.Numbers.{number_if}
use Rattle.refusal.specs.declared.Refusal.{Refusal}
use Rattle.memory.specs.Records.{Gateway}
use Rattle.memory.specs.Layout.{queue_size, queue_at, size_for}
use Rattle.memory.specs.Codec.{entry_of, places_at}
use Rattle.memory.specs.Inside.Fits.{GatewayFits}
use Rattle.memory.specs.Ranges.{Ranged}
use Rattle.memory.specs.Validity.{is_pending, still_brings, valid}
use Rattle.memory.specs.declared.Header.{Header}
use Rattle.gateway.specs.Effects.{bytes_of_frames, frames_for, sent_all}
use Rattle.gateway.specs.Working.{Progress, worked}
use Rattle.effects.specs.Inside.Placed.{Placed}
use Rattle.replies.specs.declared.Turn.{Turn}

-- sizes and counts between two events, for an output of so many bytes, and a stock that leaves room for the Restocks still to be done
pub record Ready (memory : List ℕ) (room : ℕ) (t : Turn) : Type 0 where
  pub long : size_for t.header.settings.q t.header.settings.u ≤ length memory
  pub queue-places : t.header.settings.q ≤ 512
  pub outstanding-places : t.header.settings.u ≤ 512
  pub queued : t.header.queued ≤ t.header.settings.q
  pub outstanding : t.header.outstanding ≤ t.header.settings.u
  pub place : t.place ≤ t.header.queued
  pub written : t.written ≤ room
  pub stock : t.header.state.stock + tally still_brings (places_at entry_of queue_size memory (queue_at t.place) (t.header.queued - t.place)) ≤ most_stock

-- between two events the memory has the places of the valid gateway g, written over `before`, and the next unprocessed plain message stands
-- from the turn's place on
pub record Reached (before memory : List ℕ) (t : Turn) (g : Gateway) : Type 0 where
  pub placed : Placed before memory t.header g
  pub validity : valid g ≡ true
  pub ranged : Ranged g
  pub behind : t.place ≤ length g.queue
  pub next : first_where is_pending g.queue ≡ t.place + first_where is_pending (drop t.place g.queue)

-- work came to w, and the bytes that it will put out are counted
pub record Turned (w : Progress) (before memory' : List ℕ) (t r : Turn) : Type 0 where
  pub reached : Reached before memory' r w.gateway
  pub why : number_if r.why ≡ w.why
  pub written : r.written ≡ t.written + length w.output

-- one event was worked off, from every gateway that the memory may hold
abbrev pub Turns : List ℕ → ℕ → List ℕ → Turn → Turn → Type 0
Turns memory room memory' t r =
    (before : List ℕ) (g : Gateway) → Reached before memory t g → Turned (worked 1 (room - t.written) g) before memory' t r

-- the same where the next unprocessed plain message stands in place k
abbrev pub TurnsAt : ℕ → List ℕ → ℕ → List ℕ → Turn → Turn → Type 0
TurnsAt k memory room memory' t r =
    (before : List ℕ) (g : Gateway) → Reached before memory t g → k ≡ first_where is_pending g.queue
    → Turned (worked 1 (room - t.written) g) before memory' t r

-- a turn that stops work, for that reason
abbrev pub stopped_with : Refusal → Turn → Turn
stopped_with why t = record { header = t.header; written = t.written; place = t.place; why = Some why }

-- the bytes of output that what doing a message sends takes
abbrev pub reply_bytes : Option Message → ℕ
reply_bytes reply = length (bytes_of_frames (frames_for false (sent_by reply)))

-- there are outstanding places and bytes of output for what doing a message sends
abbrev pub room_for : Header → ℕ → Option Message → Bool
room_for h room reply = leb (h.outstanding + length (sent_by reply)) h.settings.u && leb (reply_bytes reply) room

-- there are outstanding places for it in the memory
pub record MaySendReply (memory : List ℕ) (h : Header) (reply : Option Message) : Type 0 where
  pub long : size_for h.settings.q h.settings.u ≤ length memory
  pub outstanding-places : h.settings.u ≤ 512
  pub outstanding : h.outstanding + length (sent_by reply) ≤ h.settings.u

-- it is sent, for every gateway that the memory may hold
abbrev pub SendsReply : List ℕ → List ℕ → Header → Option Message → Header → Type 0
SendsReply memory memory' h reply r =
    (before : List ℕ) (g : Gateway) → Placed before memory h g → GatewayFits (sent_all false (sent_by reply) g)
    → Placed before memory' r (sent_all false (sent_by reply) g)
