-- The places of the lent memory.
--
-- Header, 256 bytes (what is not named is never read or written):
--   0 N   1 own number   2 supplier   3 phase   4 arrivals   6 Q (2)   8 U (2)   10 queue places used (2)
--   12 outstanding places used (2)   14 H (4)   18 agreed time (4)   22 note or value (4)
--   26 request hours (4)   30 delivery hours (4)   34 life hours (4)   38 state (16)
-- Queue place, 64 bytes, and outstanding place, 32 bytes, begin alike:
--   0 mark (queue: 0 pending, 1 processed, 2 waiting cancel; outstanding: 0 message, 1 cancel)   1 kind   2 from   3 to
--   4 hour (4)   8 origin   9 zero   10 quantity (2)   12 lamp (18)
-- Queue place, from 30: the state before the message (16), zero unless it is processed; 46 zeros (18). Outstanding place, from 30: zeros (2).
-- A state, wherever it stands: stock (4), failed (4), fitted (4), short (4).
use Rattle.std.specs.Prelude.{ℕ, ◌+◌, ◌-◌, ◌*◌}

-- a state: its stock, and behind it three counters of four bytes
abbrev pub stock_width : ℕ
stock_width = 4

abbrev pub state_size : ℕ
state_size = stock_width + 12

-- the header, its bytes that are used, 0 to 4 and 6 to 53, where it counts the places that are used, and where its state stands
abbrev pub header_size : ℕ
header_size = 256

abbrev pub front_size : ℕ
front_size = 5

abbrev pub back_at : ℕ
back_at = 6

abbrev pub queued_at : ℕ
queued_at = 10

abbrev pub outstanding_count_at : ℕ
outstanding_count_at = 12

abbrev pub state_at : ℕ
state_at = 38

abbrev pub header_used : ℕ
header_used = state_at + state_size

abbrev pub back_size : ℕ
back_size = header_used - back_at

-- a queue place, and an outstanding place
abbrev pub queue_size : ℕ
queue_size = 64

abbrev pub outstanding_size : ℕ
outstanding_size = 32

-- in a place of either kind the mark and the message; in a queue place then the state before it, and zeros
abbrev pub message_size : ℕ
message_size = 30

abbrev pub zeros_at : ℕ
zeros_at = message_size + state_size

abbrev pub zeros_size : ℕ
zeros_size = queue_size - zeros_at

-- where queue place k begins
abbrev pub queue_at : ℕ → ℕ
queue_at k = header_size + queue_size * k

-- where outstanding place k begins, behind Q queue places
abbrev pub outstanding_at : ℕ → ℕ → ℕ
outstanding_at q k = header_size + queue_size * q + outstanding_size * k

-- how long the memory has to be
abbrev pub size_for : ℕ → ℕ → ℕ
size_for q u = header_size + queue_size * q + outstanding_size * u
