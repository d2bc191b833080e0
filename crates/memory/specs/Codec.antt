-- A gateway's bytes: what each header field and each place holds, and the gateway that bytes stand for.
use Rattle.std.specs.Prelude.{ℕ, zero, suc, ◌+◌, Bool, cond, List, [], ◌∷◌, ◌++◌, eqb, get_or, replicate}
use Rattle.lists.specs.Lists.{joined}
use Rattle.buffer.specs.Slice.{part, write}
use Rattle.buffer.specs.Number.{bytes_of, number_of}
use Rattle.model.specs.Messages.{kind_number, origin_of, quantity_of, kind_of}
use Rattle.model.specs.declared.Message.{Message}
use Rattle.model.specs.declared.State.{State}
use Rattle.memory.specs.Records.{Gateway, header_of}
use Rattle.memory.specs.Layout.{header_size, back_at, queued_at, outstanding_count_at, queue_size, outstanding_size, message_size, state_size}
use Rattle.memory.specs.Layout.{stock_width, state_at, zeros_size, outstanding_at}
use Rattle.memory.specs.declared.Header.{Header}
use Rattle.memory.specs.declared.Entry.{Entry}
use Rattle.memory.specs.declared.Sent.{Sent}
use Rattle.memory.specs.declared.Mark.{Mark}
use Rattle.memory.specs.declared.Mark.TheVariants.{Pending, Processed, Waiting}
use Rattle.memory.specs.declared.Phase.{Phase}
use Rattle.memory.specs.declared.Phase.TheVariants.{Idle, Counting, Stopped}

-- numbers of the enumerations
abbrev pub mark_number : Mark → ℕ
mark_number Pending = 0
mark_number Processed = 1
mark_number Waiting = 2

abbrev pub mark_of : ℕ → Mark
mark_of number = cond (eqb number 0) Pending (cond (eqb number 1) Processed Waiting)

abbrev pub phase_number : Phase → ℕ
phase_number Idle = 0
phase_number Counting = 1
phase_number Stopped = 2

abbrev pub phase_of : ℕ → Phase
phase_of number = cond (eqb number 0) Idle (cond (eqb number 1) Counting Stopped)

abbrev pub cancel_number : Bool → ℕ
cancel_number cancel = cond cancel 1 0

-- a state's bytes
unfoldable pub state_bytes : State → List ℕ
state_bytes s = bytes_of stock_width s.stock ++ (bytes_of 4 s.failed ++ (bytes_of 4 s.fitted ++ bytes_of 4 s.short))

-- the state that bytes hold whose stock has that width, and the one that a state's bytes hold
unfoldable pub state_with : ℕ → List ℕ → State
state_with width b = record {
  stock = number_of (part b 0 width);
  failed = number_of (part b width 4);
  fitted = number_of (part b (width + 4) 4);
  short = number_of (part b (width + 8) 4);
}

abbrev pub state_of : List ℕ → State
state_of b = state_with stock_width b

-- a stored message's bytes, behind those of its mark
unfoldable pub message_bytes : ℕ → Message → List ℕ
message_bytes mark m =
    bytes_of 1 mark
    ++ (bytes_of 1 (kind_number m.kind)
    ++ (bytes_of 1 m.from
    ++ (bytes_of 1 m.to
    ++ (bytes_of 4 m.hour
    ++ (bytes_of 1 (origin_of m.kind)
    ++ (bytes_of 1 0
    ++ (bytes_of 2 (quantity_of m.kind)
    ++ m.lamp)))))))

-- the message that a place holds
unfoldable pub message_of : List ℕ → Message
message_of b = record {
  hour = number_of (part b 4 4);
  from = get_or b 2 0;
  to = get_or b 3 0;
  kind = kind_of (get_or b 1 0) (get_or b 8 0) (number_of (part b 10 2));
  lamp = part b 12 18;
}

-- a queue place's sixty-four bytes
unfoldable pub entry_bytes : Entry → List ℕ
unfolding message_bytes state_bytes
entry_bytes e = message_bytes (mark_number e.mark) e.message ++ (state_bytes e.before ++ replicate zeros_size 0)

-- the entry that a queue place holds
unfoldable pub entry_of : List ℕ → Entry
unfolding message_of state_with
entry_of b = record { message = message_of b; mark = mark_of (get_or b 0 0); before = state_of (part b message_size state_size) }

-- an outstanding place's thirty-two bytes
unfoldable pub sent_bytes : Sent → List ℕ
unfolding message_bytes
sent_bytes s = message_bytes (cancel_number s.cancel) s.message ++ replicate 2 0

-- what an outstanding place holds
unfoldable pub sent_of : List ℕ → Sent
unfolding message_of
sent_of b = record { message = message_of b; cancel = eqb (get_or b 0 0) 1 }

-- the header that the memory's first bytes hold
unfoldable pub header_at : List ℕ → Header
unfolding state_with
header_at m = record {
  settings = record {
    n = get_or m 0 0;
    own = get_or m 1 0;
    supplier = get_or m 2 0;
    last = number_of (part m 14 4);
    q = number_of (part m 6 2);
    u = number_of (part m 8 2);
    hours = record { request = number_of (part m 26 4); delivery = number_of (part m 30 4); life = number_of (part m 34 4) };
  };
  state = state_of (part m state_at state_size);
  agreed = number_of (part m 18 4);
  round = record { phase = phase_of (get_or m 3 0); arrived = get_or m 4 0; note = number_of (part m 22 4) };
  queued = number_of (part m queued_at 2);
  outstanding = number_of (part m outstanding_count_at 2);
}

-- the header's bytes 0 to 4 and 6 to 53; byte 5 is not used
unfoldable pub header_front : Header → List ℕ
header_front h =
    bytes_of 1 h.settings.n
    ++ (bytes_of 1 h.settings.own
    ++ (bytes_of 1 h.settings.supplier
    ++ (bytes_of 1 (phase_number h.round.phase)
    ++ bytes_of 1 h.round.arrived)))

unfoldable pub header_back : Header → List ℕ
unfolding state_bytes
header_back h =
    bytes_of 2 h.settings.q
    ++ (bytes_of 2 h.settings.u
    ++ (bytes_of 2 h.queued
    ++ (bytes_of 2 h.outstanding
    ++ (bytes_of 4 h.settings.last
    ++ (bytes_of 4 h.agreed
    ++ (bytes_of 4 h.round.note
    ++ (bytes_of 4 h.settings.hours.request
    ++ (bytes_of 4 h.settings.hours.delivery
    ++ (bytes_of 4 h.settings.hours.life
    ++ state_bytes h.state)))))))))

-- count places of size bytes from position at on, each read by f
unfoldable pub places_at : {A : Type 0} → (List ℕ → A) → ℕ → List ℕ → ℕ → ℕ → List A
places_at f size m at zero = []
places_at f size m at (suc count) = f (part m at size) ∷ places_at f size m (at + size) count

-- the gateway that the memory holds
unfoldable pub decode : List ℕ → Gateway
unfolding header_at places_at
decode m =
    let h = header_at m in
    record {
      settings = h.settings;
      state = h.state;
      agreed = h.agreed;
      round = h.round;
      queue = places_at entry_of queue_size m header_size h.queued;
      outstanding = places_at sent_of outstanding_size m (outstanding_at h.settings.q 0) h.outstanding;
    }

-- the memory with a gateway written over it: header, used queue places and used outstanding places; every other byte stays
unfoldable pub encode : Gateway → List ℕ → List ℕ
unfolding header_front header_back joined
encode g m =
    write (outstanding_at g.settings.q 0) (joined sent_bytes g.outstanding)
    (write header_size (joined entry_bytes g.queue)
    (write back_at (header_back (header_of g))
    (write 0 (header_front (header_of g)) m)))
