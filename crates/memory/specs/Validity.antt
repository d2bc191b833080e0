-- What a gateway must keep to for its memory to be sound: settings, counts, phase and arrivals, order, stored messages, stocks.
use Rattle.std.specs.Prelude.{ℕ, ◌+◌, Bool, true, false, cond, not, ◌&&◌, ◌||◌, List, [], ◌∷◌, leb, ltb, eqb, length}
use Rattle.lists.specs.Lists.{every, tally}
use Rattle.routing.specs.Arcs.{from, to}
use Rattle.model.specs.Messages.{kind_number, quantity_of}
use Rattle.model.specs.Doing.{lead_times_valid, most_stock}
use Rattle.std.specs.Ordering.{is_eq, is_gt}
use Rattle.model.specs.EventOrder.{key, compared}
use Rattle.model.specs.declared.Message.{Message}
use Rattle.model.specs.declared.State.{State}
use Rattle.frame.specs.Kinds.{has_lamp}
use Rattle.frame.specs.Writing.{well_formed}
use Rattle.frame.specs.Limits.{numbers_below, nothing_due}
use Rattle.frame.specs.declared.Frame.{Frame}
use Rattle.frame.specs.declared.Sense.{Sense}
use Rattle.frame.specs.declared.Sense.TheVariants.{Plain, Cancel}
use Rattle.memory.specs.Records.{Gateway}
use Rattle.memory.specs.declared.Settings.{Settings}
use Rattle.memory.specs.declared.Round.{Round}
use Rattle.memory.specs.declared.Phase.{Phase}
use Rattle.memory.specs.declared.Phase.TheVariants.{Idle, Counting, Stopped}
use Rattle.memory.specs.declared.Entry.{Entry}
use Rattle.memory.specs.declared.Sent.{Sent}
use Rattle.memory.specs.declared.Mark.{Mark}
use Rattle.memory.specs.declared.Mark.TheVariants.{Pending, Processed, Waiting}

-- N 1 to 255, own number and supplier below N, H below nothing due, Q and U 1 to 512, each lead time 1 to 1,000,000 hours
unfoldable pub settings_valid : Settings → Bool
settings_valid s =
    leb 1 s.n && leb s.n 255
    && ltb s.own s.n && ltb s.supplier s.n
    && ltb s.last nothing_due
    && leb 1 s.q && leb s.q 512
    && leb 1 s.u && leb s.u 512
    && lead_times_valid s.hours

-- some of two, not none and not all
abbrev pub one_of_two : ℕ → Bool
one_of_two arrived = leb 1 arrived && leb arrived 2

-- arrivals that can be in a phase, with so many arcs from and to: idle, not all Starts have come; counting, no Lvt has, and
-- the last gateway, which has no arc to, never counts; stopped, one of two Lvts has
abbrev pub arrivals_possible : ℕ → ℕ → ℕ → Phase → Bool
arrivals_possible arrived froms tos Idle = eqb arrived 0 || (eqb froms 2 && one_of_two arrived)
arrivals_possible arrived froms tos Counting = eqb arrived 0 && leb 1 tos
arrivals_possible arrived froms tos Stopped = eqb tos 2 && one_of_two arrived

unfoldable pub round_possible : Settings → Round → Bool
round_possible s r = arrivals_possible r.arrived (length (from s.n s.own)) (length (to s.n s.own)) r.phase

-- what a queue place holds
abbrev pub pending_mark : Mark → Bool
pending_mark Pending = true
pending_mark Processed = false
pending_mark Waiting = false

abbrev pub processed_mark : Mark → Bool
processed_mark Pending = false
processed_mark Processed = true
processed_mark Waiting = false

abbrev pub waiting_mark : Mark → Bool
waiting_mark Pending = false
waiting_mark Processed = false
waiting_mark Waiting = true

abbrev pub is_pending : Entry → Bool
is_pending e = pending_mark e.mark

abbrev pub is_processed : Entry → Bool
is_processed e = processed_mark e.mark

abbrev pub is_waiting : Entry → Bool
is_waiting e = waiting_mark e.mark

-- the two messages are wholly equal
unfoldable pub equal : Message → Message → Bool
equal a b = is_eq (compared (key a) (key b))

-- a is later than b in event order
unfoldable pub later : Message → Message → Bool
later a b = is_gt (compared (key a) (key b))

-- the queue is in event order
unfoldable pub ordered : List Entry → Bool
ordered [] = true
ordered (e ∷ []) = true
ordered (e ∷ f ∷ es) = not (later e.message f.message) && ordered (f ∷ es)

-- no processed message behind an unprocessed plain one; a waiting cancel may stand before it. `seen`: such a one was passed
unfoldable pub processed_first : Bool → List Entry → Bool
processed_first seen [] = true
processed_first seen (e ∷ es) = not (seen && is_processed e) && processed_first (seen || is_pending e) es

-- one of the two is a waiting cancel and the other is not
abbrev pub one_waits : Mark → Mark → Bool
one_waits a b = cond (waiting_mark a) (not (waiting_mark b)) (waiting_mark b)

-- two neighbours are a waiting cancel and an equal plain message
abbrev pub meet : Entry → Entry → Bool
meet e f = equal e.message f.message && one_waits e.mark f.mark

-- no waiting cancel beside an equal plain message
unfoldable pub none_meet : List Entry → Bool
none_meet [] = true
none_meet (e ∷ []) = true
none_meet (e ∷ f ∷ es) = not (meet e f) && none_meet (f ∷ es)

-- the sense of what a place holds
abbrev pub sense_if : Bool → Sense
sense_if cancel = cond cancel Cancel Plain

abbrev pub frame_if : Bool → Message → Frame
frame_if cancel m = record { message = m; sense = sense_if cancel }

-- a stored message of valid form, numbers and hour
unfoldable pub storable : Settings → Bool → Message → Bool
storable s cancel m =
    leb (kind_number m.kind) 3 && well_formed (frame_if cancel m) && numbers_below s.n m && leb m.hour s.last

-- no state is saved
abbrev pub no_state : State
no_state = record { stock = 0; failed = 0; fitted = 0; short = 0 }

abbrev pub is_no_state : State → Bool
is_no_state s = eqb s.stock 0 && eqb s.failed 0 && eqb s.fitted 0 && eqb s.short 0

-- a queued message is addressed here, and only a processed one has a state saved
unfoldable pub entry_valid : Settings → Entry → Bool
entry_valid s e = storable s (is_waiting e) e.message && eqb e.message.to s.own && (is_processed e || is_no_state e.before)

-- an outstanding one was sent from here, and a Restock is never sent
unfoldable pub sent_valid : Settings → Sent → Bool
sent_valid s x = storable s x.cancel x.message && has_lamp (kind_number x.message.kind) && eqb x.message.from s.own

-- the drivers that a queued message brings: a Restock its quantity, any other none
abbrev pub brings : Entry → ℕ
brings e = quantity_of e.message.kind

-- those that it is still to bring to the stock held: it is not processed
abbrev pub still_brings : Entry → ℕ
still_brings e = cond (is_pending e) (brings e) 0

-- each stock saved and the Restocks still to be done from it, its own message and those behind it, come to at most 33,619,455
unfoldable pub saved_stocks_bounded : List Entry → Bool
unfolding tally
saved_stocks_bounded [] = true
saved_stocks_bounded (e ∷ es) = (not (is_processed e) || leb (e.before.stock + tally brings (e ∷ es)) most_stock) && saved_stocks_bounded es

-- and so do the stock held and the Restocks still to be done from it
unfoldable pub held_stock_bounded : State → List Entry → Bool
unfolding tally
held_stock_bounded state queue = leb (state.stock + tally still_brings queue) most_stock

-- all of it
unfoldable pub valid : Gateway → Bool
valid g =
    settings_valid g.settings
    && leb (length g.queue) g.settings.q
    && leb (length g.outstanding) g.settings.u
    && round_possible g.settings g.round
    && every (entry_valid g.settings) g.queue
    && ordered g.queue
    && processed_first false g.queue
    && none_meet g.queue
    && saved_stocks_bounded g.queue
    && held_stock_bounded g.state g.queue
    && every (sent_valid g.settings) g.outstanding
