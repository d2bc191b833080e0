-- The round at a gateway: the start call, Start, Lvt and Update.
use Rattle.std.specs.Prelude.{ℕ, ◌+◌, ◌*◌, ◌-◌, ◌/◌, ◌%◌, min, max, Bool, true, false, cond, not, ◌&&◌, List, [], ◌∷◌, map, leb, eqb, replicate}
use Rattle.routing.specs.Arcs.{from, to, children}
use Rattle.model.specs.declared.Kind.{Kind}
use Rattle.model.specs.declared.Kind.TheVariants.{Start, Lvt, Update}
use Rattle.frame.specs.Limits.{nothing_due}
use Rattle.frame.specs.declared.Frame.{Frame}
use Rattle.frame.specs.declared.Sense.TheVariants.{Plain}
use Rattle.memory.specs.Records.{Gateway}
use Rattle.memory.specs.Validity.{is_processed}
use Rattle.memory.specs.declared.Entry.{Entry}
use Rattle.memory.specs.declared.Sent.{Sent}
use Rattle.memory.specs.declared.Round.{Round}
use Rattle.memory.specs.declared.Phase.{Phase}
use Rattle.memory.specs.declared.Phase.TheVariants.{Idle, Counting, Stopped}
use Rattle.gateway.specs.Effects.{Effect, Outcome, settled, refused, with_agreed, with_round}

-- the least hour outstanding, nothing due if none
unfoldable pub least_outstanding : List Sent → ℕ
least_outstanding [] = nothing_due
least_outstanding (x ∷ xs) = min x.message.hour (least_outstanding xs)

-- the least hour of the unprocessed messages and waiting cancels, nothing due if none
unfoldable pub least_queued : List Entry → ℕ
least_queued [] = nothing_due
least_queued (e ∷ es) = let rest = least_queued es in cond (is_processed e) rest (min e.message.hour rest)

-- a frame of the round
abbrev pub frame_in_round : Kind → ℕ → ℕ → ℕ → Frame
frame_in_round kind hour sender receiver = record {
  message = record { hour = hour; from = sender; to = receiver; kind = kind; lamp = replicate 18 0 };
  sense = Plain;
}

-- one such frame to each of some gateways
abbrev pub frames_in_round : Kind → ℕ → ℕ → List ℕ → List Frame
frames_in_round kind hour sender receivers = map (frame_in_round kind hour sender) receivers

-- a gateway that has not begun, or has finished its part and is ready for the next round: nothing has arrived
abbrev pub idle : Round
idle = record { phase = Idle; arrived = 0; note = 0 }

-- the value at the stop: the least of the note and every unprocessed message and waiting cancel
abbrev pub value_at : ℕ → Gateway → ℕ
value_at note g = min note (least_queued g.queue)

-- with all Lvts in: at gateway 0 the value is the new agreed time, the round is closed and Updates go out; elsewhere Lvt
-- goes along from, and the gateway is ready for the next round
unfoldable pub finished : ℕ → Gateway → Effect
unfolding children
finished value g =
    let s = g.settings in
    cond (eqb s.own 0)
    (record { gateway = with_agreed value (with_round idle g); frames = frames_in_round Update value s.own (children s.n s.own) })
    (record { gateway = with_round idle g; frames = frames_in_round Lvt value s.own (from s.n s.own) })

-- with all Starts in: it notes the least hour outstanding and sends Start along to; gateway N − 1 stops as it starts
unfoldable pub begun : Gateway → Effect
unfolding finished
begun g =
    let s = g.settings in
    let note = least_outstanding g.outstanding in
    cond (eqb (s.own + 1) s.n)
    (finished (value_at note g) g)
    (record {
      gateway = with_round (record { phase = Counting; arrived = 0; note = note }) g;
      frames = frames_in_round Start 0 s.own (to s.n s.own);
    })

-- the gateway has not begun, or has finished; a round may be open elsewhere. (At gateway 0: no round is open)
abbrev pub is_idle : Phase → Bool
is_idle Idle = true
is_idle Counting = false
is_idle Stopped = false

-- the start call: 4 by another than 0 or in an open round
unfoldable pub start : ℕ → Gateway → Outcome
unfolding begun
start room g = cond (eqb g.settings.own 0 && is_idle g.round.phase) (settled room g (begun g)) (refused 4 g)

-- the bit of a gateway in a list of at most two: 1 for the first, 2 for the second, 0 where it is not there
unfoldable pub bit_of : ℕ → List ℕ → ℕ
bit_of k [] = 0
bit_of k (x ∷ xs) = let rest = 2 * bit_of k xs in cond (eqb k x) 1 rest

-- all bits of a list
unfoldable pub all_bits : List ℕ → ℕ
all_bits [] = 0
all_bits (x ∷ xs) = 1 + 2 * all_bits xs

-- the bit stands in what has arrived
abbrev pub stands : ℕ → ℕ → Bool
stands bit arrived = eqb (arrived / bit % 2) 1

-- a first arrival from a gateway of the list
abbrev pub awaited : ℕ → List ℕ → ℕ → Bool
awaited k list arrived = leb 1 (bit_of k list) && not (stands (bit_of k list) arrived)

-- the round with one more Start in: with all in, whose bits are told, it begins
unfoldable pub one_start : ℕ → ℕ → Gateway → Effect
unfolding begun
one_start all arrived g =
    cond (eqb arrived all)
    (begun g)
    (record { gateway = with_round (record { phase = Idle; arrived = arrived; note = g.round.note }) g; frames = [] })

-- taking a Start from gateway k: 4 in the wrong half, not from its arc, or twice
unfoldable pub take_start : ℕ → ℕ → Gateway → Outcome
unfolding one_start
take_start room k g =
    let heard = from g.settings.n g.settings.own in
    let arrived = g.round.arrived in
    cond (is_idle g.round.phase && awaited k heard arrived)
    (settled room g (one_start (all_bits heard) (arrived + bit_of k heard) g))
    (refused 4 g)

-- the value before an Lvt: the first one stops the note and takes the value then
abbrev pub value_in : Phase → Gateway → ℕ
value_in Idle g = 0
value_in Counting g = value_at g.round.note g
value_in Stopped g = g.round.note

-- the round with one more Lvt in: with all in, whose bits are told, it is finished
unfoldable pub one_lvt : ℕ → ℕ → ℕ → Gateway → Effect
unfolding finished
one_lvt all arrived value g =
    cond (eqb arrived all)
    (finished value g)
    (record { gateway = with_round (record { phase = Stopped; arrived = arrived; note = value }) g; frames = [] })

-- taking an Lvt from gateway k: 4 in the wrong half, not from its arc, or twice. It lowers the value
unfoldable pub take_lvt : ℕ → ℕ → ℕ → Gateway → Outcome
unfolding one_lvt
take_lvt room k hour g =
    let told = to g.settings.n g.settings.own in
    let arrived = g.round.arrived in
    cond (not (is_idle g.round.phase) && awaited k told arrived)
    (settled room g (one_lvt (all_bits told) (arrived + bit_of k told) (min (value_in g.round.phase g) hour) g))
    (refused 4 g)

-- taking an Update: 4 if not from the parent; gateway 0 has none. The larger time is kept, and the Update relayed as it came
unfoldable pub take_update : ℕ → ℕ → ℕ → Gateway → Outcome
unfolding children
take_update room k hour g =
    let s = g.settings in
    cond (leb 1 s.own && eqb k ((s.own - 1) / 2))
    (settled room g (record { gateway = with_agreed (max g.agreed hour) g; frames = frames_in_round Update hour s.own (children s.n s.own) }))
    (refused 4 g)
