-- Doing a message: the state after it, and what it sends.
use Rattle.std.specs.Prelude.{ℕ, ◌+◌, ◌-◌, min, Bool, cond, ◌&&◌, List, [], ◌∷◌, Option, None, Some, leb, ltb}
use Rattle.model.specs.declared.Kind.{Kind}
use Rattle.model.specs.declared.Kind.TheVariants.{Failure, Request, Delivery, Restock, Start, Lvt, Update}
use Rattle.model.specs.declared.Message.{Message}
use Rattle.model.specs.declared.State.{State}
use Rattle.model.specs.declared.LeadTimes.{LeadTimes}
use Rattle.model.specs.declared.Site.{Site}

-- a message must be later than its cause: each lead time is 1 to 1,000,000 hours
abbrev pub hours_in_range : ℕ → Bool
hours_in_range hours = leb 1 hours && leb hours 1000000

-- a gateway's request, delivery and life hours, all three
unfoldable pub lead_times_valid : LeadTimes → Bool
lead_times_valid t = hours_in_range t.request && hours_in_range t.delivery && hours_in_range t.life

-- a counter with one more; it stops at 4,294,967,295
abbrev pub counted : ℕ → ℕ
counted n = min (n + 1) 4294967295

-- the most that a stock can come to: an opening stock of 65,535 and 512 Restocks of 65,535 each
abbrev pub most_stock : ℕ
most_stock = 33619455

-- a gateway's state at first: the opening stock, and the counters 0
abbrev pub opening_state : ℕ → State
opening_state stock = record { stock = stock; failed = 0; fitted = 0; short = 0 }

-- the state after doing a message of that kind
abbrev pub after : State → Kind → State
-- Failure: failed + 1
after s (Failure origin) = record { stock = s.stock; failed = counted s.failed; fitted = s.fitted; short = s.short }
-- Request: with stock, stock − 1; without, short + 1
after s (Request origin) =
    cond (ltb 0 s.stock)
    (record { stock = s.stock - 1; failed = s.failed; fitted = s.fitted; short = s.short })
    (record { stock = s.stock; failed = s.failed; fitted = s.fitted; short = counted s.short })
-- Delivery: fitted + 1
after s (Delivery origin) = record { stock = s.stock; failed = s.failed; fitted = counted s.fitted; short = s.short }
-- Restock: stock + quantity
after s (Restock quantity) = record { stock = s.stock + quantity; failed = s.failed; fitted = s.fitted; short = s.short }
-- the round's messages are no events
after s Start = s
after s Lvt = s
after s Update = s

-- a message that doing m sends: so many hours later, a sum that never wraps, from this gateway, with m's lamp
abbrev pub reply : Site → Message → ℕ → ℕ → Kind → Message
reply site m hours to kind = record { hour = m.hour + hours; from = site.own; to = to; kind = kind; lamp = m.lamp }

-- a message past the last hour is not sent
abbrev pub not_past : ℕ → Message → List Message
not_past last m = cond (leb m.hour last) (m ∷ []) []

-- what doing m, of that kind, in that state sends: at most one message
abbrev pub sent_for : Site → State → Message → Kind → List Message
-- Failure: a Request to the supplier, this gateway's request hours later, origin this gateway
sent_for site s m (Failure origin) = not_past site.last (reply site m site.hours.request site.supplier (Request site.own))
-- Request: with stock, a Delivery to the origin, this gateway's delivery hours later; without, a Request to the supplier, its request hours
-- later, same origin
sent_for site s m (Request origin) =
    cond (ltb 0 s.stock)
    (not_past site.last (reply site m site.hours.delivery origin (Delivery origin)))
    (not_past site.last (reply site m site.hours.request site.supplier (Request origin)))
-- Delivery: a Failure to itself, its life hours later
sent_for site s m (Delivery origin) = not_past site.last (reply site m site.hours.life site.own (Failure site.own))
-- Restock sends nothing, and neither does what is no event
sent_for site s m (Restock quantity) = []
sent_for site s m Start = []
sent_for site s m Lvt = []
sent_for site s m Update = []

-- what doing m in that state sends
unfoldable pub sent : Site → State → Message → List Message
sent site s m = sent_for site s m m.kind

-- the first message of a list, if it has one
abbrev pub reply_with : List Message → Option Message
reply_with [] = None
reply_with (m ∷ ms) = Some m

-- the message that doing m in that state sends, if it sends one
abbrev pub reply_to : Site → State → Message → Option Message
reply_to site s m = reply_with (sent site s m)

-- that message as a list
abbrev pub sent_by : Option Message → List Message
sent_by None = []
sent_by (Some m) = m ∷ []
