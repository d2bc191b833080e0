-- The model of a forecast: the lamp model at N gateways, as the abstract theory knows a model.
use mathlib.Core.Path.{◌≡◌, refl, ◌∙◌}
use Prim.Native.Nat.{ℕ, ◌+◌, ◌-◌, ◌≤◌, ◌<◌}
use native.Mathlib.Omega.{arith}
use mathlib.Core.Bool.{Bool, true, false, cond, ◌&&◌}
use mathlib.Core.List.{List, [], ◌∷◌}
use lib.Dec.{ltb, leb, eqb}
use lib.ListN.{length}
use borrow.Author.Tests.{ltb-true, leb-true, eqb-true, lt-ltb}
use Rattle.lists.specs.Lists.{All, nil, cons, passing}
use Rattle.lists.proofs.ListLaws.{all_map, passing-pass, passing-all, passing-length, passing-same}
use Rattle.model.specs.Doing.{lead_times_valid, opening_state, after, sent, sent_for, not_past, reply}
use Rattle.model.specs.Messages.{origin_of}
use Rattle.model.specs.declared.Kind.{Kind}
use Rattle.model.specs.declared.Kind.TheVariants.{Failure, Request, Delivery, Restock, Start, Lvt, Update}
use Rattle.model.specs.EventOrder.{key}
use Rattle.model.specs.declared.Message.{Message}
use Rattle.model.specs.declared.State.{State}
use Rattle.model.specs.declared.Site.{Site}
use Rattle.memory.proofs.LeadTimeFacts.{at_least_one}
use Rattle.model.proofs.Ordered.{key-injective}
use Rattle.model.proofs.Sending.{sending}
use Rattle.frame.specs.Limits.{nothing_due}
use Rattle.lists.proofs.BoolLaws.{and_left, and_right, and_both}
use Rattle.memory.specs.Records.{site_of}
use Rattle.gateway.specs.SettingUp.{settings_of, cut_frames, queued}
use Rattle.gateway.specs.Working.{pending_of}
use Rattle.event_steps.specs.Models.{Model, ModelLaws, first}
use Rattle.run.specs.Forecast.{SetUpInput}

-- a list of at most one element has what that element has
pub all-of-one : {A : Type 0} {p : A → Type 0} (xs : List A) → length xs ≤ 1 → ((x : A) → xs ≡ x ∷ [] → p x) → All p xs
all-of-one [] h f = nil
all-of-one (x ∷ []) h f = cons (f x refl) nil
all-of-one (x ∷ y ∷ xs) h f = absurd (omega arith)

-- where gateway i does its messages
abbrev pub site_at : (ℕ → SetUpInput) → ℕ → Site
site_at setups i = site_of (settings_of (setups i).opening)

module _ (n last : ℕ) (setups : ℕ → SetUpInput) where
  -- the settings of gateway i are the forecast's
  pub record Settled (i : ℕ) : Type 0 where
    pub own : (setups i).opening.own ≡ i
    pub count : (setups i).opening.n ≡ n
    pub until : (setups i).opening.last ≡ last
    pub supplied : (setups i).opening.supplier < n
    pub hours : lead_times_valid (setups i).opening.hours ≡ true

  -- a message to one of the gateways, of an hour
  abbrev pub deliverable : Message → Bool
  deliverable m = ltb m.to n && ltb m.hour nothing_due

  -- an opening message of gateway i, of an hour
  abbrev pub opening_here : ℕ → Message → Bool
  opening_here i m = eqb m.to i && ltb m.hour nothing_due

  -- gateway i's opening messages in event order, as set up puts them into the queue
  unfoldable pub opening_at : ℕ → List Message
  opening_at i = let list = (setups i).list in pending_of (queued [] (cut_frames (length list) list))

  -- what doing m at gateway i sends
  unfoldable pub sends_at : ℕ → State → Message → List Message
  sends_at i s m = passing deliverable (sent (site_at setups i) s m)

  -- what is proved of each message that is sent
  sends-all : (i : ℕ) (s : State) (m : Message) {p : Message → Type 0} → ((x : Message) → sent (site_at setups i) s m ≡ x ∷ [] → p x) → All p (sends_at i s m)
  unfolding sends_at
  sends-all i s m f = passing-all deliverable (all-of-one (sent (site_at setups i) s m) (sending (site_at setups i) s m).one f)

  sends-pass : (i : ℕ) (s : State) (m : Message) → All (λ x. deliverable x ≡ true) (sends_at i s m)
  unfolding sends_at
  sends-pass i s m = passing-pass deliverable (sent (site_at setups i) s m)

  -- what is asked of the model
  opening-here : (i : ℕ) → All (λ y. y.to ≡ i) (passing (opening_here i) (opening_at i))
  opening-here i =
      all_map (λ y h. eqb-true y.to i (and_left (eqb y.to i) (ltb y.hour nothing_due) h)) (passing-pass (opening_here i) (opening_at i))

  opening-due : (i : ℕ) → All (λ y. first (key y) < nothing_due) (passing (opening_here i) (opening_at i))
  unfolding first key
  opening-due i =
      all_map (λ y h. ltb-true y.hour nothing_due (and_right (eqb y.to i) (ltb y.hour nothing_due) h)) (passing-pass (opening_here i) (opening_at i))

  sends-one : (i : ℕ) (s : State) (m : Message) → length (sends_at i s m) ≤ 1
  unfolding sends_at
  sends-one i s m = omega (arith, passing-length deliverable (sent (site_at setups i) s m), (sending (site_at setups i) s m).one)

  sends-from : (i : ℕ) → Settled i → (s : State) (m : Message) → All (λ y. y.from ≡ i) (sends_at i s m)
  sends-from i settled s m = sends-all i s m (λ x e. (sending (site_at setups i) s m).source x e ∙ settled.own)

  sends-inside : (i : ℕ) (s : State) (m : Message) → All (λ y. y.to ≤ n - 1) (sends_at i s m)
  sends-inside i s m =
      all_map (λ y h. omega (arith, ltb-true y.to n (and_left (ltb y.to n) (ltb y.hour nothing_due) h))) (sends-pass i s m)

  sends-later : (i : ℕ) → Settled i → (s : State) (m : Message) → All (λ y. first (key m) < first (key y)) (sends_at i s m)
  unfolding first key
  sends-later i settled s m = sends-all i s m (λ x e. (sending (site_at setups i) s m).later (at_least_one _ settled.hours) x e)

  sends-due : (i : ℕ) (s : State) (m : Message) → All (λ y. first (key y) < nothing_due) (sends_at i s m)
  unfolding first key
  sends-due i s m =
      all_map (λ y h. ltb-true y.hour nothing_due (and_right (ltb y.to n) (ltb y.hour nothing_due) h)) (sends-pass i s m)

  -- the model
  abbrev pub forecast_model : Model
  forecast_model = record {
    Message = Message;
    State = State;
    key = key;
    from = λ m. m.from;
    to = λ m. m.to;
    last = n - 1;
    never = nothing_due;
    start = λ i. opening_state (setups i).opening.stock;
    opening = λ i. passing (opening_here i) (opening_at i);
    step = λ i s m. after s m.kind;
    sends = sends_at;
    key-injective = key-injective;
  }

  -- its laws, where every gateway's settings are the forecast's
  pub forecast_laws : 1 ≤ n → ((i : ℕ) → i < n → Settled i) → ModelLaws forecast_model
  forecast_laws some settled =
      record {
        opening-here = λ i inside. opening-here i;
        opening-due = λ i inside. opening-due i;
        sends-one = λ i inside. sends-one i;
        sends-from = λ i inside. sends-from i (settled i (omega arith));
        sends-inside = λ i inside. sends-inside i;
        sends-later = λ i inside. sends-later i (settled i (omega arith));
        sends-due = λ i inside. sends-due i;
      }

  -- at a gateway below N, with the message's origin below N, nothing that the lamp model sends is left out
  module _ (i : ℕ) (here : i < n) (settled : Settled i) (hours : last < nothing_due) where
    abbrev site : Site
    site = site_at setups i

    own-here : site.own < n
    own-here = omega (arith, settled.own)

    replied : (m : Message) (extra to : ℕ) (kind : Kind) → to < n → All (λ x. deliverable x ≡ true) (not_past site.last (reply site m extra to kind))
    replied m extra to kind h = timely (leb (m.hour + extra) site.last) refl
      where
        timely : (b : Bool) → leb (m.hour + extra) site.last ≡ b → All (λ x. deliverable x ≡ true) (cond b (reply site m extra to kind ∷ []) [])
        timely true e =
            cons (and_both (ltb to n) (ltb (m.hour + extra) nothing_due) (lt-ltb to n h) (lt-ltb (m.hour + extra) nothing_due (omega (
              arith,
              leb-true (m.hour + extra) site.last e,
              settled.until,
            )))) nil
        timely false e = nil

    sent-for : (s : State) (m : Message) (kind : Kind) → origin_of kind < n → All (λ x. deliverable x ≡ true) (sent_for site s m kind)
    sent-for s m (Failure origin) h = replied m _ _ _ settled.supplied
    sent-for s m (Request origin) h = by-stock (ltb 0 s.stock)
      where
        by-stock : (b : Bool) → All (λ x. deliverable x ≡ true) (cond b (not_past site.last (reply site m site.hours.delivery origin (Delivery
            origin))) (not_past site.last (reply site m site.hours.request site.supplier (Request origin))))
        by-stock true = replied m _ origin (Delivery origin) h
        by-stock false = replied m _ site.supplier (Request origin) settled.supplied
    sent-for s m (Delivery origin) h = replied m _ _ _ own-here
    sent-for s m (Restock quantity) h = nil
    sent-for s m Start h = nil
    sent-for s m Lvt h = nil
    sent-for s m Update h = nil

    pub sends-all-sent : (s : State) (m : Message) → origin_of m.kind < n → sends_at i s m ≡ sent site s m
    unfolding sends_at sent
    sends-all-sent s m h = passing-same deliverable (sent-for s m m.kind h)

    -- the origin of what is sent is a gateway too
    not-past : {p : Message → Type 0} (x : Message) → p x → All p (not_past site.last x)
    not-past {p} x h = timely (leb x.hour site.last)
      where
        timely : (b : Bool) → All p (cond b (x ∷ []) [])
        timely true = cons h nil
        timely false = nil

    origins-for : (s : State) (m : Message) (kind : Kind) → origin_of kind < n → All (λ x. origin_of x.kind < n) (sent_for site s m kind)
    origins-for s m (Failure origin) h = not-past (reply site m site.hours.request site.supplier (Request site.own)) own-here
    origins-for s m (Request origin) h = by-stock (ltb 0 s.stock)
      where
        by-stock : (b : Bool) → All (λ x. origin_of x.kind < n) (cond b (not_past site.last (reply site m site.hours.delivery origin (Delivery
            origin))) (not_past site.last (reply site m site.hours.request site.supplier (Request origin))))
        by-stock true = not-past (reply site m site.hours.delivery origin (Delivery origin)) h
        by-stock false = not-past (reply site m site.hours.request site.supplier (Request origin)) h
    origins-for s m (Delivery origin) h = not-past (reply site m site.hours.life site.own (Failure site.own)) own-here
    origins-for s m (Restock quantity) h = nil
    origins-for s m Start h = nil
    origins-for s m Lvt h = nil
    origins-for s m Update h = nil

    pub sends-origins : (s : State) (m : Message) → origin_of m.kind < n → All (λ x. origin_of x.kind < n) (sends_at i s m)
    unfolding sends_at sent
    sends-origins s m h = passing-all deliverable (origins-for s m m.kind h)
