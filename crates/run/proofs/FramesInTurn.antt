-- A frame under way is taken at its addressee, or there is not room for it.
use mathlib.Core.Path.{◌≡◌, refl, sym, ◌∙◌, ap, subst}
use Prim.Native.Nat.{ℕ, ◌-◌, ◌/◌, ◌≤◌, ◌<◌}
use native.Mathlib.Omega.{arith}
use mathlib.Core.Bool.{Bool, true, false, cond, not, ◌&&◌, ◌||◌, true≢false, false≢true}
use mathlib.Core.List.Memᴰ
use mathlib.Core.List.{List, [], ◌∷◌, map}
use mathlib.Core.Logic.{⊎_elim}
use lib.Dec.{eqb}
use lib.ListN.{length}
use borrow.Author.Tests.{eq-eqb, ltb-true, le-ltb, le-leb}
use Rattle.lists.specs.Lists.{◌∈◌, any, All, nil, cons, Insert}
use Rattle.lists.proofs.ListLaws.{all-taken, all_left, all_right, all-each}
use Rattle.routing.specs.Arcs.{from, to}
use Rattle.model.specs.EventOrder.{key}
use Rattle.model.specs.Messages.{kind_number}
use Rattle.model.specs.declared.Message.{Message}
use Rattle.model.specs.declared.Kind.{Kind}
use Rattle.model.specs.declared.Kind.TheVariants.{Failure, Request, Delivery, Restock, Start, Lvt, Update}
use Rattle.frame.specs.Reasons.{frame_read}
use Rattle.frame.specs.Limits.{addressee, numbers_below, hour_allowed, refusal, refusal_where}
use Rattle.frame.specs.declared.Frame.{Frame}
use Rattle.frame.specs.declared.Sense.{Sense}
use Rattle.frame.specs.declared.Sense.TheVariants.{Plain, Cancel, Acknowledgment, CancelAcknowledgment}
use Rattle.memory.specs.Records.{Gateway}
use Rattle.memory.specs.Validity.{equal}
use Rattle.memory.specs.declared.Sent.{Sent}
use Rattle.memory.proofs.EventLaws.{same-equal}
use Rattle.lists.proofs.BoolLaws.{and_left, and_right}
use Rattle.gateway.specs.Effects.{Effect, Outcome, fits, settled, refused}
use Rattle.gateway.specs.Taking.{is_sent, take_plain, take_cancel, take_acknowledgment}
use Rattle.gateway.specs.Rounds.{is_idle, awaited, take_start, take_lvt, take_update}
use Rattle.gateway.specs.Calls.{taken, unless_below, take_by_kind, take_by_sense, take_frame, take_bytes}
use Rattle.routing.proofs.FewArcs.{from-few, to-few}
use Rattle.event_steps.specs.Models.{hour, first}
use Rattle.event_steps.specs.Gateways.{Event, plain, cancel, message, Network, Gateway as View}
use Rattle.round_steps.specs.RoundSteps.{RoundFrame, start, lvt, update, InTurn, start-in-turn, lvt-in-turn, update-in-turn}
use Rattle.timewarp.specs.Claims.{IsOutstanding}
use Rattle.timewarp.specs.Worlds as Worlds
use Rattle.round_steps.proofs.ArcLaws.{ChildOf, child, no-child, child?}
use Rattle.timewarp.proofs.Theorem.{claim-holds}
use Rattle.run.specs.Forecast.{SetUpInput}
use Rattle.run.specs.World.{World, Carried}
use Rattle.run.proofs.FigureGraph.{figure_graph, tells_is, hears-is}
use Rattle.run.proofs.QueueViews.{event_if, event_for}
use Rattle.run.proofs.ArrivalBits.{first-arrival}
use Rattle.run.proofs.Standing.{StandingAt, start_in, lvt_in, lvt_bits, is-idle, is-finished, is-counting, is-stopped}
use Rattle.run.proofs.EventsUnderWay.{seen-have, event_of, acknowledged_of}
use Rattle.run.proofs.RoundsUnderWay.{round_of, rounds_in}
use Rattle.run.proofs.AcceptedFrames.{outcome_of}
use Rattle.run.proofs.AcceptedCalls.{call-number}
use Rattle.run.proofs.PassingFrames.{Passing, passing-form}
use Rattle.run.proofs.EventCalls.{own_is, count-is, until-is}
use Rattle.run.proofs.BothWorlds.{Both, forecast_setting, gateways_in, model-laws}

-- refused only for want of room
abbrev pub OnlyRoom : ℕ → Type 0
OnlyRoom number = (number ≡ 0 → ⊥) → number ≡ 5

settled-room : (room : ℕ) (g : Gateway) (e : Effect) → OnlyRoom (settled room g e).number
unfolding settled
settled-room room g e = by-case (fits room e)
  where
    by-case : (t : Bool) → OnlyRoom (cond t (outcome_of e) (refused 5 g)).number
    by-case true h = absurd (h refl)
    by-case false h = refl

in-time : (hour : ℕ) (g : Gateway) (r : Outcome) → g.agreed ≤ hour → OnlyRoom r.number → OnlyRoom (unless_below hour g r).number
in-time hour g r h o = rw (le-ltb hour g.agreed h) o

-- events of different senses or messages differ
abbrev is_cancel : Event Message → Bool
is_cancel (plain x) = false
is_cancel (cancel x) = true

other-event : (c d : Bool) (m y : Message) → (cond c d (not d) && equal y m) ≡ false → event_if c m ≡ event_if d y → ⊥
unfolding message
other-event true true m y h e = true≢false (sym (same-equal y m (sym (ap message e))) ∙ h)
other-event true false m y h e = true≢false (ap is_cancel e)
other-event false true m y h e = false≢true (ap is_cancel e)
other-event false false m y h e = true≢false (sym (same-equal y m (sym (ap message e))) ∙ h)

-- none of what is outstanding is the event where none is found
none_found : (c : Bool) (m : Message) (xs : List Sent) → any (is_sent c m) xs ≡ false → All (λ e. event_if c m ≡ e → ⊥) (map event_for xs)
unfolding any
none_found c m [] h = nil
none_found c m (x ∷ xs) h = by_first (is_sent c m x) refl h (none_found c m xs)
  where
    by_first : (t : Bool) → is_sent c m x ≡ t → (t || any (is_sent c m) xs) ≡ false → (any (is_sent c m) xs ≡ false → All (λ e. event_if c m ≡ e
        → ⊥) (map event_for xs))
        → All (λ e. event_if c m ≡ e → ⊥) (event_for x ∷ map event_for xs)
    by_first true p h ih = absurd (true≢false h)
    by_first false p h ih = cons (other-event c x.cancel m x.message p) (ih h)

-- an event that is outstanding is found
outstanding-found : (c : Bool) (m : Message) (xs : List Sent) (rest : List (Event Message)) → Insert (event_if c m) rest (map event_for xs) →
    any (is_sent c m) xs ≡ true
outstanding-found c m xs rest i = by-case (any (is_sent c m) xs) refl
  where
    by-case : (t : Bool) → any (is_sent c m) xs ≡ t → any (is_sent c m) xs ≡ true
    by-case true p = p
    by-case false p = absurd (all-taken i (none_found c m xs p) refl)

-- what all frames of rounds under way have, those of one of them have
rounds-have : {p : RoundFrame → Type 0} (cs : List Carried) → All p (rounds_in cs) → (c : Carried) → c ∈ cs → All p (round_of (c.tag - 1)
    (frame_read c.frame))
unfolding rounds_in
rounds-have [] a c m = absurd (Memᴰ.not-nil m)
rounds-have {p} (d ∷ cs) a c m =
    ⊎_elim
    (λ (e : c ≡ d). subst (λ (x : Carried). All p (round_of (x.tag - 1) (frame_read x.frame))) (sym e) (all_left (round_of (d.tag -
    1) (frame_read d.frame)) (rounds_in cs) a))
    (λ k. rounds-have cs (all_right (round_of (d.tag - 1) (frame_read d.frame)) (rounds_in cs) a) c k)
    (Memᴰ.cases_cons m)

pub only : {A : Type 0} {p : A → Type 0} (x : A) → All p (x ∷ []) → p x
only x (cons h a) = h

module _ (n : ℕ) (some : 1 ≤ n) (last : ℕ) (setups : ℕ → SetUpInput) {w : World} {t : Worlds.World (forecast_setting n some last setups)} (b
    : Both n some last setups w t) (c : Carried) (under : c ∈ w.under_way) where
  abbrev f : Frame
  f = (frame_read c.frame)

  abbrev m : Message
  m = f.message

  -- it is of the forms, and its numbers and its hour are in their ranges
  passes : Passing n last c.frame
  passes = all-each b.passing c under

  -- the frames of a round are in their turn
  pub turns : All (InTurn (figure_graph n some) t.rounds) (round_of (c.tag - 1) f)
  turns =
      rounds-have w.under_way
      (subst (All (InTurn (figure_graph n some) t.rounds)) (sym b.rounds.frames) (claim-holds (forecast_setting n some last setups)
      (model-laws n some last setups b) b.beside.reached).in-turn)
      c
      under

  -- the gateway i that it is addressed to
  module _ (i : ℕ) (inside : i < n) (here : addressee f.sense m ≡ i) (room : ℕ) where
    abbrev g : Gateway
    g = gateways_in n some last setups w i

    time-is : t.rounds.agreed i ≡ g.agreed
    time-is = b.beside.times i inside ∙ sym (b.beside.gateway-times i inside)

    -- an event is not below the agreed time
    event-in-time : (e : Event Message) → event_of f ≡ e ∷ [] → g.agreed ≤ (message e).hour
    unfolding hour first key
    event-in-time e is =
        let r = (claim-holds (forecast_setting n some last setups) (model-laws n some last setups b) b.beside.reached).bound-events i (omega arith) in
        let a = seen-have event_of w.under_way (subst (λ (k : Network Message). All (λ (x : Event Message). t.rounds.agreed i ≤ (message
        x).hour) k.events) b.beside.network r) c under in
        omega (arith, only e (subst (All (λ (x : Event Message). t.rounds.agreed i ≤ (message x).hour)) is a), time-is)

    plain-room : event_of f ≡ plain m ∷ [] → OnlyRoom (unless_below m.hour g (settled room g (take_plain m g))).number
    unfolding message
    plain-room is = in-time m.hour g (settled room g (take_plain m g)) (event-in-time (plain m) is) (settled-room room g (take_plain m g))

    -- an acknowledgment is of something outstanding
    acknowledgment-room : (x : Bool) → acknowledged_of f ≡ event_if x m ∷ [] → (message (event_if x m)).from ≡ i → OnlyRoom (take_acknowledgment x m g).number
    unfolding take_acknowledgment
    acknowledgment-room x is from-here =
        let r = (claim-holds (forecast_setting n some last setups) (model-laws n some last setups b) b.beside.reached).acknowledged in
        let a = seen-have acknowledged_of w.under_way (subst (λ (k : Network Message). All (IsOutstanding (forecast_setting n some last
        setups) t) k.acknowledgments) b.beside.network r) c under in
        let (rest, put) = only (event_if x m) (subst (All (IsOutstanding (forecast_setting n some last setups) t)) is a) in
        let sent : Insert (event_if x m) rest (map event_for g.outstanding) =
        subst (λ (v : View Message). Insert (event_if x m) rest v.outstanding) (ap t.events.gateways from-here ∙ b.beside.views i inside) put in
        rw (outstanding-found x m g.outstanding rest sent) (λ h. absurd (h refl))

    heard-is : from g.settings.n g.settings.own ≡ (figure_graph n some).from i
    heard-is = ap (λ (x : ℕ). from x g.settings.own) (count-is (b.stands i inside)) ∙ ap (from n) (own_is (b.stands i inside)) ∙ sym (hears-is n some i inside)

    told_is : to g.settings.n g.settings.own ≡ (figure_graph n some).to i
    told_is = ap (λ (x : ℕ). to x g.settings.own) (count-is (b.stands i inside)) ∙ ap (to n) (own_is (b.stands i inside)) ∙ sym (tells_is n some i inside)

    few-heard : length ((figure_graph n some).from i) ≤ 2
    few-heard = subst (λ (l : List ℕ). length l ≤ 2) (sym (hears-is n some i inside)) (from-few n i inside).two

    few-told : length ((figure_graph n some).to i) ≤ 2
    few-told = subst (λ (l : List ℕ). length l ≤ 2) (sym (tells_is n some i inside)) (to-few n i inside).two

    start-room : {k tag : ℕ} → InTurn (figure_graph n some) t.rounds (start k i tag) → OnlyRoom (take_start room k g).number
    unfolding take_start
    start-room {k} (start-in-turn a s z e) = by-standing (b.rounds.standing i (omega arith))
      where
        by-standing : StandingAt (figure_graph n some) t.rounds.status t.rounds.mark t.rounds.arrived i g.round → OnlyRoom
            (take_start room k g).number
        by-standing (is-idle p q r) =
            let idles : is_idle g.round.phase ≡ true = ap is_idle p in
            let first : awaited k (from g.settings.n g.settings.own) g.round.arrived ≡ true =
            rw (heard-is, r) (first-arrival (start_in (figure_graph n some) t.rounds.arrived i) k ((figure_graph n some).from i) few-heard
            (omega (arith, (figure_graph n some).matched k i)) (rw z refl)) in
            rw (idles, first) (settled-room room g _)
        by-standing (is-finished p q r) = absurd (omega arith)
        by-standing (is-counting p q r v) = absurd (omega arith)
        by-standing (is-stopped p q r v) = absurd (omega arith)

    lvt-room : {k tag hour : ℕ} → InTurn (figure_graph n some) t.rounds (lvt k i tag hour) → OnlyRoom (unless_below hour g (take_lvt room k hour g)).number
    unfolding take_lvt
    lvt-room {k} {tag} {hour} (lvt-in-turn a s u z v e) =
        in-time hour g (take_lvt room k hour g) (omega (arith, time-is)) (by-standing (b.rounds.standing i (omega arith)))
      where
        awaits : g.round.arrived ≡ lvt_bits (figure_graph n some) t.rounds.arrived i → is_idle g.round.phase ≡ false → OnlyRoom
            (take_lvt room k hour g).number
        awaits r begun =
            let first : awaited k (to g.settings.n g.settings.own) g.round.arrived ≡ true =
            rw (told_is, r) (first-arrival (lvt_in (figure_graph n some) t.rounds.arrived i) k ((figure_graph n some).to i) few-told a (rw z refl)) in
            rw (begun, first) (settled-room room g _)

        by-standing : StandingAt (figure_graph n some) t.rounds.status t.rounds.mark t.rounds.arrived i g.round → OnlyRoom
            (take_lvt room k hour g).number
        by-standing (is-idle p q r) = absurd (omega arith)
        by-standing (is-finished p q r) = absurd (omega arith)
        by-standing (is-counting p q r v) = awaits r (ap is_idle p)
        by-standing (is-stopped p q r v) = awaits r (ap is_idle p)

    update-room : {k tag hour : ℕ} → InTurn (figure_graph n some) t.rounds (update k i tag hour) → OnlyRoom (take_update room k hour g).number
    unfolding take_update
    update-room {k} {tag} {hour} (update-in-turn a s z) = by-child (child? (n - 1) k i)
      where
        by-child : ChildOf (n - 1) k i → OnlyRoom (take_update room k hour g).number
        by-child (child h) =
            let own = own_is (b.stands i inside) in
            rw (le-leb 1 g.settings.own (omega arith), eq-eqb k ((g.settings.own - 1) / 2) (omega arith)) (settled-room room g _)
        by-child (no-child h) = absurd (omega arith)

    to-here : f.sense ≡ Plain → m.to ≡ i
    to-here s = rw s at here

    -- by its kind and its sense
    by-kind : f.sense ≡ Plain → (k : Kind) → m.kind ≡ k → eqb (kind_number k) 3 ≡ false → OnlyRoom (take_by_kind room m g k).number
    by-kind s (Failure origin) e p = plain-room (rw (s, e) refl)
    by-kind s (Request origin) e p = plain-room (rw (s, e) refl)
    by-kind s (Delivery origin) e p = plain-room (rw (s, e) refl)
    by-kind s (Restock quantity) e p = absurd (true≢false p)
    by-kind s Start e p =
        start-room (only (start m.from i (c.tag - 1)) (subst (λ (x : ℕ). All (InTurn (figure_graph n some) t.rounds) (start m.from
        x (c.tag - 1) ∷ [])) (to-here s) (rw e at turns)))
    by-kind s Lvt e p =
        lvt-room (only (lvt m.from i (c.tag - 1) m.hour) (subst (λ (x : ℕ). All (InTurn (figure_graph n some) t.rounds) (lvt
        m.from x (c.tag - 1) m.hour ∷ [])) (to-here s) (rw e at turns)))
    by-kind s Update e p =
        update-room (only (update m.from i (c.tag - 1) m.hour) (subst (λ (x : ℕ). All (InTurn (figure_graph n some) t.rounds)
        (update m.from x (c.tag - 1) m.hour ∷ [])) (to-here s) (rw e at turns)))

    by-sense : (s : Sense) → f.sense ≡ s → eqb (kind_number m.kind) 3 ≡ false → OnlyRoom (take_by_sense room m g s).number
    unfolding message
    by-sense Plain s p = by-kind s m.kind refl p
    by-sense Cancel s p = in-time m.hour g (settled room g (take_cancel m g)) (event-in-time (cancel m) (rw s refl)) (settled-room room g (take_cancel m g))
    by-sense Acknowledgment s p = acknowledgment-room false (rw s refl) (rw s at here)
    by-sense CancelAcknowledgment s p = acknowledgment-room true (rw s refl) (rw s at here)

    -- taking its bytes
    bytes-room : OnlyRoom (take_bytes c.frame room g).number
    unfolding take_bytes take_frame refusal refusal_where
    bytes-room =
        let p = passes in
        let st = b.stands i inside in
        let own : eqb (addressee f.sense m) g.settings.own ≡ true = eq-eqb (addressee f.sense m) g.settings.own (here ∙ sym (own_is st)) in
        let numbers : numbers_below g.settings.n m ≡ true = rw (count-is st) p.numbers in
        let hours : hour_allowed g.settings.last m ≡ true = rw (until-is st) p.hour in
        rw (passing-form c.frame p, own, numbers, hours) (by-sense f.sense refl p.kind)

  -- the gateway that it is addressed to
  receiver-inside : addressee f.sense m < n
  receiver-inside = by-sense f.sense
    where
      from-below : m.from < n
      from-below = ltb-true m.from n (let k = passes.numbers in search (and_left, and_right) depth 9)

      to_below : m.to < n
      to_below = ltb-true m.to n (let k = passes.numbers in search (and_left, and_right) depth 9)

      by-sense : (s : Sense) → addressee s m < n
      by-sense Plain = to_below
      by-sense Cancel = to_below
      by-sense Acknowledgment = from-below
      by-sense CancelAcknowledgment = from-below

  -- it is taken there, or there is not room for it
  pub taken-or-room : (output : List ℕ)
      → (addressee f.sense m < n) × OnlyRoom (taken (w.memories (addressee f.sense m)) c.frame output).answer.number
  unfolding taken
  taken-or-room output =
      let i = addressee f.sense m in
      let inside = receiver-inside in
      (inside, rw (call-number (take_bytes c.frame) (w.memories i) output (b.bytes i inside).is-sound) (bytes-room i inside refl (length output)))
