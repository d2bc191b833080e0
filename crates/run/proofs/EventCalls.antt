-- Doing an event, taking a plain message, a cancel or an acknowledgment, and commit are chains of steps at their gateway.
use mathlib.Core.Path.{◌≡◌, refl, sym, ◌∙◌, ap, subst}
use Prim.Native.Nat.{ℕ, ◌≤◌, ◌<◌}
use native.Mathlib.Omega.{arith}
use mathlib.Core.Bool.{Bool, true, false, cond, not, true≢false}
use mathlib.Core.List.Memᴰ
use mathlib.Core.List.Memᴰ.{head as member-first}
use mathlib.Core.List.{List, [], ◌∷◌, ◌++◌, map, append_assoc, append-nil}
use mathlib.Core.Logic.{⊎_elim}
use borrow.Author.Tests.{not-true}
use Rattle.lists.specs.Lists.{◌∈◌, Ascending, none as ended, more, any, without_first, before_last, from_last, tail_of, All, nil, cons, Insert, here}
use Rattle.lists.proofs.SearchLaws.{cut-first, before-fails, around-last}
use Rattle.lists.proofs.ListLaws.{insert-last, insert-between, inserts-back, all_map}
use Rattle.model.specs.Doing.{after, sent}
use Rattle.model.specs.EventOrder.{key}
use Rattle.model.specs.Messages.{origin_of}
use Rattle.model.specs.declared.Message.{Message}
use Rattle.model.specs.declared.State.{State}
use Rattle.model.specs.declared.Site.{Site}
use Rattle.memory.specs.Records.{Gateway, site_of}
use Rattle.memory.specs.Validity.{is_pending, is_processed, is_waiting, equal, later}
use Rattle.memory.specs.declared.Entry.{Entry}
use Rattle.memory.specs.declared.Sent.{Sent}
use Rattle.memory.specs.declared.Round.{Round}
use Rattle.memory.specs.declared.Settings.{Settings}
use Rattle.memory.proofs.EventLaws.{equal-same, not-later-self}
use Rattle.memory.proofs.Validated.{Valid, MayStand, first_of}
use Rattle.lists.proofs.BoolLaws.{and_left, and_right}
use Rattle.gateway.specs.Effects.{with_queue, with_state, with_round, with_outstanding, noted, sent_one, sent_all}
use Rattle.gateway.specs.SettingUp.{settings_of}
use Rattle.gateway.specs.Undoing.{processed_of, pending_entry, undone, restored, sent_back, rolled_back}
use Rattle.gateway.specs.Working.{pending_of, processed_next, done}
use Rattle.lists.specs.Lists.{before_first, from_first}
use Rattle.gateway.specs.Taking.{is_later, is_cancel_of, is_plain, is_sent, waiting_entry, take_plain, take_cancel}
use Rattle.gateway.proofs.Searches.{pending-member, behind-later}
use Rattle.event_steps.specs.Models.{Model, NotLater, hour, first, sent_by}
use Rattle.event_steps.specs.Gateways.{Event, plain, cancel, message, history, gateway_of, network_of, Network, Gateway as View}
use Rattle.event_steps.specs.EventSteps.{does, takes, takes_acknowledgment, commits, becomes_pending, meets_cancel, strikes_out, waits}
use Rattle.timewarp.proofs.CallChains.{insert-append}
use Rattle.run.specs.Forecast.{SetUpInput}
use Rattle.run.specs.WhatWaits.{waiting_of}
use Rattle.run.proofs.EventOrders.{not-later-keys, later-keys}
use Rattle.run.proofs.ForecastModel.{forecast_model, site_at, Settled, sends_at, sends-all-sent}
use Rattle.run.proofs.QueueViews.{event_if, event_for, done_after, view_of, done-append, done-history, pending-append}
use Rattle.run.proofs.QueueViews.{waiting-append, undone-done, undone-waiting, Marked, marked, pending, processed, waiting}
use Rattle.run.proofs.SavedStates.{state_at, Saved, saved-front, saved-back, saved-join, saved-state, saved-restored, saved-undone, saved-more}
use Rattle.run.proofs.QueueChanges.{done_all, Found, last_found, cancel-met, oldest-taken, each_all, next-done, sent-taken}
use Rattle.run.proofs.QueueChanges.{saved-without, saved-committed, saved-next}
use Rattle.run.proofs.LocalChains.{Chain, then, single}
use Rattle.run.proofs.UndoChains.{SendsAll, undo-chain}

-- what sending some messages, or their cancels, makes of a gateway
unfoldable pub noted_all : List Message → Round → Round
noted_all [] r = r
noted_all (m ∷ ms) r = noted_all ms (noted m.hour r)

abbrev pub sent_as : Bool → Message → Sent
sent_as c m = record { message = m; cancel = c }

pub sent-all : (c : Bool) (ms : List Message) (g : Gateway) → sent_all c ms g ≡ with_outstanding (g.outstanding ++ map (sent_as c) ms)
    (with_round (noted_all ms g.round) g)
unfolding sent_all sent_one noted_all
sent-all c [] g = ap (λ o. with_outstanding o g) (sym (append-nil g.outstanding))
sent-all c (m ∷ ms) g =
    sent-all c ms (sent_one c m g)
    ∙ ap (λ o. with_outstanding o (with_round (noted_all ms (noted m.hour g.round)) g)) (append_assoc g.outstanding (sent_as c m ∷ []) (map (sent_as c) ms))

pub sent-events : (c : Bool) (o : List Sent) (ms : List Message) → map event_for (o ++ map (sent_as c) ms) ≡ map event_for o ++ map (event_if c) ms
sent-events c [] [] = refl
sent-events c [] (m ∷ ms) = ap (λ l. event_if c m ∷ l) (sent-events c [] ms)
sent-events c (x ∷ o) ms = ap (λ l. event_for x ∷ l) (sent-events c o ms)

-- a queue's messages that are pending are all not earlier than the first
pending-later : {es : List Entry} → Ascending MayStand es → (m : Message) → All (λ e. later m e.message ≡ false) es → All (λ x. later m x
    ≡ false) (pending_of es)
unfolding pending_of
pending-later ended m a = nil
pending-later (more {x = e} {xs = es} f b) m (cons p a) = by-case (is_pending e) (pending-later b m a)
  where
    by-case : (t : Bool) → All (λ x. later m x ≡ false) (pending_of es) → All (λ x. later m x ≡ false) (cond t (e.message ∷ pending_of es) (pending_of es))
    by-case true r = cons p r
    by-case false r = r

pub pending-sorted : {es : List Entry} → Ascending MayStand es → (m : Message) (ms : List Message) → pending_of es ≡ m ∷ ms → All (λ x. later m x ≡ false) ms
unfolding pending_of
pending-sorted ended m ms k = absurd (let z : ◌≡◌ {A = ℕ} 0 1 = cc in omega arith)
pending-sorted (more {x = e} {xs = es} f a) m ms k = by-case (is_pending e) refl (pending-sorted a m ms)
  where
    by-case : (t : Bool) → is_pending e ≡ t → (pending_of es ≡ m ∷ ms → All (λ x. later m x ≡ false) ms) → All (λ x. later m x ≡ false) ms
    by-case true p ih =
        let first : e.message ≡ m = cc (rw p at k) in
        let rest : pending_of es ≡ ms = cc (rw p at k) in
        subst (All (λ x. later m x ≡ false)) rest (pending-later a m (each_all es (λ y d. rw first at (f y d).order)))
    by-case false p ih = ih (rw p at k)

-- the later part of an ordered list is ordered
pub ascending-right : {A : Type 0} {R : A → A → Type 0} (us : List A) {vs : List A} → Ascending R (us ++ vs) → Ascending R vs
ascending-right [] a = a
ascending-right (u ∷ us) (more f a) = ascending-right us a

-- gateway i of the forecast, which has committed c
pub record Stands (n last : ℕ) (setups : ℕ → SetUpInput) (i : ℕ) (c : List Message) (g : Gateway) : Type 0 where
  -- its settings are those that it was set up with, and are the forecast's
  pub settings : g.settings ≡ settings_of (setups i).opening
  pub settled : Settled n last setups i
  pub valid : Valid g
  pub saved : Saved n last setups i c g.queue g.state

-- its number, how many gateways there are, and the last hour
module _ {n last : ℕ} {setups : ℕ → SetUpInput} {i : ℕ} {c : List Message} {g : Gateway} (st : Stands n last setups i c g) where
  pub own_is : g.settings.own ≡ i
  own_is = ap (λ (s : Settings). s.own) st.settings ∙ st.settled.own

  pub count-is : g.settings.n ≡ n
  count-is = ap (λ (s : Settings). s.n) st.settings ∙ st.settled.count

  pub until-is : g.settings.last ≡ last
  until-is = ap (λ (s : Settings). s.last) st.settings ∙ st.settled.until

module _ (n last : ℕ) (setups : ℕ → SetUpInput) (i : ℕ) where
  abbrev model : Model
  model = forecast_model n last setups

  -- the gateway's view changes in steps
  abbrev pub Moves : ℕ → List Message → Gateway → List (Event Message) → List (Event Message) → List Message → List Message → Gateway → List
      (Event Message) → List (Event Message) → Type 1
  Moves time c g v a s c' g' v' a' =
      Chain model i time (view_of c g.queue g.outstanding) (network_of v a) s (view_of c' g'.queue g'.outstanding) (network_of v' a')

  -- views with equal lists are equal
  view-path : {c d d' p p' w w' : List Message} {o o' : List (Event Message)} → d ≡ d' → p ≡ p' → w ≡ w' → o ≡ o' → gateway_of c d p w o ≡
      gateway_of c d' p' w' o'
  view-path {c} d p w o = λ k. gateway_of c (d k) (p k) (w k) (o k)

  module _ {time : ℕ} {s : List Message} {m m' : Network Message} where
    -- a chain from an equal view, and to one
    chain-from : {g h k : View Message} → g ≡ h → Chain model i time h m s k m' → Chain model i time g m s k m'
    chain-from {k = k} e c = subst (λ x. Chain model i time x m s k m') (sym e) c

    chain-to : {g h k : View Message} → k ≡ h → Chain model i time g m s h m' → Chain model i time g m s k m'
    chain-to {g} e c = subst (λ x. Chain model i time g m s x m') (sym e) c

  module _ (c : List Message) (g : Gateway) (st : Stands n last setups i c g) where
    site : site_of g.settings ≡ site_at setups i
    site = ap site_of st.settings

    sends-all : SendsAll n last setups i
    sends-all =
        let s = st.valid.settings in
        sends-all-sent n last setups i
        (omega (arith, s.own, own_is st, count-is st))
        st.settled
        (omega (arith, s.last, until-is st))

    origins : (x : Entry) → x ∈ g.queue → origin_of x.message.kind < n
    origins x k = omega (arith, (st.valid.entries x k).message.origin, count-is st)

    -- doing the earliest pending message
    pub did : (m : Message) → (done m g).gateway ≡
        with_outstanding (g.outstanding ++ map (sent_as false) (sent (site_of g.settings) g.state m))
        (with_round (noted_all (sent (site_of g.settings) g.state m) g.round) (with_state (after g.state m.kind) (with_queue
        (processed_next g.state g.queue) g)))
    unfolding done
    did m = sent-all false (sent (site_of g.settings) g.state m) (with_state (after g.state m.kind) (with_queue (processed_next
        g.state g.queue) g))

    pending-origin : (m : Message) (ms : List Message) → pending_of g.queue ≡ m ∷ ms → origin_of m.kind < n
    pending-origin m ms k =
        let r = pending-member g.queue m (subst (λ l. m ∈ l) (sym k) (member-first refl)) in
        subst (λ (x : Message). origin_of x.kind < n) (sym r.2) (origins r.0 r.1)

    does-send : (m : Message) (ms : List Message) → pending_of g.queue ≡ m ∷ ms → sent_by model i (history (view_of c g.queue
        g.outstanding)) m ≡ sent (site_of g.settings) g.state m
    unfolding sent_by history
    does-send m ms k =
        ap (λ (s : State). sends_at n last setups i s m) now
        ∙ sends-all g.state m (pending-origin m ms k)
        ∙ ap (λ (z : Site). sent z g.state m) (sym site)
      where
        now : state_at n last setups i (done_after [] g.queue ++ c) ≡ g.state
        now = ap (state_at n last setups i) (sym (done-history c [] g.queue)) ∙ sym (saved-state n last setups i st.saved)

    pub done-moves : (m : Message) (ms : List Message) → pending_of g.queue ≡ m ∷ ms → (time : ℕ) (v a : List (Event Message)) →
        Moves time c g v a (sent (site_of g.settings) g.state m) c (done m g).gateway (v ++ map plain (sent (site_of g.settings) g.state m)) a
    done-moves m ms k time v a =
        chain-to
        (let d = next-done st.valid.order g.state m ms k in
        view-path
        (ap (λ (h : Gateway). done_after [] h.queue) (did m) ∙ d.is-done [])
        (ap (λ (h : Gateway). pending_of h.queue) (did m) ∙ d.left-pending)
        (ap (λ (h : Gateway). waiting_of h.queue) (did m) ∙ d.same-waiting)
        (ap (λ (h : Gateway). map event_for h.outstanding) (did m) ∙ sent-events false g.outstanding (sent (site_of g.settings) g.state m)))
        (subst
        (λ t.
        Chain model i time (view_of c g.queue g.outstanding) (network_of v a) t
        (gateway_of c (m ∷ done_after [] g.queue) ms (waiting_of g.queue) (map event_for g.outstanding ++ map plain t))
        (network_of (v ++ map plain t) a))
        (does-send m ms k)
        (single model
        (does m
        (subst (λ l. Insert m ms l) (sym k) here)
        (all_map (λ x p. not-later-keys m x p) (pending-sorted st.valid.order m ms k))
        (inserts-back _ _)
        (inserts-back _ _))))

    pub done-saved : (m : Message) (ms : List Message) → pending_of g.queue ≡ m ∷ ms → Saved n last setups i c (done m g).gateway.queue
        (done m g).gateway.state
    done-saved m ms k =
        subst (λ (h : Gateway). Saved n last setups i c h.queue h.state) (sym (did m)) (saved-next n last setups i st.valid.order st.saved m ms k)

    -- what undoing the processed ones of some entries takes back
    abbrev pub back : List Entry → List Message
    back es = sent_back (site_of g.settings) (processed_of es)

    pub rolled : (events : List Entry) → rolled_back events g ≡
        with_outstanding (g.outstanding ++ map (sent_as true) (sent_back (site_of g.settings) events))
        (with_round (noted_all (sent_back (site_of g.settings) events) g.round) (with_state (restored g.state events) g))
    unfolding rolled_back
    rolled events = sent-all true (sent_back (site_of g.settings) events) (with_state (restored g.state events) g)

    rolled-out : (es : List Entry) → map event_for (rolled_back (processed_of es) g).outstanding ≡ map event_for g.outstanding ++ map cancel (back es)
    rolled-out es = ap (λ (h : Gateway). map event_for h.outstanding) (rolled (processed_of es)) ∙ sent-events true g.outstanding (back es)

    -- the queue in two parts
    module _ (us rest : List Entry) (cut : us ++ rest ≡ g.queue) where
      saved-cut : Saved n last setups i c (us ++ rest) g.state
      saved-cut = subst (λ q. Saved n last setups i c q g.state) (sym cut) st.saved

      in_parts : view_of c g.queue g.outstanding ≡
          gateway_of c (done_after (done_after [] us) rest) (pending_of us ++ pending_of rest) (waiting_of us ++ waiting_of rest) (map event_for g.outstanding)
      in_parts =
          view-path
          (ap (done_after []) (sym cut) ∙ done-append [] us rest)
          (ap pending_of (sym cut) ∙ pending-append us rest)
          (ap waiting_of (sym cut) ∙ waiting-append us rest)
          refl

      -- the later part is undone for the event e
      undoing : (e : Event Message) → (message e).to ≡ i → ((x : Entry) → x ∈ rest → NotLater model (message e) x.message) → (time : ℕ) (v
          a : List (Event Message)) {others : List (Event Message)} → Insert e others v →
          Chain model i time
          (view_of c g.queue g.outstanding)
          (network_of v a)
          (back rest)
          (gateway_of c (done_after [] us) (pending_of us ++ pending_of (map undone rest)) (waiting_of us ++ waiting_of rest) (map event_for
          g.outstanding ++ map cancel (back rest)))
          (network_of (v ++ map cancel (back rest)) a)
      undoing e to-here later time v a under =
          chain-from in_parts
          (subst
          (λ (z : Site).
          Chain model i time
          (gateway_of c (done_after (done_after [] us) rest) (pending_of us ++ pending_of rest) (waiting_of us ++ waiting_of rest) (map event_for g.outstanding))
          (network_of v a)
          (sent_back z (processed_of rest))
          (gateway_of c (done_after [] us) (pending_of us ++ pending_of (map undone rest)) (waiting_of us ++ waiting_of rest) (map event_for
          g.outstanding ++ map cancel (sent_back z (processed_of rest))))
          (network_of (v ++ map cancel (sent_back z (processed_of rest))) a))
          (sym site)
          (undo-chain n last setups i sends-all time e to-here {c = c} {w = waiting_of us ++ waiting_of rest} rest (done_after [] us)
          (pending_of us) (map event_for g.outstanding) v a
          (subst (λ h. Saved n last setups i h rest g.state) (done-history c [] us) (saved-back n last setups i us rest saved-cut))
          (each_all rest (λ x k. record { later = later x k; origin = origins x (subst (λ q. x ∈ q) cut (Memᴰ.append_right us k)) }))
          under))

      -- the state before the later part
      rolled-state : (rolled_back (processed_of rest) g).state ≡ state_at n last setups i (done_after c us)
      rolled-state = ap (λ (h : Gateway). h.state) (rolled (processed_of rest)) ∙ saved-restored n last setups i (saved-back n last setups i us rest saved-cut)

      saved-rolled : {es : List Entry} → Saved n last setups i (done_after c us) es (state_at n last setups i (done_after c us)) → Saved n last
          setups i c (us ++ es) (rolled_back (processed_of rest) g).state
      saved-rolled {es} v = subst (λ (s : State). Saved n last setups i c (us ++ es) s) (sym rolled-state) (saved-join n last setups i
          (saved-front n last setups i us rest saved-cut) v)

      -- a plain message enters between the two
      enters-between : (m : Message) → m.to ≡ i → ((x : Entry) → x ∈ us → later x.message m ≡ false) → ((x : Entry) → x ∈ rest → later
          x.message m ≡ true) →
          (time : ℕ) → time ≤ m.hour → (v a : List (Event Message)) {v' : List (Event Message)} → Insert (plain m) v' v →
          Moves time c g v a (back rest) c (with_queue (us ++ (pending_entry m ∷ map undone rest)) (rolled_back (processed_of rest) g)) (v' ++
          map cancel (back rest)) (a ++ (plain m ∷ []))
      unfolding message hour first key done_after pending_of waiting_of
      enters-between m to-here before behind time due v a under =
          chain-to
          (view-path
          (done-append [] us (pending_entry m ∷ map undone rest) ∙ undone-done (done_after [] us) rest)
          (pending-append us (pending_entry m ∷ map undone rest))
          (waiting-append us (pending_entry m ∷ map undone rest) ∙ ap (λ l. waiting_of us ++ l) (undone-waiting rest))
          (rolled-out rest))
          (then
          (undoing (plain m) to-here (λ x k. later-keys x.message m (behind x k)) time v a under)
          (takes (plain m) (insert-append (map cancel (back rest)) under) (insert-last (plain m) a) to-here
          (becomes_pending m due
          (done_all (each_all us (λ x k. not-later-keys x.message m (before x k))) nil)
          (insert-between m (pending_of us) (pending_of (map undone rest)))))
          (sym (append-nil (back rest))))

      -- a cancel waits between the two
      waits-between : (m : Message) → m.to ≡ i → (time : ℕ) (v a : List (Event Message)) {v' : List (Event Message)} → Insert (cancel m) v' v →
          Moves time c g v a [] c (with_queue (us ++ (waiting_entry m ∷ rest)) g) v' (a ++ (cancel m ∷ []))
      unfolding message done_after pending_of waiting_of
      waits-between m to-here time v a under =
          chain-to
          (view-path
          (done-append [] us (waiting_entry m ∷ rest))
          (pending-append us (waiting_entry m ∷ rest))
          (waiting-append us (waiting_entry m ∷ rest))
          refl)
          (chain-from in_parts
          (single model (takes (cancel m) under (insert-last (cancel m) a) to-here (waits m (insert-between m (waiting_of us) (waiting_of rest))))))

      waits-saved : (m : Message) → Saved n last setups i c (us ++ (waiting_entry m ∷ rest)) g.state
      waits-saved m = saved-join n last setups i (saved-front n last setups i us rest saved-cut) (saved-more n last setups i refl
          (saved-back n last setups i us rest saved-cut))

    -- the cancel of m strikes out the entry x, of which what stands behind is undone
    module _ (m : Message) (us : List Entry) (x : Entry) (rest : List Entry) (cut : us ++ (x ∷ rest) ≡ g.queue) (is-plain : is_plain m x ≡ true) where
      same : x.message ≡ m
      same = equal-same x.message m (and_right (not (is_waiting x)) (equal x.message m) is-plain)

      not-waiting : is_waiting x ≡ false
      not-waiting = not-true (is_waiting x) (and_left (not (is_waiting x)) (equal x.message m) is-plain)

      becomes-pending : pending_of (map undone (x ∷ rest)) ≡ m ∷ pending_of (map undone rest)
      unfolding pending_of undone
      becomes-pending = by-mark (marked x)
        where
          by-mark : Marked x → pending_of (map undone (x ∷ rest)) ≡ m ∷ pending_of (map undone rest)
          by-mark (pending p q r) = rw (q, p, same)
          by-mark (processed p q r) = rw (q, same)
          by-mark (waiting p q r) = absurd (true≢false (sym r ∙ not-waiting))

      waiting-still : waiting_of (x ∷ rest) ≡ waiting_of rest
      unfolding waiting_of
      waiting-still = rw not-waiting

      not_earlier : (y : Entry) → y ∈ (x ∷ rest) → NotLater model m y.message
      not_earlier y k =
          ⊎_elim
          (λ (p : y ≡ x). not-later-keys m y.message (subst (λ (z : Message). later m z ≡ false) (sym same ∙ sym (ap (λ (z : Entry).
          z.message) p)) (not-later-self m)))
          (λ d. not-later-keys m y.message (subst (λ (z : Message). later z y.message ≡ false) same (first_of (ascending-right us
          (subst (Ascending MayStand) (sym cut) st.valid.order)) y d).order))
          (Memᴰ.cases_cons k)

      strikes : m.to ≡ i → (time : ℕ) (v a : List (Event Message)) {v' : List (Event Message)} → Insert (cancel m) v' v →
          Moves time c g v a (back (x ∷ rest)) c (with_queue (us ++ map undone rest) (rolled_back (processed_of (x ∷ rest)) g)) (v' ++ map
          cancel (back (x ∷ rest))) (a ++ (cancel m ∷ []))
      unfolding message
      strikes to-here time v a under =
          chain-to
          (view-path
          (done-append [] us (map undone rest) ∙ undone-done (done_after [] us) rest)
          (pending-append us (map undone rest))
          (waiting-append us (map undone rest) ∙ ap (λ l. waiting_of us ++ l) (undone-waiting rest ∙ sym waiting-still))
          (rolled-out (x ∷ rest)))
          (then
          (undoing us (x ∷ rest) cut (cancel m) to-here not_earlier time v a under)
          (takes (cancel m) (insert-append (map cancel (back (x ∷ rest))) under) (insert-last (cancel m) a) to-here
          (strikes_out m
          (subst (λ l. Insert m (pending_of us ++ pending_of (map undone rest)) (pending_of us ++ l)) (sym becomes-pending) (insert-between m
          (pending_of us) (pending_of (map undone rest))))))
          (sym (append-nil (back (x ∷ rest)))))

    -- what is undone for a plain message that is taken
    unfoldable pub plain_back : Message → List Message
    plain_back m = cond (any (is_cancel_of m) g.queue) [] (back (from_first (is_later m) g.queue))

    plain-cut : (m : Message) → before_first (is_later m) g.queue ++ from_first (is_later m) g.queue ≡ g.queue
    plain-cut m = cut-first (is_later m) g.queue

    meets : (m : Message) → any (is_cancel_of m) g.queue ≡ true → m.to ≡ i → (time : ℕ) (v a : List (Event Message)) {v' : List (Event
        Message)} → Insert (plain m) v' v →
        Moves time c g v a [] c (with_queue (without_first (is_cancel_of m) g.queue) g) v' (a ++ (plain m ∷ []))
    unfolding message
    meets m found to-here time v a under =
        let r = cancel-met m g.queue found in
        chain-to
        (view-path (r.same-done []) r.same-pending refl refl)
        (single model (takes (plain m) under (insert-last (plain m) a) to-here (meets_cancel m r.met)))

    -- taking a plain message
    pub plain-moves : (m : Message) → m.to ≡ i → (time : ℕ) → time ≤ m.hour → (v a : List (Event Message)) {v' : List (Event Message)} →
        Insert (plain m) v' v →
        Moves time c g v a (plain_back m) c (take_plain m g).gateway (v' ++ map cancel (plain_back m)) (a ++ (plain m ∷ []))
    unfolding take_plain plain_back
    plain-moves m to-here time due v a {v'} under = by-case (any (is_cancel_of m) g.queue) refl
      where
        by-case : (t : Bool) → any (is_cancel_of m) g.queue ≡ t →
            Moves time c g v a (plain_back m) c (take_plain m g).gateway (v' ++ map cancel (plain_back m)) (a ++ (plain m ∷ []))
        by-case true p = rw (p, append-nil v') (meets m p to-here time v a under)
        by-case false p =
            rw p
            (enters-between (before_first (is_later m) g.queue) (from_first (is_later m) g.queue) (plain-cut m) m to-here
            (before-fails (is_later m) g.queue)
            (behind-later m st.valid.order)
            time due v a under)

    pub plain-saved : (m : Message) → Saved n last setups i c (take_plain m g).gateway.queue (take_plain m g).gateway.state
    unfolding take_plain
    plain-saved m = by-case (any (is_cancel_of m) g.queue) refl
      where
        not-processed : (e : Entry) → is_cancel_of m e ≡ true → is_processed e ≡ false
        not-processed e h = by-mark (marked e)
          where
            by-mark : Marked e → is_processed e ≡ false
            by-mark (pending p q r) = q
            by-mark (processed p q r) = absurd (true≢false (sym (and_left (is_waiting e) (equal e.message m) h) ∙ r))
            by-mark (waiting p q r) = q

        by-case : (t : Bool) → any (is_cancel_of m) g.queue ≡ t → Saved n last setups i c (take_plain m g).gateway.queue (take_plain m g).gateway.state
        by-case true p = rw p (saved-without n last setups i (is_cancel_of m) not-processed st.saved)
        by-case false p =
            rw p
            (saved-rolled (before_first (is_later m) g.queue) (from_first (is_later m) g.queue) (plain-cut m)
            (saved-more n last setups i refl (saved-undone n last setups i (done_after c (before_first (is_later m) g.queue)) (from_first
            (is_later m) g.queue))))

    -- what is undone for a cancel that is taken
    unfoldable pub cancel_back : Message → List Message
    cancel_back m = cond (any (is_plain m) g.queue) (back (from_last (is_plain m) g.queue)) []

    -- the last equal plain message, and what stands behind it
    struck-cut : (m : Message) → any (is_plain m) g.queue ≡ true → (f : Found (is_plain m) (from_last (is_plain m) g.queue)) → before_last
        (is_plain m) g.queue ++ (f.first ∷ f.rest) ≡ g.queue
    struck-cut m found f = ap (λ l. before_last (is_plain m) g.queue ++ l) (sym f.is) ∙ around-last (is_plain m) g.queue found

    -- taking a cancel
    pub cancel-moves : (m : Message) → m.to ≡ i → (time : ℕ) (v a : List (Event Message)) {v' : List (Event Message)} → Insert (cancel m) v' v →
        Moves time c g v a (cancel_back m) c (take_cancel m g).gateway (v' ++ map cancel (cancel_back m)) (a ++ (cancel m ∷ []))
    unfolding take_cancel cancel_back
    cancel-moves m to-here time v a {v'} under = by-case (any (is_plain m) g.queue) refl
      where
        struck : any (is_plain m) g.queue ≡ true → Found (is_plain m) (from_last (is_plain m) g.queue) →
            Moves time c g v a (back (from_last (is_plain m) g.queue)) c
            (with_queue (before_last (is_plain m) g.queue ++ map undone (tail_of (from_last (is_plain m) g.queue))) (rolled_back (processed_of
            (from_last (is_plain m) g.queue)) g))
            (v' ++ map cancel (back (from_last (is_plain m) g.queue)))
            (a ++ (cancel m ∷ []))
        struck found f =
            subst
            (λ l.
            Moves time c g v a (back l) c (with_queue (before_last (is_plain m) g.queue ++ map undone (tail_of l)) (rolled_back (processed_of
            l) g)) (v' ++ map cancel (back l)) (a ++ (cancel m ∷ [])))
            (sym f.is)
            (strikes m (before_last (is_plain m) g.queue) f.first f.rest (struck-cut m found f) f.passes to-here time v a under)

        by-case : (t : Bool) → any (is_plain m) g.queue ≡ t →
            Moves time c g v a (cancel_back m) c (take_cancel m g).gateway (v' ++ map cancel (cancel_back m)) (a ++ (cancel m ∷ []))
        by-case true p = rw p (struck p (last_found (is_plain m) g.queue p))
        by-case false p = rw (p, append-nil v') (waits-between (before_first (is_later m) g.queue) (from_first (is_later m) g.queue)
            (plain-cut m) m to-here time v a under)

    pub cancel-saved : (m : Message) → Saved n last setups i c (take_cancel m g).gateway.queue (take_cancel m g).gateway.state
    unfolding take_cancel
    cancel-saved m = by-case (any (is_plain m) g.queue) refl
      where
        struck : any (is_plain m) g.queue ≡ true → Found (is_plain m) (from_last (is_plain m) g.queue) →
            Saved n last setups i c
            (before_last (is_plain m) g.queue ++ map undone (tail_of (from_last (is_plain m) g.queue)))
            (rolled_back (processed_of (from_last (is_plain m) g.queue)) g).state
        struck found f =
            subst
            (λ l. Saved n last setups i c (before_last (is_plain m) g.queue ++ map undone (tail_of l)) (rolled_back (processed_of l) g).state)
            (sym f.is)
            (saved-rolled (before_last (is_plain m) g.queue) (f.first ∷ f.rest) (struck-cut m found f)
            (saved-undone n last setups i (done_after c (before_last (is_plain m) g.queue)) f.rest))

        by-case : (t : Bool) → any (is_plain m) g.queue ≡ t → Saved n last setups i c (take_cancel m g).gateway.queue (take_cancel m g).gateway.state
        by-case true p = rw p (struck p (last_found (is_plain m) g.queue p))
        by-case false p = rw p (waits-saved (before_first (is_later m) g.queue) (from_first (is_later m) g.queue) (plain-cut m) m)

    -- taking an acknowledgment
    pub acknowledgment-moves : (b : Bool) (m : Message) → m.from ≡ i → any (is_sent b m) g.outstanding ≡ true → (time : ℕ) (v a : List
        (Event Message)) {a' : List (Event Message)} → Insert (event_if b m) a' a →
        Moves time c g v a [] c (with_outstanding (without_first (is_sent b m) g.outstanding) g) v a'
    unfolding message
    acknowledgment-moves b m from-here found time v a under =
        single model (takes_acknowledgment (event_if b m) under (from-event b) (sent-taken b m g.outstanding found))
      where
        from-event : (b : Bool) → (message (event_if b m)).from ≡ i
        from-event true = from-here
        from-event false = from-here

    -- commit
    pub commit-moves : (e : Entry) (newer : List Entry) → processed_of g.queue ≡ e ∷ newer → (time : ℕ) → e.message.hour < time → (v a :
        List (Event Message)) →
        Moves time c g v a [] (e.message ∷ c) (with_queue (without_first is_processed g.queue) g) v a
    unfolding hour first key
    commit-moves e newer k time below v a =
        let r = oldest-taken g.queue e newer k in
        chain-to
        (view-path refl r.same-pending r.same-waiting refl)
        (single model
        (commits e.message (r.taken-done [] ∙ done-history (e.message ∷ []) [] (without_first is_processed g.queue)) below))

    pub commit-saved : (e : Entry) (newer : List Entry) → processed_of g.queue ≡ e ∷ newer → Saved n last setups i (e.message ∷ c)
        (without_first is_processed g.queue) g.state
    commit-saved e newer k = (saved-committed n last setups i st.saved e newer k).still
