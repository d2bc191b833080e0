-- Undoing is a chain of steps.
use mathlib.Core.Path.{◌≡◌, refl, subst}
use Prim.Native.Nat.{ℕ, ◌<◌}
use mathlib.Core.List.{List, [], ◌∷◌, ◌++◌, map, append_assoc, append-nil, map-append}
use Rattle.lists.specs.Lists.{All, cons, Insert, Inserts}
use Rattle.lists.proofs.ListLaws.{insert-between, inserts-back}
use Rattle.model.specs.Doing.{sent}
use Rattle.model.specs.Messages.{origin_of}
use Rattle.model.specs.declared.Message.{Message}
use Rattle.model.specs.declared.State.{State}
use Rattle.memory.specs.declared.Entry.{Entry}
use Rattle.gateway.specs.Undoing.{processed_of, undone, sent_back}
use Rattle.gateway.specs.Working.{pending_of}
use Rattle.event_steps.specs.Models.{Model, NotLater, state_after, sent_by}
use Rattle.event_steps.specs.Gateways.{Event, cancel, message, gateway_of, network_of}
use Rattle.event_steps.specs.EventSteps.{undoes}
use Rattle.timewarp.proofs.CallChains.{insert-append}
use Rattle.run.specs.Forecast.{SetUpInput}
use Rattle.run.proofs.ForecastModel.{forecast_model, site_at, sends_at}
use Rattle.run.proofs.QueueViews.{done_with, done_after, Marked, marked, pending, processed, waiting}
use Rattle.run.proofs.SavedStates.{Saved, entry}
use Rattle.run.proofs.LocalChains.{Chain, none, then}

-- cancels put behind others
inserts-more : (o : List (Event Message)) (b t : List Message) → Inserts (map cancel t) (o ++ map cancel b) (o ++ map cancel (b ++ t))
inserts-more o b t = rw (map-append cancel b t, ← append_assoc o (map cancel b) (map cancel t)) (inserts-back (map cancel t) (o ++ map cancel b))

module _ (n last : ℕ) (setups : ℕ → SetUpInput) (i : ℕ) where
  abbrev model : Model
  model = forecast_model n last setups

  -- the model sends at gateway i what the lamp model sends there
  abbrev pub SendsAll : Type 0
  SendsAll = (s : State) (m : Message) → origin_of m.kind < n → sends_at n last setups i s m ≡ sent (site_at setups i) s m

  module _ (sends-all : SendsAll) (time : ℕ) (e : Event Message) (here : (message e).to ≡ i) where
    -- what may be undone for e: it is not earlier, and its origin is a gateway
    pub record Undoable (x : Entry) : Type 0 where
      pub later : NotLater model (message e) x.message
      pub origin : origin_of x.message.kind < n

    -- what undoing an event takes back is what doing it sent
    sent_back_lem : (h : List Message) (x : Entry) → origin_of x.message.kind < n → x.before ≡ state_after model i h
        → sent_by model i h x.message ≡ sent (site_at setups i) x.before x.message
    unfolding sent_by
    sent_back_lem h x o e = rw (← e) (sends-all x.before x.message o)

    abbrev backs : List Entry → List Message
    backs rest = sent_back (site_at setups i) (processed_of rest)

    pub undo-chain : {c : List Message} {w : List Message} (rest : List Entry) (d p : List Message) {s : State} (o : List (Event Message))
        (v a : List (Event Message)) {others : List (Event Message)} →
        Saved n last setups i (d ++ c) rest s → All Undoable rest → Insert e others v →
        Chain model i time
        (gateway_of c (done_after d rest) (p ++ pending_of rest) w o)
        (network_of v a)
        (backs rest)
        (gateway_of c d (p ++ pending_of (map undone rest)) w (o ++ map cancel (backs rest)))
        (network_of (v ++ map cancel (backs rest)) a)
    unfolding done_after pending_of undone sent_back processed_of
    undo-chain [] d p o v a s u under = rw (append-nil o, append-nil v) none
    undo-chain {c} {w} (x ∷ rest) d p {s} o v a (entry b r) (cons f u) under =
        by-mark (marked x) r (λ d' p' r'. undo-chain rest d' p' o v a r' u under)
      where
        Undone : List Message → List Message → List Entry → Type 1
        Undone d p es =
            Chain model i time
            (gateway_of c (done_after d es) (p ++ pending_of es) w o)
            (network_of v a)
            (backs es)
            (gateway_of c d (p ++ pending_of (map undone es)) w (o ++ map cancel (backs es)))
            (network_of (v ++ map cancel (backs es)) a)

        step : x.before ≡ state_after model i (d ++ c) → Undone (x.message ∷ d) p rest →
            Chain model i time
            (gateway_of c (done_after (x.message ∷ d) rest) (p ++ pending_of rest) w o)
            (network_of v a)
            (backs rest ++ sent (site_at setups i) x.before x.message)
            (gateway_of c d (p ++ (x.message ∷ pending_of (map undone rest))) w (o ++ map cancel (backs rest ++ sent (site_at setups i)
            x.before x.message)))
            (network_of (v ++ map cancel (backs rest ++ sent (site_at setups i) x.before x.message)) a)
        step e₀ ih =
            subst
            (λ t.
            Chain model i time
            (gateway_of c (done_after (x.message ∷ d) rest) (p ++ pending_of rest) w o)
            (network_of v a)
            (backs rest ++ t)
            (gateway_of c d (p ++ (x.message ∷ pending_of (map undone rest))) w (o ++ map cancel (backs rest ++ t)))
            (network_of (v ++ map cancel (backs rest ++ t)) a))
            (sent_back_lem (d ++ c) x f.origin e₀)
            (then
            ih
            (undoes x.message e (insert-append (map cancel (backs rest)) under) here f.later refl (insert-between x.message p
            (pending_of (map undone rest))) (inserts-more o (backs rest) _) (inserts-more v (backs rest) _))
            refl)

        by-mark : Marked x → Saved n last setups i (done_with x (d ++ c)) rest s → ((d' p' : List Message) → Saved n last setups i (d' ++ c)
            rest s → Undone d' p' rest) → Undone d p (x ∷ rest)
        by-mark (pending h k l) r ih =
            rw (k, h) (rw (
              append_assoc p (x.message ∷ []) (pending_of rest),
              append_assoc p (x.message ∷ []) (pending_of (map undone
                  rest)),
            ) at (ih d (p ++ (x.message ∷ [])) (rw k at r)))
        by-mark (processed h k l) r ih = rw (k, h) (step (b k) (ih (x.message ∷ d) p (rw k at r)))
        by-mark (waiting h k l) r ih = rw (k, h) (ih d p (rw k at r))
