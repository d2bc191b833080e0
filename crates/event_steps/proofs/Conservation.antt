-- Conservation: for each message, what was there at first, was sent or is cancelled is done, pending or under way.
use mathlib.Core.List.{List, [], ◌∷◌, ◌++◌}
use mathlib.Core.Path.{◌≡◌, sym, ap, ◌∙◌}
use mathlib.Core.Logic.{◌≢◌}
use Prim.Native.Nat.{ℕ, ◌+◌}
use native.Mathlib.Omega.{arith}
use Rattle.lists.specs.Lists.{Insert}
use Rattle.lists.proofs.ListLaws.{count-append, count-insert, matches-other}
use Rattle.event_steps.specs.Models.{Model, sent_by}
use Rattle.event_steps.specs.Gateways.{Event, plain, cancel, message, Gateway, Network, history}
use Rattle.event_steps.specs.EventSteps.{EventStep, does, undoes, takes, takes_acknowledgment, commits, Taking, becomes_pending}
use Rattle.event_steps.specs.EventSteps.{meets_cancel, strikes_out, waits}
use Rattle.event_steps.proofs.OrderLaws.{message-eq, event-eq}
use Rattle.event_steps.proofs.EventCounts.{times, event_count, plain-injective, cancel-injective, plain-no-cancel, cancel-no-plain}
use Rattle.event_steps.proofs.EventCounts.{insert-own, inserts-own, insert-other, inserts-other, times-cons, times-insert}
use Rattle.event_steps.proofs.StepLaws.{history_undone, history-committed, taking-history}

module _ (M : Model) where
  open M use {Message, from, to, last, never}

  -- All that gateway i sent in a history.
  unfoldable pub sent_in : ℕ → List Message → List Message
  sent_in i [] = []
  sent_in i (m ∷ h) = sent_by M i h m ++ sent_in i h

  pub sent-cons : (i : ℕ) (x m : Message) (h : List Message) → times M x (sent_in i (m ∷ h)) ≡ times M x (sent_by M i h m) + times M x (sent_in i h)
  unfolding sent_in
  sent-cons i x m h = count-append (message-eq M) x (sent_by M i h m) (sent_in i h)

  module _ (x : Message) where
    -- What gateway i sent of x, with the cancels of x under way.
    unfoldable pub made : ℕ → Gateway Message → Network Message → ℕ
    made i g n = times M x (sent_in i (history g)) + event_count M (cancel x) n.events

    -- What a gateway has of x, without and with the waiting cancels of it.
    unfoldable pub held : Gateway Message → ℕ
    held g = times M x (history g) + times M x g.pending

    -- What a gateway takes comes from under way.
    taken_here :
        {time : ℕ} {g g' : Gateway Message} {e : Event Message} {l k : List (Event Message)} →
        Taking M time g e g' →
        Insert e l k →
        event_count M (cancel x) l + times M x g'.waiting + (times M x g.pending + event_count M (plain x) k)
        ≡ event_count M (cancel x) k + times M x g.waiting + (times M x g'.pending + event_count M (plain x) l)
    taken_here (becomes_pending m time after put) i =
        omega (arith, times-insert M x put, insert-own M plain plain-injective x i, insert-other M cancel plain cancel-no-plain x i)
    taken_here (meets_cancel m put) i =
        omega (arith, times-insert M x put, insert-own M plain plain-injective x i, insert-other M cancel plain cancel-no-plain x i)
    taken_here (strikes_out m put) i =
        omega (arith, times-insert M x put, insert-own M cancel cancel-injective x i, insert-other M plain cancel plain-no-cancel x i)
    taken_here (waits m put) i =
        omega (arith, times-insert M x put, insert-own M cancel cancel-injective x i, insert-other M plain cancel plain-no-cancel x i)

    -- At the gateway that takes the step.
    pub conserved-here :
        {i time : ℕ} {g g' : Gateway Message} {n n' : Network Message} {sent : List Message} →
        EventStep M i time g n sent g' n' →
        made i g' n' + times M x g'.waiting + (held g + event_count M (plain x) n.events)
        ≡ made i g n + times M x g.waiting + (held g' + event_count M (plain x) n'.events)
    unfolding made held history
    conserved-here {i} {g = g} (does m take first out under) =
        omega (
          arith,
          sent-cons i x m (history g),
          times-insert M x take,
          times-cons M x m (history g),
          inserts-own M plain plain-injective x (sent_by M i (history g) m) under,
          inserts-other M cancel plain cancel-no-plain x (sent_by M i (history g) m) under,
        )
    conserved-here {i} {g = g} (undoes m {older = older} e under here no-later latest back out under') =
        omega (
          arith,
          ap (times M x) (history_undone g latest),
          ap (λ h. times M x (sent_in i h)) (history_undone g latest),
          sent-cons i x m (older ++ g.committed),
          times-insert M x back,
          times-cons M x m (older ++ g.committed),
          inserts-own M cancel cancel-injective x (sent_by M i (older ++ g.committed) m) under',
          inserts-other M plain cancel plain-no-cancel x (sent_by M i (older ++ g.committed) m) under',
        )
    conserved-here {i} (takes e under ack here taking) =
        omega (
          arith,
          taken_here taking under,
          ap (times M x) (taking-history M taking),
          ap (λ h. times M x (sent_in i h)) (taking-history M taking),
        )
    conserved-here (takes_acknowledgment e ack here out) = omega arith
    conserved-here {i} {g = g} (commits m {newer = newer} first due) =
        omega (
          arith,
          ap (times M x) (history-committed g m newer first),
          ap (λ h. times M x (sent_in i h)) (history-committed g m newer first),
        )

    -- What is taken elsewhere is not x.
    taken-elsewhere :
        {e : Event Message} {l k : List (Event Message)} →
        Insert e l k →
        to (message e) ≢ to x →
        (event_count M (cancel x) l ≡ event_count M (cancel x) k) × (event_count M (plain x) l ≡ event_count M (plain x) k)
    unfolding message
    taken-elsewhere {e} i h =
        let p : cancel x ≢ e = λ q. h (sym (ap (λ y. to (message y)) q)) in
        let r : plain x ≢ e = λ q. h (sym (ap (λ y. to (message y)) q)) in (
          omega (arith, count-insert (event-eq M) (cancel x) i, matches-other (event-eq M) p),
          omega (arith, count-insert (event-eq M) (plain x) i, matches-other (event-eq M) r),
        )

    -- At a gateway that x is not addressed to.
    pub conserved-elsewhere :
        {i time : ℕ} {g g' : Gateway Message} {n n' : Network Message} {sent : List Message} →
        EventStep M i time g n sent g' n' →
        i ≢ to x →
        made i g' n' + event_count M (plain x) n.events ≡ made i g n + event_count M (plain x) n'.events
    unfolding made history
    conserved-elsewhere {i} {g = g} (does m take first out under) h =
        omega (
          arith,
          sent-cons i x m (history g),
          inserts-own M plain plain-injective x (sent_by M i (history g) m) under,
          inserts-other M cancel plain cancel-no-plain x (sent_by M i (history g) m) under,
        )
    conserved-elsewhere {i} {g = g} (undoes m {older = older} e under here no-later latest back out under') h =
        omega (
          arith,
          ap (λ h. times M x (sent_in i h)) (history_undone g latest),
          sent-cons i x m (older ++ g.committed),
          inserts-own M cancel cancel-injective x (sent_by M i (older ++ g.committed) m) under',
          inserts-other M plain cancel plain-no-cancel x (sent_by M i (older ++ g.committed) m) under',
        )
    conserved-elsewhere {i} (takes e under ack here taking) h =
        omega (
          arith,
          taken-elsewhere under (λ p. h (sym here ∙ p)),
          ap (λ h. times M x (sent_in i h)) (taking-history M taking),
        )
    conserved-elsewhere (takes_acknowledgment e ack here out) h = omega arith
    conserved-elsewhere {i} {g = g} (commits m {newer = newer} first due) h =
        omega (arith, ap (λ h. times M x (sent_in i h)) (history-committed g m newer first))
