-- Each gateway's record is that of a history, and so it balances.
use mathlib.Core.Path.{◌≡◌, refl, sym, ◌∙◌, ap, subst}
use Prim.Native.Nat.{ℕ, ◌+◌, ◌≤◌, ◌<◌, ◌^◌}
use native.Mathlib.Omega.{arith}
use mathlib.Core.List.{List, ◌++◌}
use lib.ListN.{length}
use borrow.Author.Tests.{le-leb, lt-ltb}
use Rattle.lists.specs.Lists.{Beginning, joined}
use Rattle.model.specs.declared.Message.{Message}
use Rattle.event_steps.specs.Gateways.{Gateway as View}
use Rattle.event_steps.specs.SingleQueue as Theory
use Rattle.timewarp.proofs.Theorem.{claim-holds}
use Rattle.gateway.specs.Committing.{record_for}
use Rattle.records.specs.Events.{record_refusal, events_of}
use Rattle.records.specs.Balancing.{Balances, balance_for, balanced}
use Rattle.records.specs.declared.StockField.TheVariants.{Present}
use Rattle.records.proofs.WrittenEvents.{event_bytes, record-read}
use Rattle.records.proofs.HistoryLaws.{histories-balance}
use Rattle.run.specs.Forecast.{SetUpInput, Forecast}
use Rattle.run.specs.World.{World, Call, opening_world, after_calls, AllAllowed}
use Rattle.run.specs.History.{single_history, events_at, writing, History, Histories, SingleQueueWrites}
use Rattle.run.specs.Balanced.{Balanced, CopiesBalance}
use Rattle.run.proofs.FigureGraph.{figure_graph}
use Rattle.run.proofs.ForecastModel.{forecast_model}
use Rattle.run.proofs.SingleQueues.{history_record}
use Rattle.run.proofs.SingleHistories.{in_order, in-order-append}
use Rattle.run.proofs.CommittedEvents.{events_after, record-events}
use Rattle.run.proofs.FollowedEvents.{events-follow}
use Rattle.run.proofs.OpeningWorlds.{stock-few, single-queue, single-history}
use Rattle.run.proofs.BothWorlds.{forecast_setting, model-laws}
use Rattle.run.proofs.RecordsTaken.{records-taken}
use Rattle.run.proofs.Theorem.{reached-both}

-- the record of a history, as the claim writes it
history-written : (n last : ℕ) (setups : ℕ → SetUpInput) (i : ℕ) (h : List Message) → history_record n last setups i h ≡ writing (events_at setups i (in_order h))
unfolding record_for event_bytes
history-written n last setups i h = record-events n last setups i h ∙ ap (joined event_bytes) (events-follow n last setups i h)

module _ (n last : ℕ) (setups : ℕ → SetUpInput) (lent : ℕ → List ℕ) (forecast : Forecast n last setups lent) where
  -- what the single queue does at gateway i, the newest in front
  abbrev single : ℕ → List Message
  single i = Theory.single_history (forecast_model n last setups) i

  abbrev some : 1 ≤ n
  some = forecast.some

  history-is : (i : ℕ) → single_history n last setups i ≡ in_order (single i)
  history-is i = single-history n last setups lent forecast (figure_graph n some) refl i

  -- what was first of a history is its beginning
  begins-from : (i : ℕ) (c later : List Message) → single i ≡ later ++ c → Beginning (in_order c) (single_history n last setups i)
  begins-from i c later e = (in_order later, history-is i ∙ ap in_order e ∙ in-order-append later c)

  module _ (calls : List Call) (h : AllAllowed n (opening_world setups lent) calls) (i : ℕ) (l : i < n) where
    abbrev w : World
    w = after_calls n (opening_world setups lent) calls

    history : History n last setups i (w.records i)
    history =
        let k = reached-both n last setups lent forecast calls h in
        let b = k.both in
        let c = b.beside.done i in
        let begins = (claim-holds (forecast_setting n some last setups) (model-laws n some last setups b) b.beside.reached).beginning i (omega arith) in
        let bytes : w.records i ≡ joined event_bytes (events_after n last setups i c) = b.beside.records i l ∙ record-events n last setups i c in
        record {
          messages = in_order c;
          written = b.beside.records i l ∙ history-written n last setups i c;
          read = ap (events_of Present) bytes ∙ record-read (b.committed i l) ∙ events-follow n last setups i c;
          begins =
              begins-from i c begins.0 (begins.1 ∙ ap (λ (g : View Message). begins.0 ++ g.committed) (b.beside.views i l));
        }

    balances : Balances (setups i).opening.stock (events_of Present (w.records i))
    balances =
        subst (Balances (setups i).opening.stock) (sym history.read) (histories-balance (setups i).opening.stock history.messages)

    copy-balances : length (w.records i) < 2 ^ 48 →
        let answer = balanced (setups i).opening.stock (w.records i) in
        (answer.number ≡ 0) × ((setups i).opening.stock + answer.received ≡ answer.stock + answer.served)
    unfolding balanced balance_for
    copy-balances few =
        let taken : record_refusal Present (w.records i) ≡ 0 = records-taken n last setups lent forecast calls h i l in
        let stock = stock-few n last setups lent forecast (figure_graph n some) refl i l in
        rw (le-leb (setups i).opening.stock 65535 stock, lt-ltb (length (w.records i)) (2 ^ 48) few, taken) (refl, balances)

-- The theorems.
pub histories : Histories
histories n last setups lent forecast calls h i l = history n last setups lent forecast calls h i l

pub single-queue-writes : SingleQueueWrites
single-queue-writes n last setups lent forecast i l =
    single-queue n last setups lent forecast (figure_graph n forecast.some) refl i
    ∙ history-written n last setups i (single n last setups lent forecast i)
    ∙ ap (λ (ms : List Message). writing (events_at setups i ms)) (sym (history-is n last setups lent forecast i))

pub forecast-balances : Balanced
forecast-balances n last setups lent forecast calls h i l = balances n last setups lent forecast calls h i l

pub copies-balance : CopiesBalance
copies-balance n last setups lent forecast calls h i l = copy-balances n last setups lent forecast calls h i l
