-- Taking a plain message, taking a cancel and doing an event: what a gateway keeps to stands afterwards.
use mathlib.Core.Path.{◌≡◌, refl, sym, subst}
use mathlib.Core.Bool.{Bool, true, false}
use mathlib.Core.List.Memᴰ
use mathlib.Core.List.{List, ◌∷◌, ◌++◌, map}
use Rattle.lists.specs.Lists.{◌∈◌, Ascending, any, before_last, from_last}
use Rattle.lists.proofs.SearchLaws.{without-part, cut-first, around-last}
use Rattle.model.specs.Doing.{after, sent}
use Rattle.model.specs.Messages.{quantity_of}
use Rattle.model.specs.declared.Message.{Message}
use Rattle.model.specs.declared.State.{State}
use Rattle.memory.specs.Records.{Gateway, site_of}
use Rattle.memory.specs.declared.Settings.{Settings}
use Rattle.memory.specs.declared.Entry.{Entry}
use Rattle.memory.proofs.Validated.{MayStand, Stocks}
use Rattle.gateway.specs.Effects.{with_queue}
use Rattle.gateway.specs.Undoing.{processed_of, pending_entry, undone, restored, rolled_back}
use Rattle.lists.specs.Lists.{before_first, from_first}
use Rattle.gateway.specs.Taking.{is_later, is_cancel_of, is_plain, waiting_entry, take_plain, take_cancel}
use Rattle.gateway.specs.Working.{pending_of, processed_next, done}
use Rattle.gateway.proofs.Searches.{processed-member}
use Rattle.gateway.proofs.Replies.{Good, sent-good, after-ranged}
use Rattle.gateway.proofs.Maintaining.{Proper, Standing, standing, with-queue, with-state, send-all, rolled-state, roll-back, either-stands}
use Rattle.gateway.proofs.Accepting.{cancel-kind}
use Rattle.gateway.proofs.Queues.{GoodQueue, leave-out, pending-good, waiting-good, plain-enters, cancel-enters, cancel-meets, found-member, next-good}
use Rattle.model.proofs.KindNumbers.{no-restock}
use Rattle.gateway.proofs.Stocks.{stocks-part, stocks-enter, stocks-undone, stocks-restored, undone-tail, stocks-next, stock-enough, stocks-done}

-- the queue of a gateway
pub queue-of : {s : Settings} {g : Gateway} → Standing s g → GoodQueue s g.queue
queue-of k = record { entries = k.entries; order = k.order }

pub requeue : {s : Settings} {g : Gateway} → Standing s g → (queue : List Entry) → GoodQueue s queue → Stocks g.state queue → Standing s (with_queue queue g)
requeue k queue q t = with-queue k queue q.entries q.order t

-- and after undoing, when the state is the one restored
requeue-undone : {s : Settings} (g : Gateway) (events : List Entry) → Standing s (rolled_back events g) → (queue : List Entry) → GoodQueue s queue
    → Stocks (restored g.state events) queue → Standing s (with_queue queue (rolled_back events g))
requeue-undone g events k queue q t = requeue k queue q (subst (λ (state : State). Stocks state queue) (sym (rolled-state events g)) t)

module _ {g : Gateway} (p : Proper g) where
  now : Standing g.settings g
  now = standing p

  pub plain-stands : (m : Message) → Good g.settings false m → m.to ≡ g.settings.own → quantity_of m.kind ≡ 0
      → Standing g.settings (take_plain m g).gateway
  unfolding take_plain
  plain-stands m good to-here nothing =
      let front = before_first (is_later m) g.queue in
      let rest = from_first (is_later m) g.queue in
      let order : Ascending MayStand (front ++ rest) = rw (cut-first (is_later m) g.queue) now.order in
      let stocks : Stocks g.state (front ++ rest) = rw (cut-first (is_later m) g.queue) now.stocks in
      let among : (e : Entry) → e ∈ rest → e ∈ g.queue = λ e n. rw (cut-first (is_later m) g.queue) at (Memᴰ.append_right (before_first
      (is_later m) g.queue) n) in
      either-stands (any (is_cancel_of m) g.queue) _ _
      (λ e.
      let fewer = without-part (is_cancel_of m) g.queue in
      requeue now _ (leave-out fewer (queue-of now)) (stocks-part fewer now.stocks))
      (λ e.
      requeue-undone g (processed_of rest)
      (roll-back now (processed_of rest) (λ x n. now.entries x (among x (processed-member rest x n)))
      (subst (Stocks (restored g.state (processed_of rest))) (cut-first (is_later m) g.queue) (stocks-restored g.state front rest order stocks))) _
      (plain-enters m g.queue (queue-of now) (pending-good m to-here good) e)
      (stocks-enter (pending_entry m) refl nothing front (map undone rest) (stocks-undone g.state front rest order stocks)))

  pub cancel-stands : (m : Message) → Good g.settings true m → m.to ≡ g.settings.own → Standing g.settings (take_cancel m g).gateway
  unfolding take_cancel
  cancel-stands m good to-here =
      let front = before_last (is_plain m) g.queue in
      let found = from_last (is_plain m) g.queue in
      either-stands (any (is_plain m) g.queue) _ _
      (λ e.
      let order : Ascending MayStand (front ++ found) = rw (around-last (is_plain m) g.queue e) now.order in
      let stocks : Stocks g.state (front ++ found) = rw (around-last (is_plain m) g.queue e) now.stocks in
      requeue-undone g (processed_of found)
      (roll-back now (processed_of found) (λ x n. now.entries x (found-member m g.queue (queue-of now) e x (processed-member found x n)))
      (subst (Stocks (restored g.state (processed_of found))) (around-last (is_plain m) g.queue e) (stocks-restored g.state front found order stocks))) _
      (cancel-meets m g.queue (queue-of now) e)
      (stocks-part (undone-tail front found) (stocks-undone g.state front found order stocks)))
      (λ e.
      let up_to_lem = before_first (is_later m) g.queue in
      let rest = from_first (is_later m) g.queue in
      requeue now _ (cancel-enters m g.queue (queue-of now) (waiting-good m to-here good) e)
      (stocks-enter (waiting_entry m) refl (no-restock m.kind (cancel-kind m good.storable.form)) up_to_lem rest (rw (cut-first (is_later m) g.queue) now.stocks)))

  pub done-stands : (m : Message) {ms : List Message} → pending_of g.queue ≡ m ∷ ms → {cancel : Bool} → Good g.settings cancel m
      → Standing g.settings (done m g).gateway
  unfolding done
  done-stands m first good =
      let q = queue-of now in
      let next = requeue now (processed_next g.state g.queue) (next-good g.state now.state q) (stocks-next g.state g.queue now.stocks q) in
      send-all
      (with-state next (after g.state m.kind)
      (after-ranged now.state m.kind (stock-enough g.state g.queue now.stocks m first))
      (stocks-done g.state g.queue now.stocks m first q))
      false (sent (site_of g.settings) g.state m)
      (sent-good g.settings now.settings m good false g.state)
