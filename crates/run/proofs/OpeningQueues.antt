-- Set up: the queues, the single queue and the ledgers begin alike.
use mathlib.Core.Path.{◌≡◌, refl, sym, ◌∙◌, ap, ap₂, subst}
use Prim.Native.Nat.{ℕ, zero, suc, ◌+◌, ◌-◌, ◌≤◌, ◌<◌}
use native.Mathlib.Omega.{arith}
use mathlib.Core.Bool.{true, false, true≢false}
use mathlib.Core.List.{List, [], ◌∷◌, ◌++◌, map}
use lib.Dec.{ltb, eqb}
use lib.ListN.{length}
use borrow.Author.Tests.{eq-eqb, lt-ltb}
use Rattle.lists.specs.Lists.{◌∈◌, Ascending, none, any, All, nil, cons, count, passing}
use Rattle.lists.specs.Families.{together}
use Rattle.lists.proofs.FamilyLaws.{together-all}
use Rattle.lists.proofs.SearchLaws.{cut-first, before-fails}
use Rattle.lists.proofs.ListLaws.{all_append, all_left, all_right, all_map, insert-between, count-nil, count-cons, count-append}
use Rattle.lists.proofs.ListLaws.{count-insert, count-all, all-count, all-each, passing-same}
use Rattle.lists.proofs.Ascents.{insert-ascending}
use Rattle.model.specs.Messages.{origin_of}
use Rattle.model.specs.declared.Message.{Message}
use Rattle.frame.specs.Reasons.{frame_read}
use Rattle.frame.specs.Limits.{nothing_due}
use Rattle.memory.specs.Validity.{is_pending, is_processed, is_waiting, equal, later}
use Rattle.memory.specs.declared.Entry.{Entry}
use Rattle.memory.specs.declared.Settings.{Settings}
use Rattle.memory.proofs.EventLaws.{later-flip}
use Rattle.memory.proofs.Validated.{MayStand, ValidEntry}
use Rattle.lists.proofs.BoolLaws.{and_both}
use Rattle.gateway.specs.Undoing.{undone, pending_entry}
use Rattle.gateway.specs.Working.{pending_of}
use Rattle.lists.specs.Lists.{before_first, from_first}
use Rattle.gateway.specs.Taking.{is_later}
use Rattle.gateway.specs.SettingUp.{cut_frames, queued}
use Rattle.gateway.proofs.Searches.{pending-member, behind-later}
use Rattle.event_steps.specs.Models.{Model, state_after}
use Rattle.event_steps.specs.Gateways.{gateway_of}
use Rattle.event_steps.specs.SingleQueue as Theory
use Rattle.event_steps.proofs.OrderLaws.{message-eq}
use Rattle.run.specs.Forecast.{SetUpInput}
use Rattle.run.specs.SingleQueue.{opening_messages, opening_queue}
use Rattle.run.specs.Ledger as Ledger
use Rattle.run.specs.Ledger.{after_plain}
use Rattle.run.specs.World.{opening_ledger}
use Rattle.run.specs.WhatWaits.{items_of, waiting_of}
use Rattle.run.proofs.ForecastModel.{forecast_model, opening_at, opening_here}
use Rattle.run.proofs.QueueViews.{view_of, pending-append, Marked, marked, pending, processed, waiting}
use Rattle.run.proofs.QueueChanges.{each_all, none_done, saved-none}
use Rattle.run.proofs.SavedStates.{Saved, state_at}
use Rattle.run.proofs.SingleQueues.{Alike, Agree, history_record}
use Rattle.run.proofs.Ledgers.{Follows, entry_follows}

-- every entry is pending
abbrev pub AllPending : List Entry → Type 0
AllPending es = All (λ e. is_pending e ≡ true) es

pending-facts : (e : Entry) → is_pending e ≡ true → (is_processed e ≡ false) × (is_waiting e ≡ false)
pending-facts e h = by-mark (marked e)
  where
    by-mark : Marked e → (is_processed e ≡ false) × (is_waiting e ≡ false)
    by-mark (pending p q r) = (q, r)
    by-mark (processed p q r) = absurd (true≢false (sym h ∙ p))
    by-mark (waiting p q r) = absurd (true≢false (sym h ∙ p))

-- undoing changes nothing then, no cancel waits, and nothing is done
undone-same : {es : List Entry} → AllPending es → map undone es ≡ es
unfolding undone
undone-same nil = refl
undone-same (cons {a = e} h a) = ap₂ ◌∷◌ (rw (pending-facts e h).0) (undone-same a)

pub none-waiting : {es : List Entry} → AllPending es → waiting_of es ≡ []
unfolding waiting_of
none-waiting nil = refl
none-waiting (cons {a = e} h a) = rw (pending-facts e h).1 (none-waiting a)

pub none-processed : {es : List Entry} → AllPending es → All (λ e. is_processed e ≡ false) es
none-processed a = all_map (λ e h. (pending-facts e h).0) a

-- an opening message enters the queue
module _ (m : Message) (es : List Entry) (a : Ascending MayStand es) (p : AllPending es) where
  parts : AllPending (before_first (is_later m) es ++ from_first (is_later m) es)
  parts = subst AllPending (sym (cut-first (is_later m) es)) p

  may-stand : (e f : Entry) → is_pending e ≡ true → is_pending f ≡ true → later e.message f.message ≡ false → MayStand e f
  may-stand e f h k o = record { order = o; marks = λ d. (pending-facts f k).0; apart = λ d. (pending-facts e h).1 ∙ sym (pending-facts f k).1 }

  pub enters-order : Ascending MayStand (before_first (is_later m) es ++ (pending_entry m ∷ from_first (is_later m) es))
  enters-order =
      insert-ascending (before_first (is_later m) es) (pending_entry m) (subst (Ascending MayStand) (sym (cut-first (is_later m) es)) a)
      (λ u d. may-stand u (pending_entry m) (all-each (all_left (before_first (is_later m) es) (from_first (is_later m) es) parts) u d) refl
      (before-fails (is_later m) es u d))
      (λ v d. may-stand (pending_entry m) v refl (all-each (all_right (before_first (is_later m) es) (from_first (is_later m) es) parts) v d)
      (later-flip v.message m (behind-later m a v d)))

  pub enters-pending : AllPending (before_first (is_later m) es ++ (pending_entry m ∷ from_first (is_later m) es))
  enters-pending = all_append (all_left (before_first (is_later m) es) (from_first (is_later m) es) parts) (cons refl (all_right (before_first
      (is_later m) es) (from_first (is_later m) es) parts))

module _ (n last : ℕ) (setups : ℕ → SetUpInput) where
  abbrev model : Model
  model = forecast_model n last setups

  abbrev times : Message → List Message → ℕ
  times x l = count (message-eq model) x l

  enters-counts : (m : Message) (es : List Entry) (x : Message) → times x (pending_of (before_first (is_later m) es ++ (pending_entry m ∷
      from_first (is_later m) es))) ≡ times x (m ∷ pending_of es)
  unfolding pending_of
  enters-counts m es x =
      omega (
        arith,
        ap (times x) (pending-append (before_first (is_later m) es) (pending_entry m ∷ from_first (is_later m) es)),
        count-insert (message-eq model) x (insert-between m (pending_of (before_first (is_later m) es)) (pending_of (from_first (is_later m) es))),
        ap (times x) (sym (pending-append (before_first (is_later m) es) (from_first (is_later m) es)) ∙ ap pending_of (cut-first (is_later m) es)),
        count-cons (message-eq model) x m (pending_of es),
      )

  -- what has been entered so far
  pub record Entered (es : List Entry) (l : Ledger.Ledger) : Type 0 where
    pub order : Ascending MayStand es
    pub all-pending : AllPending es
    pub no-cancels : l.cancels ≡ []
    pub follows : Follows n last setups es l

  one-entered : (m : Message) (es : List Entry) (l : Ledger.Ledger) → Entered es l → Entered (before_first (is_later m) es ++ (pending_entry m
      ∷ from_first (is_later m) es)) (after_plain m l)
  unfolding after_plain any
  one-entered m es l e =
      let f = entry_follows n last setups m es l e.follows e.order in
      let next : Ledger.Ledger = record {
        items = before_first (Ledger.is_later_item m) l.items ++ (record { message = m; done = false } ∷
            map Ledger.not_done (from_first (Ledger.is_later_item m) l.items));
        cancels = l.cancels;
      } in
      let rest = all_right (before_first (is_later m) es) (from_first (is_later m) es) (subst AllPending (sym (cut-first (is_later m) es)) e.all-pending) in
      record {
        order = enters-order m es e.order e.all-pending;
        all-pending = enters-pending m es e.order e.all-pending;
        no-cancels = rw e.no-cancels;
        follows =
            rw (ap (any (equal m)) e.no-cancels)
            (subst (λ k. Follows n last setups (before_first (is_later m) es ++ (pending_entry m ∷ k)) next) (undone-same rest) f);
      }

  pub all-entered : (fs : List (List ℕ)) (es : List Entry) (l : Ledger.Ledger) → Entered es l → Entered (queued es fs) (opening_ledger (map
      (λ f. (frame_read f).message) fs) l)
  unfolding queued opening_ledger
  all-entered [] es l e = e
  all-entered (f ∷ fs) es l e = let m = (frame_read f).message in all-entered fs (before_first (is_later m) es ++ (pending_entry m ∷
      from_first (is_later m) es)) (after_plain m l) (one-entered m es l e)

  pub queued-counts : (fs : List (List ℕ)) (es : List Entry) (x : Message) → times x (pending_of (queued es fs)) ≡ times x (map (λ f. (frame_read
      f).message) fs) + times x (pending_of es)
  unfolding queued
  queued-counts [] es x = omega (arith, count-nil (message-eq model) x)
  queued-counts (f ∷ fs) es x =
      let m = (frame_read f).message in
      omega (
        arith,
        queued-counts fs (before_first (is_later m) es ++ (pending_entry m ∷ from_first (is_later m) es)) x,
        enters-counts m es x,
        count-cons (message-eq model) x m (pending_of es),
        count-cons (message-eq model) x m (map (λ g. (frame_read g).message) fs),
      )

  -- the opening ledger
  abbrev pub empty_ledger : Ledger.Ledger
  empty_ledger = record { items = []; cancels = [] }

  nothing-entered : Entered [] empty_ledger
  unfolding waiting_of items_of
  nothing-entered = record { order = none; all-pending = nil; no-cancels = refl; follows = record { items = refl; cancels = λ x. refl } }

  -- gateway i's queue just set up
  unfoldable pub opening_entries : ℕ → List Entry
  opening_entries i = let list = (setups i).list in queued [] (cut_frames (length list) list)

  pub opening-entered : (i : ℕ) → Entered (opening_entries i) (opening_ledger (opening_messages (setups i).list) empty_ledger)
  unfolding opening_entries opening_messages
  opening-entered i = all-entered (cut_frames (length (setups i).list) (setups i).list) [] empty_ledger nothing-entered

  pub opening-alike : (i : ℕ) → Alike model (opening_messages (setups i).list) (opening_at n last setups i)
  unfolding opening_messages opening_at pending_of
  opening-alike i x = omega (arith, queued-counts (cut_frames (length (setups i).list) (setups i).list) [] x, count-nil (message-eq model) x)

  -- a lawful opening message
  pub record Lawful (i : ℕ) (m : Message) : Type 0 where
    pub to : m.to ≡ i
    pub due : m.hour < nothing_due
    pub origin : origin_of m.kind < n

  module _ (i : ℕ) (lawful : All (Lawful i) (opening_messages (setups i).list)) where
    pub all_here : passing (opening_here n last setups i) (opening_at n last setups i) ≡ opening_at n last setups i
    all_here =
        passing-same (opening_here n last setups i)
        (count-all (message-eq model) (opening_at n last setups i)
        (λ x h.
        let y = all-count (message-eq model) x lawful (omega (arith, h, opening-alike i x)) in
        and_both (eqb x.to i) (ltb x.hour nothing_due) (eq-eqb x.to i y.to) (lt-ltb x.hour nothing_due y.due)))

    -- the theory's opening gateway is the one just set up
    pub opening-view : view_of [] (opening_entries i) [] ≡ gateway_of [] [] (model.opening i) [] []
    unfolding opening_entries opening_at
    opening-view =
        let e = opening-entered i in
        let d = none_done (none-processed e.all-pending) [] in
        let w = none-waiting e.all-pending in
        λ k. gateway_of [] (d k) (sym all_here k) (w k) []

    pub opening-saved : Saved n last setups i [] (opening_entries i) (state_at n last setups i [])
    opening-saved = saved-none n last setups i (none-processed (opening-entered i).all-pending) []

  -- opening messages that a valid queue holds are lawful
  pub lawful-opening : (i : ℕ) (s : Settings) → ((e : Entry) → e ∈ opening_entries i → ValidEntry s e) → s.own ≡ i → s.n ≡ n → s.last <
      nothing_due → All (Lawful i) (opening_messages (setups i).list)
  unfolding opening_entries opening_at
  lawful-opening i s h own number hours =
      count-all (message-eq model) (opening_messages (setups i).list) (λ x k. all-count (message-eq model) x held (omega (arith, k, opening-alike i x)))
    where
      held : All (Lawful i) (opening_at n last setups i)
      held =
          each_all (opening_at n last setups i)
          (λ x d.
          let r = pending-member (opening_entries i) x d in
          let v = h r.0 r.1 in
          subst (Lawful i) (sym r.2) (record {
            to = v.to ∙ own;
            due = omega (arith, v.message.hour, hours);
            origin = omega (
              arith,
              v.message.origin,
              number,
            );
          }))

  -- all opening lists together
  together-alike : (k : ℕ) (f g : ℕ → List Message) → ((i : ℕ) → i < k → Alike model (f i) (g i)) → Alike model (together k f) (together k g)
  unfolding together
  together-alike zero f g h x = refl
  together-alike (suc k) f g h x =
      omega (
        arith,
        together-alike k f g (λ i d. h i (omega arith)) x,
        h k (omega arith) x,
        count-append (message-eq model) x (together k f) (f k),
        count-append (message-eq model) x (together k g) (g k),
      )

  -- the two single queues begin alike
  pub opening-agrees : 1 ≤ n → ((i : ℕ) → i < n → All (Lawful i) (opening_messages (setups i).list)) → Agree n last setups (opening_queue n
      setups) (Theory.opening_queue model)
  unfolding opening_queue Theory.opening_queue state_after history_record
  opening-agrees some lawful =
      record {
        lists =
            subst (λ (k : ℕ). Alike model (together n (λ i. opening_messages (setups i).list)) (together k model.opening)) (sym number)
            (together-alike n (λ i. opening_messages (setups i).list) model.opening
            (λ i d x. opening-alike i x ∙ ap (times x) (sym (all_here i (lawful i (omega arith))))));
        states = λ i. refl;
        records = λ i. refl;
        inside = together-all n (λ i. opening_messages (setups i).list) (λ i d. all_map (λ m y. record {
          to = omega (arith, y.to, d);
          origin = y.origin;
        }) (lawful i d));
      }
    where
      number : suc (n - 1) ≡ n
      number = omega arith
