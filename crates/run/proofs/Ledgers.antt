-- The ledger, followed through the calls, is what the queue holds: the same plain messages, and the same waiting cancels.
use mathlib.Core.Path.{◌≡◌, refl, sym, ◌∙◌, ap, ap₂, subst}
use mathlib.Core.Logic.{⊎_elim}
use Prim.Native.Nat.{ℕ, ◌≤◌}
use native.Mathlib.Omega.{arith}
use mathlib.Core.Bool.{Bool, true, false, cond, not, ◌&&◌, ◌||◌, true≢false, false≢true}
use mathlib.Core.List.Memᴰ
use mathlib.Core.List.{List, [], ◌∷◌, ◌++◌, map}
use lib.ListN.{length}
use Rattle.lists.specs.Lists.{◌∈◌, Ascending, any, without_first, passing, before_last, from_last, tail_of, All, Insert, here, there, count}
use Rattle.lists.proofs.SearchLaws.{cut-first, around-last}
use Rattle.lists.proofs.ListLaws.{insert-between, matches-same, matches-equal, matches-other, count-nil, count-cons, count-insert, all-count, all-each}
use Rattle.model.specs.declared.Message.{Message}
use Rattle.model.specs.declared.State.{State}
use Rattle.memory.specs.Records.{Gateway}
use Rattle.memory.specs.Validity.{is_processed, is_waiting, equal}
use Rattle.memory.specs.declared.Entry.{Entry}
use Rattle.memory.specs.declared.Mark.TheVariants.{Processed}
use Rattle.memory.proofs.EventLaws.{equal-same, same-equal}
use Rattle.memory.proofs.Validated.{MayStand}
use Rattle.lists.proofs.BoolLaws.{and_left}
use borrow.Author.Tests.{not-true}
use Rattle.gateway.specs.Undoing.{undone, pending_entry}
use Rattle.gateway.specs.Working.{pending_of, processed_next}
use Rattle.lists.specs.Lists.{before_first, from_first}
use Rattle.gateway.specs.Taking.{is_later, is_cancel_of, is_plain, waiting_entry, take_plain, take_cancel}
use Rattle.event_steps.specs.Models.{Model}
use Rattle.event_steps.proofs.OrderLaws.{message-eq}
use Rattle.run.specs.Forecast.{SetUpInput}
use Rattle.run.specs.Ledger as Ledger
use Rattle.run.specs.Ledger.{Item, not_done, after_plain, is_item, undone_after, after_cancel, did_one, committed_one, not_done_of}
use Rattle.run.specs.WhatWaits.{items_of, waiting_of, times_in, SameMessages}
use Rattle.run.proofs.ForecastModel.{forecast_model}
use Rattle.run.proofs.SingleQueues.{Alike}
use Rattle.run.proofs.QueueViews.{waiting-append, undone-waiting, Marked, marked, pending, processed, waiting}
use Rattle.run.proofs.QueueChanges.{Found, last_found, cancel-met}
use Rattle.run.proofs.LedgerItems.{items-plain, items-waiting, items-append, items-undone, items-cut, items-any, or_left}
use Rattle.run.proofs.LedgerItems.{or_right, items-struck, next_here, next-later, items-done, without-here, without-later, is_done}
use Rattle.run.proofs.LedgerItems.{items-committed, items-pending, items-met}

-- the waiting cancels of a queue with an entry in front
waiting-plain : (e : Entry) (es : List Entry) → is_waiting e ≡ false → waiting_of (e ∷ es) ≡ waiting_of es
unfolding waiting_of
waiting-plain e es h = rw h

waiting-here : (e : Entry) (es : List Entry) → is_waiting e ≡ true → waiting_of (e ∷ es) ≡ e.message ∷ waiting_of es
unfolding waiting_of
waiting-here e es h = rw h

-- with equal rest, whatever stands in front
waiting-more : (e : Entry) (es fs : List Entry) → waiting_of es ≡ waiting_of fs → waiting_of (e ∷ es) ≡ waiting_of (e ∷ fs)
unfolding waiting_of
waiting-more e es fs k = ap (λ l. cond (is_waiting e) (e.message ∷ l) l) k

-- doing and committing leave the waiting cancels
waiting-next : (s : State) (es : List Entry) → waiting_of (processed_next s es) ≡ waiting_of es
unfolding processed_next
waiting-next s [] = refl
waiting-next s (e ∷ es) = by-mark (marked e) (waiting-next s es)
  where
    by-mark : Marked e → waiting_of (processed_next s es) ≡ waiting_of es → waiting_of (processed_next s (e ∷ es)) ≡ waiting_of (e ∷ es)
    by-mark (pending p q r) k = ap waiting_of (next_here s e es p) ∙ waiting-plain (record {
      message = e.message;
      mark = Processed;
      before =
          s;
    }) es refl ∙ sym (waiting-plain e es r)
    by-mark (processed p q r) k = ap waiting_of (next-later s e es p) ∙ waiting-more e (processed_next s es) es k
    by-mark (waiting p q r) k = ap waiting_of (next-later s e es p) ∙ waiting-more e (processed_next s es) es k

waiting-committed : (es : List Entry) → waiting_of (without_first is_processed es) ≡ waiting_of es
unfolding without_first
waiting-committed [] = refl
waiting-committed (e ∷ es) = by-mark (marked e) (waiting-committed es)
  where
    by-mark : Marked e → waiting_of (without_first is_processed es) ≡ waiting_of es → waiting_of (without_first is_processed (e ∷ es)) ≡ waiting_of (e ∷ es)
    by-mark (pending p q r) k = ap waiting_of (without-later is_processed e es q) ∙ waiting-more e (without_first is_processed es) es k
    by-mark (processed p q r) k = ap waiting_of (without-here is_processed e es q) ∙ sym (waiting-plain e es r)
    by-mark (waiting p q r) k = ap waiting_of (without-later is_processed e es q) ∙ waiting-more e (without_first is_processed es) es k

module _ (n last : ℕ) (setups : ℕ → SetUpInput) where
  abbrev model : Model
  model = forecast_model n last setups

  abbrev times : Message → List Message → ℕ
  times x l = count (message-eq model) x l

  member-counts : (x : Message) (l : List Message) → x ∈ l → 1 ≤ times x l
  member-counts x [] m = absurd (Memᴰ.not-nil m)
  member-counts x (y ∷ l) m =
      ⊎_elim
      (λ (e : x ≡ y). omega (arith, count-cons (message-eq model) x y l, matches-equal (message-eq model) e))
      (λ d. omega (arith, count-cons (message-eq model) x y l, member-counts x l d))
      (Memᴰ.cases_cons m)

  -- an equal cancel of the ledger is taken out, or there is none
  equals-taken : (m : Message) (l : List Message) → any (equal m) l ≡ true → Insert m (without_first (equal m) l) l
  unfolding any without_first
  equals-taken m [] h = absurd (false≢true h)
  equals-taken m (x ∷ l) h = by-case (equal m x) refl (equals-taken m l) h
    where
      by-case : (t : Bool) → equal m x ≡ t → (any (equal m) l ≡ true → Insert m (without_first (equal m) l) l) → (t || any (equal m) l) ≡
          true → Insert m (cond t l (x ∷ without_first (equal m) l)) (x ∷ l)
      by-case true q ih k = subst (λ (y : Message). Insert m l (y ∷ l)) (equal-same m x q) here
      by-case false q ih k = there (ih k)

  equals-none : (m : Message) (l : List Message) → any (equal m) l ≡ false → times m l ≡ 0
  unfolding any
  equals-none m [] h = count-nil (message-eq model) m
  equals-none m (x ∷ l) h =
      omega (
        arith,
        count-cons (message-eq model) m x l,
        matches-other (message-eq model) (λ (e : m ≡ x). true≢false (sym (same-equal m x e) ∙ or_left (equal m x) (any (equal m) l) h)),
        equals-none m l (or_right (equal m x) (any (equal m) l) h),
      )

  cancels-none : (m : Message) (es : List Entry) → any (is_cancel_of m) es ≡ false → times m (waiting_of es) ≡ 0
  unfolding any waiting_of
  cancels-none m [] h = count-nil (message-eq model) m
  cancels-none m (e ∷ es) h = by-case (is_waiting e) (cancels-none m es) h
    where
      by-case : (t : Bool) → (any (is_cancel_of m) es ≡ false → times m (waiting_of es) ≡ 0) → ((t && equal e.message m) || any (is_cancel_of m) es) ≡ false
          → times m (cond t (e.message ∷ waiting_of es) (waiting_of es)) ≡ 0
      by-case true ih k =
          omega (
            arith,
            count-cons (message-eq model) m e.message (waiting_of es),
            matches-other (message-eq model) (λ (d : m ≡ e.message). true≢false (sym (same-equal e.message m (sym d)) ∙ or_left (equal
                e.message m) (any (is_cancel_of m) es) k)),
            ih (or_right (equal e.message m) (any (is_cancel_of m) es) k),
          )
      by-case false ih k = ih k

  -- the ledger follows a queue
  pub record Follows (es : List Entry) (l : Ledger.Ledger) : Type 0 where
    pub items : l.items ≡ items_of es
    pub cancels : Alike model l.cancels (waiting_of es)

  -- how often a message stands in a list
  times-in : (x : Message) (l : List Message) → times x l ≡ times_in x l
  unfolding passing
  times-in x [] = count-nil (message-eq model) x
  times-in x (y ∷ l) = by-case (equal x y) refl (times-in x l)
    where
      by-case : (t : Bool) → equal x y ≡ t → times x l ≡ times_in x l
          → times x (y ∷ l) ≡ length (cond t (y ∷ passing (equal x) l) (passing (equal x) l))
      by-case true q k = omega (arith, count-cons (message-eq model) x y l, matches-equal (message-eq model) (equal-same x y q))
      by-case false q k =
          omega (
            arith,
            count-cons (message-eq model) x y l,
            matches-other (message-eq model) (λ (e : x ≡ y). true≢false (sym (same-equal x y e) ∙ q)),
          )

  -- a ledger that follows a queue has its messages
  pub follows_same : (es : List Entry) (l : Ledger.Ledger) → Follows es l → SameMessages l es
  unfolding Ledger.waiting
  follows_same es l f =
      record {
        items = f.items;
        waits = ap (λ k. k ++ l.cancels) (ap not_done_of f.items ∙ items-pending es);
        cancels = λ x. sym (times-in x l.cancels) ∙ f.cancels x ∙ times-in x (waiting_of es);
      }

  -- nothing that waits by the ledger lacks what all pending and waiting messages have
  pub waiting-have : {p : Message → Type 0} (es : List Entry) (l : Ledger.Ledger) → Follows es l → All p (pending_of es) → All p (waiting_of
      es) → (x : Message) → x ∈ Ledger.waiting l → p x
  unfolding Ledger.waiting
  waiting-have es l f a b x m =
      ⊎_elim
      (λ d. all-each a x (subst (λ k. x ∈ k) (ap not_done_of f.items ∙ items-pending es) d))
      (λ d. all-count (message-eq model) x b (omega (arith, member-counts x l.cancels d, f.cancels x)))
      (Memᴰ.append_cases (not_done_of l.items) m)

  -- an event is done, or committed
  pub did-follows : (s : State) (es : List Entry) (l : Ledger.Ledger) → Follows es l → Follows (processed_next s es) (record {
    items = did_one
        l.items;
    cancels = l.cancels;
  })
  did-follows s es l f =
      record {
        items = ap did_one f.items ∙ items-done s es;
        cancels = λ x. f.cancels x ∙ ap (times x) (sym (waiting-next s es));
      }

  pub committed-follows : (es : List Entry) (l : Ledger.Ledger) → Follows es l → Follows (without_first is_processed es) (committed_one l)
  unfolding committed_one
  committed-follows es l f =
      record {
        items = ap (without_first is_done) f.items ∙ items-committed es;
        cancels = λ x. f.cancels x ∙ ap (times x) (sym (waiting-committed es));
      }

  -- a plain message is taken
  module _ (m : Message) (es : List Entry) (l : Ledger.Ledger) (f : Follows es l) where
    met-follows : any (equal m) l.cancels ≡ true → any (is_cancel_of m) es ≡ true
        → Follows (without_first (is_cancel_of m) es) (record { items = l.items; cancels = without_first (equal m) l.cancels })
    met-follows p q =
        record {
          items = f.items ∙ sym (items-met m es);
          cancels = λ x. omega (
            arith,
            count-insert (message-eq model) x (equals-taken m l.cancels p),
            count-insert (message-eq model) x (cancel-met m es q).met,
            f.cancels x,
          );
        }

    pub entry_follows : Ascending MayStand es
        → Follows (before_first (is_later m) es ++ (pending_entry m ∷ map undone (from_first (is_later m) es)))
        (record {
          items = before_first (Ledger.is_later_item m) l.items ++ (record { message = m; done = false } ∷ map not_done (from_first
              (Ledger.is_later_item m) l.items));
          cancels = l.cancels;
        })
    entry_follows a =
        record {
          items =
              ap (λ k. before_first (Ledger.is_later_item m) k ++ (new ∷ map not_done (from_first (Ledger.is_later_item m) k))) f.items
              ∙ ap₂ (λ k d. k ++ (new ∷ map not_done d)) (items-cut m a).0 (items-cut m a).1
              ∙ ap (λ k. items_of (before_first (is_later m) es) ++ (new ∷ k)) (sym (items-undone (from_first (is_later m) es)))
              ∙ ap (λ k. items_of (before_first (is_later m) es) ++ k) (sym (items-plain (pending_entry m) (map undone (from_first (is_later m) es)) refl))
              ∙ sym (items-append (before_first (is_later m) es) (pending_entry m ∷ map undone (from_first (is_later m) es)));
          cancels = λ x. f.cancels x ∙ ap (times x) (sym still);
        }
      where
        new : Item
        new = record { message = m; done = false }

        still : waiting_of (before_first (is_later m) es ++ (pending_entry m ∷ map undone (from_first (is_later m) es))) ≡ waiting_of es
        still =
            waiting-append (before_first (is_later m) es) (pending_entry m ∷ map undone (from_first (is_later m) es))
            ∙ ap (λ k. waiting_of (before_first (is_later m) es) ++ k) (waiting-plain (pending_entry m) (map undone (from_first (is_later m) es))
            refl ∙ undone-waiting (from_first (is_later m) es))
            ∙ sym (waiting-append (before_first (is_later m) es) (from_first (is_later m) es))
            ∙ ap waiting_of (cut-first (is_later m) es)

    -- both see an equal cancel, or neither does
    same-found : any (equal m) l.cancels ≡ any (is_cancel_of m) es
    same-found = by-case (any (equal m) l.cancels) refl (any (is_cancel_of m) es) refl
      where
        by-case : (t : Bool) → any (equal m) l.cancels ≡ t → (u : Bool) → any (is_cancel_of m) es ≡ u → t ≡ u
        by-case true p true q = refl
        by-case true p false q =
            absurd (omega (
              arith,
              count-insert (message-eq model) m (equals-taken m l.cancels p),
              matches-same (message-eq model) m,
              cancels-none m es q,
              f.cancels m,
            ))
        by-case false p true q =
            absurd (omega (
              arith,
              count-insert (message-eq model) m (cancel-met m es q).met,
              matches-same (message-eq model) m,
              equals-none
                  m l.cancels p,
              f.cancels m,
            ))
        by-case false p false q = refl

    struck-follows : Ascending MayStand es → any (is_plain m) es ≡ true
        → Follows (before_last (is_plain m) es ++ map undone (tail_of (from_last (is_plain m) es)))
        (record { items = before_last (is_item m) l.items ++ undone_after (from_last (is_item m) l.items); cancels = l.cancels })
    struck-follows a p =
        record {
          items = ap (λ k. before_last (is_item m) k ++ undone_after (from_last (is_item m) k)) f.items ∙ items-struck m es a p;
          cancels = λ x. f.cancels x ∙ ap (times x) (sym still);
        }
      where
        struck : Found (is_plain m) (from_last (is_plain m) es)
        struck = last_found (is_plain m) es p

        tail-waiting : waiting_of (tail_of (from_last (is_plain m) es)) ≡ waiting_of (from_last (is_plain m) es)
        tail-waiting =
            ap (λ k. waiting_of (tail_of k)) struck.is
            ∙ sym (waiting-plain struck.first struck.rest (not-true (is_waiting struck.first) (and_left (not (is_waiting
            struck.first)) (equal struck.first.message m) struck.passes)))
            ∙ ap waiting_of (sym struck.is)

        still : waiting_of (before_last (is_plain m) es ++ map undone (tail_of (from_last (is_plain m) es))) ≡ waiting_of es
        still =
            waiting-append (before_last (is_plain m) es) (map undone (tail_of (from_last (is_plain m) es)))
            ∙ ap (λ k. waiting_of (before_last (is_plain m) es) ++ k) (undone-waiting (tail_of (from_last (is_plain m) es)) ∙ tail-waiting)
            ∙ sym (waiting-append (before_last (is_plain m) es) (from_last (is_plain m) es))
            ∙ ap waiting_of (around-last (is_plain m) es p)

    kept-follows : Follows (before_first (is_later m) es ++ (waiting_entry m ∷ from_first (is_later m) es)) (record { items = l.items; cancels = m ∷ l.cancels })
    kept-follows =
        record {
          items =
              f.items
              ∙ sym
              (items-append (before_first (is_later m) es) (waiting_entry m ∷ from_first (is_later m) es)
              ∙ ap (λ k. items_of (before_first (is_later m) es) ++ k) (items-waiting (waiting_entry m) (from_first (is_later m) es) refl)
              ∙ sym (items-append (before_first (is_later m) es) (from_first (is_later m) es))
              ∙ ap items_of (cut-first (is_later m) es));
          cancels = λ x. omega (
            arith,
            count-cons (message-eq model) x m l.cancels,
            ap (times x) (waiting-append (before_first (is_later m) es) (waiting_entry m ∷ from_first (is_later m) es) ∙ ap (λ k. waiting_of
                (before_first (is_later m) es) ++ k) (waiting-here (waiting_entry m) (from_first (is_later m) es) refl)),
            count-insert (message-eq model) x (insert-between m (waiting_of (before_first (is_later m) es)) (waiting_of (from_first (is_later m) es))),
            ap (times x) (sym (waiting-append (before_first (is_later m) es) (from_first (is_later m) es)) ∙ ap waiting_of (cut-first (is_later m) es)),
            f.cancels x,
          );
        }

  module _ (m : Message) (g : Gateway) (l : Ledger.Ledger) (a : Ascending MayStand g.queue) (f : Follows g.queue l) where
    -- the ledger follows the taking of a plain message
    pub entered-follows : Follows (take_plain m g).gateway.queue (after_plain m l)
    unfolding take_plain after_plain
    entered-follows = by-case (any (is_cancel_of m) g.queue) refl
      where
        by-case : (t : Bool) → any (is_cancel_of m) g.queue ≡ t → Follows (take_plain m g).gateway.queue (after_plain m l)
        by-case true p = let q = same-found m g.queue l f ∙ p in rw (p, q) (met-follows m g.queue l f q p)
        by-case false p = let q = same-found m g.queue l f ∙ p in rw (p, q) (entry_follows m g.queue l f a)

    -- and of a cancel
    pub struck_out-follows : Follows (take_cancel m g).gateway.queue (after_cancel m l)
    unfolding take_cancel after_cancel
    struck_out-follows = by-case (any (is_plain m) g.queue) refl
      where
        by-case : (t : Bool) → any (is_plain m) g.queue ≡ t → Follows (take_cancel m g).gateway.queue (after_cancel m l)
        by-case true p = let q = ap (any (is_item m)) f.items ∙ items-any m g.queue ∙ p in rw (p, q) (struck-follows m g.queue l f a p)
        by-case false p = let q = ap (any (is_item m)) f.items ∙ items-any m g.queue ∙ p in rw (p, q) (kept-follows m g.queue l f)
