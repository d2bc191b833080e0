-- What a call's change of the queue or of what is outstanding is to the theory's lists.
use mathlib.Core.Path.{◌≡◌, refl, sym, ◌∙◌, ap}
use Prim.Native.Nat.{ℕ}
use native.Mathlib.Omega.{arith}
use mathlib.Core.Bool.{Bool, true, false, cond, not, ◌&&◌, ◌||◌, true≢false, false≢true}
use mathlib.Core.List.Memᴰ.{head as member-first}
use mathlib.Core.List.Memᴰ.{tail as member-rest}
use mathlib.Core.List.{List, [], ◌∷◌, map}
use Rattle.lists.specs.Lists.{◌∈◌, Ascending, none, more, any, without_first, from_last, All, nil, cons, Insert, here, there}
use Rattle.model.specs.Doing.{after}
use Rattle.model.specs.declared.Message.{Message}
use Rattle.model.specs.declared.State.{State}
use Rattle.memory.specs.Validity.{is_pending, is_processed, is_waiting, equal}
use Rattle.memory.specs.declared.Entry.{Entry}
use Rattle.memory.specs.declared.Sent.{Sent}
use Rattle.memory.specs.declared.Mark.TheVariants.{Processed}
use Rattle.memory.proofs.EventLaws.{equal-same}
use Rattle.memory.proofs.Validated.{MayStand}
use Rattle.lists.proofs.BoolLaws.{and_left, and_right}
use Rattle.gateway.specs.Undoing.{processed_of}
use Rattle.gateway.specs.Working.{pending_of, processed_next}
use Rattle.gateway.specs.Taking.{is_cancel_of, is_sent}
use Rattle.event_steps.specs.Models.{state_after}
use Rattle.event_steps.specs.Gateways.{plain, cancel}
use Rattle.run.specs.Forecast.{SetUpInput}
use Rattle.run.specs.WhatWaits.{waiting_of}
use Rattle.run.proofs.QueueViews.{event_if, event_for, done_with, done_after, Marked, marked, pending, processed, waiting}
use Rattle.run.proofs.SavedStates.{Saved, at-end, entry, saved-more, saved-state, state_at}

-- what all entries have, their processed ones have
pub done_all : {p : Message → Type 0} {h : List Message} {es : List Entry} → All (λ e. p e.message) es → All p h → All p (done_after h es)
unfolding done_after
done_all nil b = b
done_all {p} {h} (cons {a = e} {l = es} x a) b = done_all a (by-case (is_processed e))
  where
    by-case : (t : Bool) → All p (cond t (e.message ∷ h) h)
    by-case true = cons x b
    by-case false = b

-- the last that passes stands in front of what stands from it on
pub record Found {A : Type 0} (f : A → Bool) (xs : List A) : Type 0 where
  pub first : A
  pub rest : List A
  pub is : xs ≡ first ∷ rest
  pub passes : f first ≡ true

pub last_found : {A : Type 0} (f : A → Bool) (xs : List A) → any f xs ≡ true → Found f (from_last f xs)
unfolding any from_last
last_found f [] h = absurd (false≢true h)
last_found f (x ∷ xs) h = by-case (any f xs) refl (f x) refl (last_found f xs) h
  where
    by-case : (t : Bool) → any f xs ≡ t → (u : Bool) → f x ≡ u → (any f xs ≡ true → Found f (from_last f xs)) → (u || t) ≡ true
        → Found f (cond t (from_last f xs) (cond u (x ∷ xs) []))
    by-case true p u q ih k = ih p
    by-case false p true q ih k = record { first = x; rest = xs; is = refl; passes = q }
    by-case false p false q ih k = absurd (false≢true k)

-- an equal waiting cancel is taken out
pub record CancelMet (m : Message) (es fs : List Entry) : Type 0 where
  pub met : Insert m (waiting_of fs) (waiting_of es)
  pub same-pending : pending_of fs ≡ pending_of es
  pub same-done : (h : List Message) → done_after h fs ≡ done_after h es

pub cancel-met : (m : Message) (es : List Entry) → any (is_cancel_of m) es ≡ true → CancelMet m es (without_first (is_cancel_of m) es)
unfolding any without_first waiting_of pending_of done_after
cancel-met m [] k = absurd (false≢true k)
cancel-met m (e ∷ es) k = by-case (is_cancel_of m e) refl (cancel-met m es) k
  where
    passed : CancelMet m es (without_first (is_cancel_of m) es) → CancelMet m (e ∷ es) (e ∷ without_first (is_cancel_of m) es)
    passed r =
        record {
          met = by-waiting (is_waiting e);
          same-pending = ap (λ l. cond (is_pending e) (e.message ∷ l) l) r.same-pending;
          same-done = λ h. r.same-done (done_with e h);
        }
      where
        by-waiting : (t : Bool) → Insert m (cond t (e.message ∷ waiting_of (without_first (is_cancel_of m) es)) (waiting_of (without_first
            (is_cancel_of m) es))) (cond t (e.message ∷ waiting_of es) (waiting_of es))
        by-waiting true = there r.met
        by-waiting false = r.met

    taken : is_cancel_of m e ≡ true → CancelMet m (e ∷ es) es
    taken q = by-mark (marked e)
      where
        same : e.message ≡ m
        same = equal-same e.message m (and_right (is_waiting e) (equal e.message m) q)

        waits : is_waiting e ≡ true
        waits = and_left (is_waiting e) (equal e.message m) q

        by-mark : Marked e → CancelMet m (e ∷ es) es
        by-mark (pending f g h) = absurd (true≢false (sym waits ∙ h))
        by-mark (processed f g h) = absurd (true≢false (sym waits ∙ h))
        by-mark (waiting f g h) =
            record {
              met = rw (h, same) here;
              same-pending = rw f;
              same-done = λ d. rw g;
            }

    by-case : (t : Bool) → is_cancel_of m e ≡ t → (any (is_cancel_of m) es ≡ true → CancelMet m es (without_first (is_cancel_of m) es)) → (t || any
        (is_cancel_of m) es) ≡ true
        → CancelMet m (e ∷ es) (cond t es (e ∷ without_first (is_cancel_of m) es))
    by-case true q ih k = taken q
    by-case false q ih k = passed (ih k)

-- the oldest processed event is taken out
pub record OldestTaken (e : Entry) (es fs : List Entry) : Type 0 where
  pub taken-done : (h : List Message) → done_after h es ≡ done_after (e.message ∷ h) fs
  pub same-pending : pending_of fs ≡ pending_of es
  pub same-waiting : waiting_of fs ≡ waiting_of es

pub oldest-taken : (es : List Entry) (e : Entry) (newer : List Entry) → processed_of es ≡ e ∷ newer → OldestTaken e es (without_first is_processed es)
unfolding processed_of without_first done_after pending_of waiting_of
oldest-taken [] e newer k = absurd (let z : ◌≡◌ {A = ℕ} 0 1 = cc in omega arith)
oldest-taken (x ∷ es) e newer k = by-mark (marked x) (oldest-taken es e newer)
  where
    passed : is_processed x ≡ false → OldestTaken e es (without_first is_processed es) → OldestTaken e (x ∷ es) (x ∷ without_first is_processed es)
    passed g r =
        record {
          taken-done = λ d.
              ap (λ (t : Bool). done_after (cond t (x.message ∷ d) d) es) g
              ∙ r.taken-done d
              ∙ sym (ap (λ (t : Bool). done_after (cond t (x.message ∷ (e.message ∷ d)) (e.message ∷ d)) (without_first is_processed es)) g);
          same-pending = ap (λ l. cond (is_pending x) (x.message ∷ l) l) r.same-pending;
          same-waiting = ap (λ l. cond (is_waiting x) (x.message ∷ l) l) r.same-waiting;
        }

    by-mark : Marked x → (processed_of es ≡ e ∷ newer → OldestTaken e es (without_first is_processed es)) → OldestTaken e (x ∷ es) (cond
        (is_processed x) es (x ∷ without_first is_processed es))
    by-mark (pending f g h) ih = rw g (passed g (ih (rw g at k)))
    by-mark (processed f g h) ih =
        let first : x ≡ e = cc (rw g at k) in
        rw g (record { taken-done = λ d. rw (g, first); same-pending = rw f; same-waiting = rw h })
    by-mark (waiting f g h) ih = rw g (passed g (ih (rw g at k)))

-- where nothing is processed, nothing is done
pub none_done : {es : List Entry} → All (λ e. is_processed e ≡ false) es → (h : List Message) → done_after h es ≡ h
unfolding done_after
none_done nil h = refl
none_done (cons p a) h = rw p (none_done a h)

-- from membership to each
pub each_all : {A : Type 0} {p : A → Type 0} (xs : List A) → ((x : A) → x ∈ xs → p x) → All p xs
each_all [] f = nil
each_all (x ∷ xs) f = cons (f x (member-first refl)) (each_all xs (λ y m. f y (member-rest m)))

-- the earliest pending message is processed
pub record NextDone (m : Message) (ms : List Message) (es fs : List Entry) : Type 0 where
  pub is-done : (h : List Message) → done_after h fs ≡ m ∷ done_after h es
  pub left-pending : pending_of fs ≡ ms
  pub same-waiting : waiting_of fs ≡ waiting_of es

pub next-done : {es : List Entry} → Ascending MayStand es → (s : State) (m : Message) (ms : List Message) → pending_of es ≡ m ∷ ms → NextDone
    m ms es (processed_next s es)
unfolding pending_of processed_next done_after waiting_of
next-done none s m ms k = absurd (let z : ◌≡◌ {A = ℕ} 0 1 = cc in omega arith)
next-done (more {x = e} {xs = es} f a) s m ms k = by-mark (marked e) (next-done a s)
  where
    by-mark : Marked e → ((m : Message) (ms : List Message) → pending_of es ≡ m ∷ ms → NextDone m ms es (processed_next s es))
        → NextDone m ms (e ∷ es) (cond (is_pending e) (record { message = e.message; mark = Processed; before = s } ∷ es) (e ∷ processed_next s es))
    by-mark (pending p q r) ih =
        let first : e.message ≡ m = cc (rw p at k) in
        let others : pending_of es ≡ ms = cc (rw p at k) in
        let nothing = none_done (each_all es (λ y n. (f y n).marks p)) in
        rw p
        (record {
          is-done = λ h. nothing (e.message ∷ h) ∙ rw (first, q, nothing h);
          left-pending = others;
          same-waiting = rw r;
        })
    by-mark (processed p q r) ih = rw p (passed q (ih m ms (rw p at k)))
      where
        passed : is_processed e ≡ true → NextDone m ms es (processed_next s es) → NextDone m ms (e ∷ es) (e ∷ processed_next s es)
        passed q d = record {
          is-done = λ h. d.is-done (done_with e h);
          left-pending = rw p d.left-pending;
          same-waiting = ap (λ l. cond
              (is_waiting e) (e.message ∷ l) l) d.same-waiting;
        }
    by-mark (waiting p q r) ih =
        let d = ih m ms (rw p at k) in
        rw p (record {
          is-done = λ h. d.is-done (done_with e h);
          left-pending = rw p d.left-pending;
          same-waiting = ap (λ l. cond
              (is_waiting e) (e.message ∷ l) l) d.same-waiting;
        })

-- an acknowledged event is taken out of what is outstanding
pub sent-taken : (c : Bool) (m : Message) (xs : List Sent) → any (is_sent c m) xs ≡ true → Insert (event_if c m) (map event_for (without_first
    (is_sent c m) xs)) (map event_for xs)
unfolding any without_first
sent-taken c m [] k = absurd (false≢true k)
sent-taken c m (x ∷ xs) k = by-case (is_sent c m x) refl (sent-taken c m xs) k
  where
    same-event : (c d : Bool) (y : Message) → (cond c d (not d) && equal y m) ≡ true → event_if d y ≡ event_if c m
    same-event true true y h = ap cancel (equal-same y m h)
    same-event true false y h = absurd (false≢true h)
    same-event false true y h = absurd (false≢true h)
    same-event false false y h = ap plain (equal-same y m h)

    by-case : (t : Bool) → is_sent c m x ≡ t → (any (is_sent c m) xs ≡ true → Insert (event_if c m) (map event_for (without_first (is_sent c m)
        xs)) (map event_for xs)) → (t || any (is_sent c m) xs) ≡ true
        → Insert (event_if c m) (map event_for (cond t xs (x ∷ without_first (is_sent c m) xs))) (event_for x ∷ map event_for xs)
    by-case true q ih h = rw (same-event c x.cancel x.message q) here
    by-case false q ih h = there (ih h)

-- what the saved states become
module _ (n last : ℕ) (setups : ℕ → SetUpInput) (i : ℕ) where
  pub saved-without : (f : Entry → Bool) → ((e : Entry) → f e ≡ true → is_processed e ≡ false) → {h : List Message} {es : List Entry} {s : State}
      → Saved n last setups i h es s → Saved n last setups i h (without_first f es) s
  unfolding without_first
  saved-without f not-processed (at-end e) = at-end e
  saved-without f not-processed {h} {s = s} (entry {e = e} {es = es} b v) = by-case (f e) refl (saved-without f not-processed v)
    where
      by-case : (t : Bool) → f e ≡ t → Saved n last setups i (done_with e h) (without_first f es) s → Saved n last setups i h (cond t es (e ∷
          without_first f es)) s
      by-case true q ih = rw (not-processed e q) at v
      by-case false q ih = entry b ih

  pub record Committed (h : List Message) (e : Entry) (es : List Entry) (s : State) : Type 0 where
    pub before : e.before ≡ state_at n last setups i h
    pub still : Saved n last setups i (e.message ∷ h) (without_first is_processed es) s

  pub saved-committed : {h : List Message} {es : List Entry} {s : State} → Saved n last setups i h es s → (e : Entry) (newer : List Entry) →
      processed_of es ≡ e ∷ newer → Committed h e es s
  unfolding without_first processed_of
  saved-committed (at-end p) e newer k = absurd (let z : ◌≡◌ {A = ℕ} 0 1 = cc in omega arith)
  saved-committed {h} {s = s} (entry {e = x} {es = es} b v) e newer k = by-case (is_processed x) refl (λ d. saved-committed v e newer d)
    where
      by-case : (t : Bool) → is_processed x ≡ t → (processed_of es ≡ e ∷ newer → Committed (done_with x h) e es s) → Committed h e (x ∷ es) s
      by-case true q ih =
          let first : x ≡ e = cc (rw q at k) in
          record { before = rw (← first) (b q); still = rw (q, ← first) (rw q at v) }
      by-case false q ih =
          let r = ih (rw q at k) in
          record { before = rw q at r.before; still = rw q (saved-more n last setups i q (rw q at r.still)) }

  pub saved-none : {es : List Entry} → All (λ e. is_processed e ≡ false) es → (h : List Message) → Saved n last setups i h es (state_at n last setups i h)
  saved-none nil h = at-end refl
  saved-none (cons p a) h = saved-more n last setups i p (saved-none a h)

  pub saved-next : {es : List Entry} → Ascending MayStand es → {h : List Message} {s : State} → Saved n last setups i h es s → (m : Message)
      (ms : List Message) → pending_of es ≡ m ∷ ms
      → Saved n last setups i h (processed_next s es) (after s m.kind)
  unfolding pending_of processed_next state_after
  saved-next none v m ms k = absurd (let z : ◌≡◌ {A = ℕ} 0 1 = cc in omega arith)
  saved-next (more {x = e} {xs = es} f a) {h} {s} (entry b v) m ms k = by-mark (marked e) (saved-next a v)
    where
      by-mark : Marked e → ((m : Message) (ms : List Message) → pending_of es ≡ m ∷ ms → Saved n last setups i (done_with e h) (processed_next
          s es) (after s m.kind))
          → Saved n last setups i h (cond (is_pending e) (record { message = e.message; mark = Processed; before = s } ∷ es) (e ∷
          processed_next s es)) (after s m.kind)
      by-mark (pending p q r) ih =
          let first : e.message ≡ m = cc (rw p at k) in
          let others = each_all es (λ y d. (f y d).marks p) in
          let now : s ≡ state_at n last setups i h = saved-state n last setups i (rw q at v) ∙ ap (state_at n last setups i) (none_done others h) in
          rw (p, ← first, now) (entry (λ d. refl) (saved-none others (e.message ∷ h)))
      by-mark (processed p q r) ih = rw p (entry b (ih m ms (rw p at k)))
      by-mark (waiting p q r) ih = rw p (entry b (ih m ms (rw p at k)))
