-- The queue after each call: its entries are good, and they may stand in the order in which they do.
use mathlib.Core.Path.{◌≡◌, refl, sym, ◌∙◌, ap, subst}
use mathlib.Core.Logic.{⊎_elim}
use mathlib.Core.Bool.{Bool, true, false, cond, not, ◌&&◌, true≢false, false≢true}
use mathlib.Core.List.Memᴰ
use mathlib.Core.List.Memᴰ.{head as here}
use mathlib.Core.List.Memᴰ.{tail as there}
use mathlib.Core.List.{List, [], ◌∷◌, ◌++◌, map}
use mathlib.Core.List.{Sublistᴰ}
use native.Mathlib.Omega.{arith}
use borrow.Author.Tests.{not-false}
use Rattle.lists.specs.Lists.{◌∈◌, Ascending, none, more, any, before_last, from_last, tail_of}
use Rattle.lists.proofs.SearchLaws.{none_passes, around-last, part-tail, part-behind, cut-first, before-fails}
use Rattle.lists.proofs.Ascents.{part-member, part-ascending, insert-ascending, map-member, map-behind}
use Rattle.model.specs.declared.Message.{Message}
use Rattle.model.specs.declared.State.{State}
use Rattle.memory.specs.Validity.{pending_mark, processed_mark, waiting_mark, is_pending, is_processed, is_waiting, equal, later, no_state}
use Rattle.memory.specs.declared.Settings.{Settings}
use Rattle.memory.specs.declared.Entry.{Entry}
use Rattle.memory.specs.declared.Mark.{Mark}
use Rattle.memory.specs.declared.Mark.TheVariants.{Pending, Processed, Waiting}
use Rattle.memory.proofs.EventLaws.{later-flip, not-later-self, same-equal}
use Rattle.memory.specs.Ranges.{RangedState}
use Rattle.memory.proofs.Validated.{Storable, MayStand}
use Rattle.gateway.specs.Undoing.{pending_entry, undone}
use Rattle.lists.specs.Lists.{before_first, from_first}
use Rattle.gateway.specs.Taking.{is_later, is_cancel_of, is_plain, waiting_entry}
use Rattle.gateway.specs.Working.{processed_next}
use Rattle.gateway.proofs.Searches.{behind-later}
use Rattle.gateway.proofs.Replies.{Good}
use Rattle.gateway.proofs.Maintaining.{GoodEntry}

-- a queue as it is to be
pub record GoodQueue (s : Settings) (es : List Entry) : Type 0 where
  pub entries : (e : Entry) → e ∈ es → GoodEntry s e
  pub order : Ascending MayStand es

-- with some entries left out it stays so
pub leave-out : {s : Settings} {es fs : List Entry} → Sublistᴰ fs es → GoodQueue s es → GoodQueue s fs
leave-out p q = record { entries = λ e m. q.entries e (part-member p m); order = part-ascending p q.order }

-- an entry has one mark
processed-not-waiting : (k : Mark) → processed_mark k ≡ true → waiting_mark k ≡ false
processed-not-waiting Pending h = refl
processed-not-waiting Processed h = refl
processed-not-waiting Waiting h = absurd (false≢true h)

pending-not-waiting : (k : Mark) → pending_mark k ≡ true → waiting_mark k ≡ false
pending-not-waiting Pending h = refl
pending-not-waiting Processed h = refl
pending-not-waiting Waiting h = absurd (false≢true h)

pub pending-not-processed : (k : Mark) → pending_mark k ≡ true → processed_mark k ≡ false
pending-not-processed Pending h = refl
pending-not-processed Processed h = absurd (false≢true h)
pending-not-processed Waiting h = refl

-- a message that came, not processed
pub zero-state : RangedState no_state
zero-state = record { stock = omega arith; failed = omega arith; fitted = omega arith; short = omega arith }

module _ {s : Settings} (m : Message) (to-here : m.to ≡ s.own) where
  pub pending-good : Good s false m → GoodEntry s (pending_entry m)
  pending-good g = record { valid = record { message = g.storable; to = to-here; saved = refl }; ranged = record { message = g.ranged; before = zero-state } }

  pub waiting-good : Good s true m → GoodEntry s (waiting_entry m)
  waiting-good g = record { valid = record { message = g.storable; to = to-here; saved = refl }; ranged = record { message = g.ranged; before = zero-state } }

-- an entry after undoing
pub record Undone (e f : Entry) : Type 0 where
  pub message : f.message ≡ e.message
  pub processed : is_processed f ≡ false
  pub waiting : is_waiting f ≡ is_waiting e

pub undone-is : (e : Entry) → Undone e (undone e)
unfolding undone
undone-is e = by-case (is_processed e) refl
  where
    by-case : (b : Bool) → is_processed e ≡ b → Undone e (cond b (pending_entry e.message) e)
    by-case true h = record { message = refl; processed = refl; waiting = sym (processed-not-waiting e.mark h) }
    by-case false h = record { message = refl; processed = h; waiting = refl }

pub undone-good : {s : Settings} (e : Entry) → GoodEntry s e → GoodEntry s (undone e)
unfolding undone
undone-good {s} e g = by-case (is_processed e) refl
  where
    by-case : (b : Bool) → is_processed e ≡ b → GoodEntry s (cond b (pending_entry e.message) e)
    by-case true h =
        pending-good e.message g.valid.to
        (record {
          storable = subst (λ (w : Bool). Storable s w e.message) (processed-not-waiting e.mark h) g.valid.message;
          ranged
              = g.ranged.message;
        })
    by-case false h = g

undone-behind : (e f : Entry) → MayStand e f → MayStand e (undone f)
undone-behind e f r =
    let u = undone-is f in
    record {
      order = ap (later e.message) u.message ∙ r.order;
      marks = λ h. u.processed;
      apart = λ h. r.apart (h ∙ u.message) ∙ sym u.waiting;
    }

undone-both : (e f : Entry) → MayStand e f → MayStand (undone e) (undone f)
undone-both e f r =
    let u = undone-is e in
    let w = undone-is f in
    record {
      order = ap (λ (x : Message). later x (undone f).message) u.message ∙ ap (later e.message) w.message ∙ r.order;
      marks = λ h. w.processed;
      apart = λ h. u.waiting ∙ r.apart (sym u.message ∙ h ∙ w.message) ∙ sym w.waiting;
    }

-- those behind a place undone
pub undo-behind : {s : Settings} (us vs : List Entry) → GoodQueue s (us ++ vs) → GoodQueue s (us ++ map undone vs)
undo-behind {s} us vs q =
    record {
      entries = λ e m. ⊎_elim
          (λ n. q.entries e (Memᴰ.append_left vs n))
          (λ n. let r = map-member undone vs n in subst (GoodEntry s) (sym r.2) (undone-good r.0 (q.entries r.0 (Memᴰ.append_right us r.1))))
          (Memᴰ.append_cases us m);
      order = map-behind undone undone-behind undone-both us vs q.order;
    }

-- one put in
pub put_in : {s : Settings} (us vs : List Entry) (x : Entry) → GoodQueue s (us ++ vs) → GoodEntry s x
    → ((u : Entry) → u ∈ us → MayStand u x) → ((v : Entry) → v ∈ vs → MayStand x v) → GoodQueue s (us ++ (x ∷ vs))
put_in {s} us vs x q g before after =
    record {
      entries = λ e m. ⊎_elim
          (λ n. q.entries e (Memᴰ.append_left vs n))
          (λ n. ⊎_elim (λ (p : e ≡ x). subst (GoodEntry s) (sym p) g) (λ o. q.entries e (Memᴰ.append_right us o)) (Memᴰ.cases_cons n))
          (Memᴰ.append_cases us m);
      order = insert-ascending us x q.order before after;
    }

-- a message that is not processed put in behind what is not later, before what is later
enter : {s : Settings} (us vs : List Entry) (x : Entry) → GoodQueue s (us ++ vs) → GoodEntry s x → is_processed x ≡ false
    → ((u : Entry) → u ∈ us → later u.message x.message ≡ false) → ((v : Entry) → v ∈ vs → later v.message x.message ≡ true)
    → (is_pending x ≡ true → (v : Entry) → v ∈ vs → is_processed v ≡ false) → ((u : Entry) → u ∈ us → u.message ≡ x.message → is_waiting u ≡ is_waiting x)
    → GoodQueue s (us ++ (x ∷ vs))
enter us vs x q g p not-later is_later_lem marks apart =
    put_in us vs x q g
    (λ u m. record { order = not-later u m; marks = λ h. p; apart = apart u m })
    (λ v m. record {
      order = later-flip v.message x.message (is_later_lem v m);
      marks = λ h. marks h v m;
      apart = λ h. absurd (true≢false (sym (is_later_lem v m) ∙ ap (λ (y : Message). later v.message y) h ∙ not-later-self v.message));
    })

-- not both, and the second: not the first
not_first : (a b : Bool) → (a && b) ≡ false → b ≡ true → a ≡ false
not_first true b h k = absurd (true≢false (sym k ∙ h))
not_first false b h k = refl

module _ {s : Settings} (m : Message) (es : List Entry) (q : GoodQueue s es) where
  cut-good : GoodQueue s (before_first (is_later m) es ++ from_first (is_later m) es)
  cut-good = rw (cut-first (is_later m) es) q

  up-to-member : (u : Entry) → u ∈ before_first (is_later m) es → u ∈ es
  up-to-member u n = rw (cut-first (is_later m) es) at (Memᴰ.append_left (from_first (is_later m) es) n)

  -- taking a plain message
  pub plain-enters : GoodEntry s (pending_entry m) → any (is_cancel_of m) es ≡ false → GoodQueue s (before_first (is_later m) es ++ (pending_entry
      m ∷ map undone (from_first (is_later m) es)))
  plain-enters g h =
      enter (before_first (is_later m) es) (map undone (from_first (is_later m) es)) (pending_entry m) (undo-behind (before_first (is_later m) es)
      (from_first (is_later m) es) cut-good) g refl
      (before-fails (is_later m) es)
      (λ v n. let r = map-member undone (from_first (is_later m) es) n in ap (λ (x : Entry). later x.message m) r.2 ∙ ap (λ (x :
      Message). later x m) (undone-is r.0).message ∙ behind-later m q.order r.0 r.1)
      (λ k v n. let r = map-member undone (from_first (is_later m) es) n in ap is_processed r.2 ∙ (undone-is r.0).processed)
      (λ u n e. not_first (is_waiting u) (equal u.message m) (none_passes (is_cancel_of m) es h u (up-to-member u n)) (same-equal u.message m e))

  -- an opening message, while none is processed and no cancel waits
  pub opening-enters : GoodEntry s (pending_entry m) → ((e : Entry) → e ∈ es → is_pending e ≡ true) → GoodQueue s (before_first (is_later m) es
      ++ (pending_entry m ∷ from_first (is_later m) es))
  opening-enters g h =
      enter (before_first (is_later m) es) (from_first (is_later m) es) (pending_entry m) cut-good g refl
      (before-fails (is_later m) es)
      (behind-later m q.order)
      (λ k v n. pending-not-processed v.mark (h v (rw (cut-first (is_later m) es) at (Memᴰ.append_right (before_first (is_later m) es) n))))
      (λ u n e. pending-not-waiting u.mark (h u (up-to-member u n)))

  -- a cancel that waits
  pub cancel-enters : GoodEntry s (waiting_entry m) → any (is_plain m) es ≡ false → GoodQueue s (before_first (is_later m) es ++ (waiting_entry m
      ∷ from_first (is_later m) es))
  cancel-enters g h =
      enter (before_first (is_later m) es) (from_first (is_later m) es) (waiting_entry m) cut-good g refl
      (before-fails (is_later m) es)
      (behind-later m q.order)
      (λ k. absurd (false≢true k))
      (λ u n e. not-false (is_waiting u) (not_first (not (is_waiting u)) (equal u.message m) (none_passes (is_plain m) es h u (up-to-member
      u n)) (same-equal u.message m e)))

  -- a cancel that meets its message
  pub cancel-meets : any (is_plain m) es ≡ true → GoodQueue s (before_last (is_plain m) es ++ map undone (tail_of (from_last (is_plain m) es)))
  cancel-meets h =
      undo-behind (before_last (is_plain m) es) (tail_of (from_last (is_plain m) es))
      (leave-out (part-behind (before_last (is_plain m) es) (part-tail (from_last (is_plain m) es))) (rw (around-last (is_plain m) es h) q))

  pub found-member : any (is_plain m) es ≡ true → (e : Entry) → e ∈ from_last (is_plain m) es → e ∈ es
  found-member h e n = rw (around-last (is_plain m) es h) at (Memᴰ.append_right (before_last (is_plain m) es) n)

-- one event done
module _ (before : State) where
  -- an entry as it was, or the one that was pending
  data Was (es : List Entry) (x : Entry) : Type 0 where
    as_it_was : x ∈ es → Was es x
    done : (e : Entry) → e ∈ es → is_pending e ≡ true → x ≡ record { message = e.message; mark = Processed; before = before } → Was es x

  was-more : {es : List Entry} {x e : Entry} → Was es x → Was (e ∷ es) x
  was-more (as_it_was m) = as_it_was (there m)
  was-more (done e m p q) = done e (there m) p q

  next-was : (es : List Entry) (x : Entry) → x ∈ processed_next before es → Was es x
  unfolding processed_next
  next-was [] x m = absurd (Memᴰ.not-nil m)
  next-was (e ∷ es) x m = by-case (is_pending e) refl (next-was es x) m
    where
      by-case : (b : Bool) → is_pending e ≡ b → (x ∈ processed_next before es → Was es x)
          → x ∈ cond b (record { message = e.message; mark = Processed; before = before } ∷ es) (e ∷ processed_next before es) → Was (e ∷ es) x
      by-case true h rest m = ⊎_elim (done e (here refl) h) (λ n. as_it_was (there n)) (Memᴰ.cases_cons m)
      by-case false h rest m = ⊎_elim (λ (p : x ≡ e). as_it_was (here p)) (λ n. was-more (rest n)) (Memᴰ.cases_cons m)

  done-behind : (e f : Entry) → is_pending e ≡ false → is_pending f ≡ true → MayStand e f → MayStand e (record {
    message = f.message;
    mark =
        Processed;
    before = before;
  })
  done-behind e f p h r = record { order = r.order; marks = λ k. absurd (true≢false (sym k ∙ p)); apart = λ k. r.apart k ∙ pending-not-waiting f.mark h }

  done_first : (e f : Entry) → is_pending e ≡ true → MayStand e f → MayStand (record { message = e.message; mark = Processed; before = before }) f
  done_first e f h r = record { order = r.order; marks = λ k. absurd (false≢true k); apart = λ k. sym (pending-not-waiting e.mark h) ∙ r.apart k }

  next-order : {es : List Entry} → Ascending MayStand es → Ascending MayStand (processed_next before es)
  unfolding processed_next
  next-order none = none
  next-order (more {x = e} {xs = es} f a) = by-case (is_pending e) refl (next-order a)
    where
      by-case : (b : Bool) → is_pending e ≡ b → Ascending MayStand (processed_next before es)
          → Ascending MayStand (cond b (record { message = e.message; mark = Processed; before = before } ∷ es) (e ∷ processed_next before es))
      by-case true h rest = more (λ y m. done_first e y h (f y m)) a
      by-case false h rest = more (λ y m. stands y (next-was es y m)) rest
        where
          stands : (y : Entry) → Was es y → MayStand e y
          stands y (as_it_was m) = f y m
          stands y (done x m p q) = subst (MayStand e) (sym q) (done-behind e x h p (f x m))

  pub next-good : {s : Settings} {es : List Entry} → RangedState before → GoodQueue s es → GoodQueue s (processed_next before es)
  next-good {s} {es} r q = record { entries = λ x m. by-case x (next-was es x m); order = next-order q.order }
    where
      by-case : (x : Entry) → Was es x → GoodEntry s x
      by-case x (as_it_was m) = q.entries x m
      by-case x (done e m p w) =
          let g = q.entries e m in
          subst (GoodEntry s) (sym w)
          (record {
            valid = record {
              message = subst (λ (t : Bool). Storable s t e.message) (pending-not-waiting e.mark p)
                  g.valid.message;
              to = g.valid.to;
              saved = refl;
            };
            ranged = record { message = g.ranged.message; before = r };
          })
