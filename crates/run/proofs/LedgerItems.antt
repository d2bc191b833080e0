-- The plain messages of a queue as the ledger's items: what each change of the queue makes of them.
use mathlib.Core.Path.{◌≡◌, refl, sym, ◌∙◌, ap, ap₂, subst}
use mathlib.Core.Bool.{Bool, true, false, cond, not, ◌&&◌, ◌||◌, true≢false}
use mathlib.Core.List.{List, [], ◌∷◌, ◌++◌, map}
use Rattle.lists.specs.Lists.{Ascending, none, more, any, without_first, before_last, from_last, tail_of, All, nil, cons}
use Rattle.lists.proofs.SearchLaws.{before-stop, before-go, from-stop, from-go}
use Rattle.lists.proofs.SearchLaws.{around-last}
use Rattle.model.specs.declared.Message.{Message}
use Rattle.model.specs.declared.State.{State}
use Rattle.memory.specs.Validity.{is_pending, is_processed, is_waiting, equal, later}
use Rattle.memory.specs.declared.Entry.{Entry}
use Rattle.memory.specs.declared.Mark.TheVariants.{Processed}
use Rattle.memory.proofs.EventLaws.{later-onward}
use Rattle.memory.proofs.Validated.{MayStand, first_of}
use Rattle.lists.proofs.BoolLaws.{and_left}
use borrow.Author.Tests.{not-true}
use Rattle.gateway.specs.Undoing.{undone}
use Rattle.gateway.specs.Working.{pending_of, processed_next}
use Rattle.lists.specs.Lists.{before_first, from_first}
use Rattle.gateway.specs.Taking.{is_later, is_cancel_of, is_plain}
use Rattle.run.specs.Ledger as Ledger
use Rattle.run.specs.Ledger.{Item, not_done, is_item, undone_after, did_one, not_done_of}
use Rattle.run.specs.WhatWaits.{item_of, items_of}
use Rattle.run.proofs.QueueViews.{Marked, marked, pending, processed, waiting}
use Rattle.run.proofs.EventCalls.{ascending-right}
use Rattle.run.proofs.QueueChanges.{each_all, last_found}

-- an entry in front, plain or not
pub items-plain : (e : Entry) (es : List Entry) → is_waiting e ≡ false → items_of (e ∷ es) ≡ item_of e ∷ items_of es
unfolding items_of
items-plain e es q = rw q

pub items-waiting : (e : Entry) (es : List Entry) → is_waiting e ≡ true → items_of (e ∷ es) ≡ items_of es
unfolding items_of
items-waiting e es q = rw q

pub items-append : (us vs : List Entry) → items_of (us ++ vs) ≡ items_of us ++ items_of vs
unfolding items_of
items-append [] vs = refl
items-append (u ∷ us) vs = by-case (is_waiting u) (items-append us vs)
  where
    by-case : (t : Bool) → items_of (us ++ vs) ≡ items_of us ++ items_of vs → cond t (items_of (us ++ vs)) (item_of u ∷ items_of (us ++ vs)) ≡
        cond t (items_of us) (item_of u ∷ items_of us) ++ items_of vs
    by-case true p = p
    by-case false p = ap (λ l. item_of u ∷ l) p

-- after undoing nothing is done
pub items-undone : (es : List Entry) → items_of (map undone es) ≡ map not_done (items_of es)
unfolding items_of undone
items-undone [] = refl
items-undone (e ∷ es) = by-mark (marked e) (items-undone es)
  where
    by-mark : Marked e → items_of (map undone es) ≡ map not_done (items_of es) → items_of (map undone (e ∷ es)) ≡ map not_done (items_of (e ∷ es))
    by-mark (pending p q r) k = rw (q, r, q) (ap (λ l. record { message = e.message; done = false } ∷ l) k)
    by-mark (processed p q r) k = rw (q, r) (ap (λ l. record { message = e.message; done = false } ∷ l) k)
    by-mark (waiting p q r) k = rw (q, r) k

-- where nothing is processed, undoing changes nothing
pub items-none : {es : List Entry} → All (λ e. is_processed e ≡ false) es → map not_done (items_of es) ≡ items_of es
unfolding items_of
items-none nil = refl
items-none (cons {a = e} {l = es} p a) = by-case (is_waiting e) (items-none a)
  where
    by-case : (t : Bool) → map not_done (items_of es) ≡ items_of es → map not_done (cond t (items_of es) (item_of e ∷ items_of es)) ≡ cond t
        (items_of es) (item_of e ∷ items_of es)
    by-case true k = k
    by-case false k = ap₂ (λ (d : Bool) l. record { message = e.message; done = d } ∷ l) (sym p) k

-- where a message enters
module _ (m : Message) where
  all-behind : {es : List Entry} → All (λ e. later e.message m ≡ true) es → (before_first (Ledger.is_later_item m) (items_of es) ≡ []) ×
      (from_first (Ledger.is_later_item m) (items_of es) ≡ items_of es)
  unfolding items_of before_first from_first
  all-behind nil = (refl, refl)
  all-behind (cons {a = e} {l = es} p a) = by-case (is_waiting e) (all-behind a)
    where
      by-case : (t : Bool) → (before_first (Ledger.is_later_item m) (items_of es) ≡ []) × (from_first (Ledger.is_later_item m) (items_of es) ≡ items_of es)
          → (before_first (Ledger.is_later_item m) (cond t (items_of es) (item_of e ∷ items_of es)) ≡ []) × (from_first (Ledger.is_later_item m)
          (cond t (items_of es) (item_of e ∷ items_of es)) ≡ cond t (items_of es) (item_of e ∷ items_of es))
      by-case true k = k
      by-case false k = (rw p, rw p)

  pub items-cut : {es : List Entry} → Ascending MayStand es → (before_first (Ledger.is_later_item m) (items_of es) ≡ items_of (before_first
      (is_later m) es)) × (from_first (Ledger.is_later_item m) (items_of es) ≡ items_of (from_first (is_later m) es))
  unfolding items_of before_first from_first
  items-cut none = (refl, refl)
  items-cut (more {x = e} {xs = es} f a) = by-case (later e.message m) refl (is_waiting e) refl (items-cut a)
    where
      Cut : List Entry → Type 0
      Cut xs = (before_first (Ledger.is_later_item m) (items_of xs) ≡ items_of (before_first (is_later m) xs)) × (from_first (Ledger.is_later_item m)
          (items_of xs) ≡ items_of (from_first (is_later m) xs))

      by-case : (t : Bool) → later e.message m ≡ t → (u : Bool) → is_waiting e ≡ u → Cut es → Cut (e ∷ es)
      by-case true p true q k =
          let b = all-behind (each_all es (λ y d. later-onward m e.message y.message p (f y d).order)) in (
            ap (before_first (Ledger.is_later_item m)) (items-waiting e es q) ∙ b.0 ∙ ap items_of (sym (before-stop (is_later m) e es p)),
            ap (from_first (Ledger.is_later_item m)) (items-waiting e es q) ∙ b.1 ∙ sym (items-waiting e es q) ∙ ap items_of (sym (from-stop (is_later m) e es p)),
          )
      by-case true p false q k = (
        ap (before_first (Ledger.is_later_item m)) (items-plain e es q) ∙ before-stop (Ledger.is_later_item m) (item_of e) (items_of es) p ∙ ap
            items_of (sym (before-stop (is_later m) e es p)),
        ap (from_first (Ledger.is_later_item m)) (items-plain e es q) ∙ from-stop (Ledger.is_later_item m) (item_of e) (items_of es) p ∙ sym
            (items-plain e es q) ∙ ap items_of (sym (from-stop (is_later m) e es p)),
      )
      by-case false p true q k = (
        ap (before_first (Ledger.is_later_item m)) (items-waiting e es q) ∙ k.0 ∙ sym (items-waiting e (before_first (is_later m) es) q) ∙ ap
            items_of (sym (before-go (is_later m) e es p)),
        ap (from_first (Ledger.is_later_item m)) (items-waiting e es q) ∙ k.1 ∙ ap items_of (sym (from-go (is_later m) e es p)),
      )
      by-case false p false q k = (
        ap (before_first (Ledger.is_later_item m)) (items-plain e es q) ∙ before-go (Ledger.is_later_item m) (item_of e) (items_of es) p ∙ ap (λ l.
            item_of e ∷ l) k.0 ∙ sym (items-plain e (before_first (is_later m) es) q) ∙ ap items_of (sym (before-go (is_later m) e es p)),
        ap (from_first (Ledger.is_later_item m)) (items-plain e es q) ∙ from-go (Ledger.is_later_item m) (item_of e) (items_of es) p ∙ k.1 ∙ ap
            items_of (sym (from-go (is_later m) e es p)),
      )

-- the equal messages
module _ (m : Message) where
  pub items-any : (es : List Entry) → any (is_item m) (items_of es) ≡ any (is_plain m) es
  unfolding items_of any
  items-any [] = refl
  items-any (e ∷ es) = by-case (is_waiting e) refl (items-any es)
    where
      by-case : (t : Bool) → is_waiting e ≡ t → any (is_item m) (items_of es) ≡ any (is_plain m) es
          → any (is_item m) (cond t (items_of es) (item_of e ∷ items_of es)) ≡ ((not t && equal e.message m) || any (is_plain m) es)
      by-case true q k = k
      by-case false q k = ap (λ (b : Bool). equal e.message m || b) k

-- the last that passes
pub or_left : (a b : Bool) → (a || b) ≡ false → a ≡ false
or_left true b h = h
or_left false b h = refl

pub or_right : (a b : Bool) → (a || b) ≡ false → b ≡ false
or_right true b h = absurd (true≢false h)
or_right false b h = h

module _ {A : Type 0} (f : A → Bool) (x : A) (xs : List A) where
  before_more : any f xs ≡ true → before_last f (x ∷ xs) ≡ x ∷ before_last f xs
  unfolding before_last
  before_more p = rw p

  before-none : any f xs ≡ false → before_last f (x ∷ xs) ≡ []
  unfolding before_last
  before-none p = rw p

  from_more : any f xs ≡ true → from_last f (x ∷ xs) ≡ from_last f xs
  unfolding from_last
  from_more p = rw p

  from-here : any f xs ≡ false → f x ≡ true → from_last f (x ∷ xs) ≡ x ∷ xs
  unfolding from_last
  from-here p q = rw (p, q)

  from-none : any f xs ≡ false → f x ≡ false → from_last f (x ∷ xs) ≡ []
  unfolding from_last
  from-none p q = rw (p, q)

nothing-before : {A : Type 0} (f : A → Bool) (xs : List A) → any f xs ≡ false → before_last f xs ≡ []
unfolding any before_last
nothing-before f [] h = refl
nothing-before f (x ∷ xs) h = before-none f x xs (or_right (f x) (any f xs) h)

nothing-from : {A : Type 0} (f : A → Bool) (xs : List A) → any f xs ≡ false → from_last f xs ≡ []
unfolding any from_last
nothing-from f [] h = refl
nothing-from f (x ∷ xs) h = from-none f x xs (or_right (f x) (any f xs) h) (or_left (f x) (any f xs) h)

module _ (m : Message) where
  -- the last equal message in the ledger is that in the queue
  pub record Last (es : List Entry) : Type 0 where
    pub before : before_last (is_item m) (items_of es) ≡ items_of (before_last (is_plain m) es)
    pub from : from_last (is_item m) (items_of es) ≡ items_of (from_last (is_plain m) es)

  pub items-last : (es : List Entry) → Last es
  unfolding items_of before_last from_last
  items-last [] = record { before = refl; from = refl }
  items-last (e ∷ es) = by-case (is_waiting e) refl (any (is_plain m) es) refl (equal e.message m) refl (items-last es)
    where
      plain-test : is_waiting e ≡ false → is_plain m e ≡ equal e.message m
      plain-test q = ap (λ (b : Bool). not b && equal e.message m) q

      waiting-test : is_waiting e ≡ true → is_plain m e ≡ false
      waiting-test q = ap (λ (b : Bool). not b && equal e.message m) q

      by-case : (t : Bool) → is_waiting e ≡ t → (u : Bool) → any (is_plain m) es ≡ u → (v : Bool) → equal e.message m ≡ v → Last es → Last (e ∷ es)
      by-case true q true p v o k =
          record {
            before =
                ap (before_last (is_item m)) (items-waiting e es q) ∙ k.before ∙ sym (items-waiting e (before_last (is_plain m) es) q)
                ∙ ap items_of (sym (before_more (is_plain m) e es p));
            from = ap (from_last (is_item m)) (items-waiting e es q) ∙ k.from ∙ ap items_of (sym (from_more (is_plain m) e es p));
          }
      by-case true q false p v o k =
          record {
            before =
                ap (before_last (is_item m)) (items-waiting e es q) ∙ k.before ∙ ap items_of (nothing-before (is_plain m) es p)
                ∙ ap items_of (sym (before-none (is_plain m) e es p));
            from =
                ap (from_last (is_item m)) (items-waiting e es q) ∙ k.from ∙ ap items_of (nothing-from (is_plain m) es p)
                ∙ ap items_of (sym (from-none (is_plain m) e es p (waiting-test q)));
          }
      by-case false q true p v o k =
          record {
            before =
                ap (before_last (is_item m)) (items-plain e es q) ∙ before_more (is_item m) (item_of e) (items_of es) (items-any m es ∙ p)
                ∙ ap (λ l. item_of e ∷ l) k.before ∙ sym (items-plain e (before_last (is_plain m) es) q)
                ∙ ap items_of (sym (before_more (is_plain m) e es p));
            from =
                ap (from_last (is_item m)) (items-plain e es q) ∙ from_more (is_item m) (item_of e) (items_of es) (items-any m es ∙ p)
                ∙ k.from ∙ ap items_of (sym (from_more (is_plain m) e es p));
          }
      by-case false q false p true o k =
          record {
            before =
                ap (before_last (is_item m)) (items-plain e es q) ∙ before-none (is_item m) (item_of e) (items_of es) (items-any m es ∙ p)
                ∙ ap items_of (sym (before-none (is_plain m) e es p));
            from =
                ap (from_last (is_item m)) (items-plain e es q) ∙ from-here (is_item m) (item_of e) (items_of es) (items-any m es ∙ p) o
                ∙ sym (items-plain e es q) ∙ ap items_of (sym (from-here (is_plain m) e es p (plain-test q ∙ o)));
          }
      by-case false q false p false o k =
          record {
            before =
                ap (before_last (is_item m)) (items-plain e es q) ∙ before-none (is_item m) (item_of e) (items_of es) (items-any m es ∙ p)
                ∙ ap items_of (sym (before-none (is_plain m) e es p));
            from =
                ap (from_last (is_item m)) (items-plain e es q) ∙ from-none (is_item m) (item_of e) (items_of es) (items-any m es ∙ p) o
                ∙ ap items_of (sym (from-none (is_plain m) e es p (plain-test q ∙ o)));
          }

  -- what stands behind the message that is struck out
  behind-struck : (x : Entry) (rest : List Entry) → is_waiting x ≡ false → Ascending MayStand (x ∷ rest) → undone_after (items_of (x ∷ rest)) ≡
      items_of (map undone rest)
  behind-struck x rest w a = ap undone_after (items-plain x rest w) ∙ by-mark (marked x) ∙ sym (items-undone rest)
    where
      by-mark : Marked x → undone_after (item_of x ∷ items_of rest) ≡ map not_done (items_of rest)
      by-mark (pending p q r) = rw q (sym (items-none (each_all rest (λ y d. (first_of a y d).marks p))))
      by-mark (processed p q r) = rw q
      by-mark (waiting p q r) = absurd (true≢false (sym r ∙ w))

  pub items-struck : (es : List Entry) → Ascending MayStand es → any (is_plain m) es ≡ true
      → before_last (is_item m) (items_of es) ++ undone_after (from_last (is_item m) (items_of es)) ≡ items_of (before_last (is_plain m) es ++ map
      undone (tail_of (from_last (is_plain m) es)))
  items-struck es a h =
      let l = items-last es in
      let f = last_found (is_plain m) es h in
      let not-waiting : is_waiting f.first ≡ false = not-true (is_waiting f.first) (and_left (not (is_waiting f.first)) (equal
      f.first.message m) f.passes) in
      let order : Ascending MayStand (f.first ∷ f.rest) = ascending-right (before_last (is_plain m) es) (subst (Ascending MayStand) (sym (ap
      (λ l. before_last (is_plain m) es ++ l) (sym f.is) ∙ around-last (is_plain m) es h)) a) in
      ap₂ ◌++◌ l.before (ap undone_after (l.from ∙ ap items_of f.is) ∙ behind-struck f.first f.rest not-waiting order ∙ ap (λ k.
      items_of (map undone (tail_of k))) (sym f.is))
      ∙ sym (items-append (before_last (is_plain m) es) (map undone (tail_of (from_last (is_plain m) es))))

-- an event done
did-done : (x : Item) (xs : List Item) → x.done ≡ true → did_one (x ∷ xs) ≡ x ∷ did_one xs
unfolding did_one
did-done x xs h = rw h

did-here : (x : Item) (xs : List Item) → x.done ≡ false → did_one (x ∷ xs) ≡ record { message = x.message; done = true } ∷ xs
unfolding did_one
did-here x xs h = rw h

pub next_here : (s : State) (e : Entry) (es : List Entry) → is_pending e ≡ true → processed_next s (e ∷ es) ≡ record {
  message = e.message;
  mark = Processed;
  before = s;
} ∷ es
unfolding processed_next
next_here s e es h = rw h

pub next-later : (s : State) (e : Entry) (es : List Entry) → is_pending e ≡ false → processed_next s (e ∷ es) ≡ e ∷ processed_next s es
unfolding processed_next
next-later s e es h = rw h

pub items-done : (s : State) (es : List Entry) → did_one (items_of es) ≡ items_of (processed_next s es)
unfolding did_one items_of processed_next
items-done s [] = refl
items-done s (e ∷ es) = by-mark (marked e) (items-done s es)
  where
    by-mark : Marked e → did_one (items_of es) ≡ items_of (processed_next s es) → did_one (items_of (e ∷ es)) ≡ items_of (processed_next s (e ∷ es))
    by-mark (pending p q r) k =
        ap did_one (items-plain e es r) ∙ did-here (item_of e) (items_of es) q
        ∙ sym (items-plain (record { message = e.message; mark = Processed; before = s }) es refl) ∙ ap items_of (sym (next_here s e es p))
    by-mark (processed p q r) k =
        ap did_one (items-plain e es r) ∙ did-done (item_of e) (items_of es) q ∙ ap (λ l. item_of e ∷ l) k
        ∙ sym (items-plain e (processed_next s es) r) ∙ ap items_of (sym (next-later s e es p))
    by-mark (waiting p q r) k =
        ap did_one (items-waiting e es r) ∙ k ∙ sym (items-waiting e (processed_next s es) r) ∙ ap items_of (sym (next-later s e es p))

-- an event committed
module _ {A : Type 0} (f : A → Bool) (x : A) (xs : List A) where
  pub without-here : f x ≡ true → without_first f (x ∷ xs) ≡ xs
  unfolding without_first
  without-here h = rw h

  pub without-later : f x ≡ false → without_first f (x ∷ xs) ≡ x ∷ without_first f xs
  unfolding without_first
  without-later h = rw h

abbrev pub is_done : Item → Bool
is_done x = x.done

pub items-committed : (es : List Entry) → without_first is_done (items_of es) ≡ items_of (without_first is_processed es)
unfolding without_first items_of
items-committed [] = refl
items-committed (e ∷ es) = by-mark (marked e) (items-committed es)
  where
    by-mark : Marked e → without_first is_done (items_of es) ≡ items_of (without_first is_processed es) → without_first is_done (items_of (e ∷ es)) ≡
        items_of (without_first is_processed (e ∷ es))
    by-mark (pending p q r) k =
        ap (without_first is_done) (items-plain e es r) ∙ without-later is_done (item_of e) (items_of es) q ∙ ap (λ l. item_of e ∷ l) k
        ∙ sym (items-plain e (without_first is_processed es) r) ∙ ap items_of (sym (without-later is_processed e es q))
    by-mark (processed p q r) k =
        ap (without_first is_done) (items-plain e es r) ∙ without-here is_done (item_of e) (items_of es) q ∙ ap items_of (sym (without-here is_processed e es q))
    by-mark (waiting p q r) k =
        ap (without_first is_done) (items-waiting e es r) ∙ k ∙ sym (items-waiting e (without_first is_processed es) r) ∙ ap items_of (sym
        (without-later is_processed e es q))

-- what is not done is pending
left_here : (x : Item) (xs : List Item) → x.done ≡ false → not_done_of (x ∷ xs) ≡ x.message ∷ not_done_of xs
unfolding not_done_of
left_here x xs h = rw h

left-none : (x : Item) (xs : List Item) → x.done ≡ true → not_done_of (x ∷ xs) ≡ not_done_of xs
unfolding not_done_of
left-none x xs h = rw h

pending-here : (e : Entry) (es : List Entry) → is_pending e ≡ true → pending_of (e ∷ es) ≡ e.message ∷ pending_of es
unfolding pending_of
pending-here e es h = rw h

pending-none : (e : Entry) (es : List Entry) → is_pending e ≡ false → pending_of (e ∷ es) ≡ pending_of es
unfolding pending_of
pending-none e es h = rw h

pub items-pending : (es : List Entry) → not_done_of (items_of es) ≡ pending_of es
unfolding not_done_of items_of pending_of
items-pending [] = refl
items-pending (e ∷ es) = by-mark (marked e) (items-pending es)
  where
    by-mark : Marked e → not_done_of (items_of es) ≡ pending_of es → not_done_of (items_of (e ∷ es)) ≡ pending_of (e ∷ es)
    by-mark (pending p q r) k = ap not_done_of (items-plain e es r) ∙ left_here (item_of e) (items_of es) q ∙ ap (λ l. e.message ∷ l) k ∙ sym (pending-here e es p)
    by-mark (processed p q r) k = ap not_done_of (items-plain e es r) ∙ left-none (item_of e) (items_of es) q ∙ k ∙ sym (pending-none e es p)
    by-mark (waiting p q r) k = ap not_done_of (items-waiting e es r) ∙ k ∙ sym (pending-none e es p)

-- with equal rest, whatever stands in front
items_more : (e : Entry) (es fs : List Entry) → items_of es ≡ items_of fs → items_of (e ∷ es) ≡ items_of (e ∷ fs)
unfolding items_of
items_more e es fs k = ap (λ l. cond (is_waiting e) l (item_of e ∷ l)) k

-- meeting a cancel leaves the items
pub items-met : (m : Message) (es : List Entry) → items_of (without_first (is_cancel_of m) es) ≡ items_of es
unfolding without_first
items-met m [] = refl
items-met m (e ∷ es) = by-case (is_cancel_of m e) refl (items-met m es)
  where
    by-case : (t : Bool) → is_cancel_of m e ≡ t → items_of (without_first (is_cancel_of m) es) ≡ items_of es → items_of (without_first (is_cancel_of m)
        (e ∷ es)) ≡ items_of (e ∷ es)
    by-case true q k = ap items_of (without-here (is_cancel_of m) e es q) ∙ sym (items-waiting e es (and_left (is_waiting e) (equal e.message m) q))
    by-case false q k = ap items_of (without-later (is_cancel_of m) e es q) ∙ items_more e (without_first (is_cancel_of m) es) es k
