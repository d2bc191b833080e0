-- Validity as facts: what each test of a gateway says, both ways.
use mathlib.Core.Path.{◌≡◌, refl, sym, ◌∙◌, ap, subst}
use mathlib.Core.Logic.{⊎_elim}
use mathlib.Core.Bool.{Bool, true, false, cond, not, ◌&&◌, ◌||◌, true≢false, false≢true}
use mathlib.Core.List.Memᴰ
use mathlib.Core.List.Memᴰ.{head as here}
use mathlib.Core.List.Memᴰ.{tail as there}
use mathlib.Core.List.{List, [], ◌∷◌}
use Prim.Native.Nat.{◌+◌, ◌≤◌, ◌<◌}
use native.Mathlib.Omega.{arith}
use lib.Dec.{leb}
use lib.ListN.{length}
use Rattle.frame.proofs.Presence.{lamp-kinds}
use borrow.Author.Tests.{leb-true, ltb-true, eqb-true, not-true, le-leb, lt-ltb, eq-eqb}
use Rattle.lists.specs.Lists.{◌∈◌, Ascending, none, more, every, tally}
use Rattle.model.specs.Messages.{kind_number, origin_of}
use Rattle.model.specs.Doing.{lead_times_valid, most_stock}
use Rattle.model.specs.declared.Message.{Message}
use Rattle.model.specs.declared.State.{State}
use Rattle.frame.specs.Writing.{well_formed}
use Rattle.frame.specs.Limits.{nothing_due}
use Rattle.memory.specs.Records.{Gateway}
use Rattle.memory.specs.Validity.{settings_valid, round_possible, is_pending, is_processed, is_waiting, equal, later, ordered}
use Rattle.memory.specs.Validity.{processed_first, meet, none_meet, frame_if, storable, is_no_state, entry_valid, sent_valid, valid}
use Rattle.memory.specs.Validity.{brings, still_brings, saved_stocks_bounded, held_stock_bounded}
use Rattle.memory.specs.declared.Settings.{Settings}
use Rattle.memory.specs.declared.Entry.{Entry}
use Rattle.memory.specs.declared.Sent.{Sent}
use Rattle.memory.proofs.EventLaws.{not-later-transitive, neither-later, equal-same, same-equal}
use Rattle.lists.proofs.BoolLaws.{and_both, and_left, and_right}

-- every element passes
module _ {A : Type 0} (f : A → Bool) where
  pub every-each : (xs : List A) → every f xs ≡ true → (x : A) → x ∈ xs → f x ≡ true
  unfolding every
  every-each [] e x m = absurd (Memᴰ.not-nil m)
  every-each (y ∷ ys) e x m =
      ⊎_elim
      (λ (p : x ≡ y). ap f p ∙ and_left (f y) (every f ys) e)
      (λ n. every-each ys (and_right (f y) (every f ys) e) x n)
      (Memᴰ.cases_cons m)

  pub each-every : (xs : List A) → ((x : A) → x ∈ xs → f x ≡ true) → every f xs ≡ true
  unfolding every
  each-every [] h = refl
  each-every (y ∷ ys) h = and_both (f y) (every f ys) (h y (here refl)) (each-every ys (λ x m. h x (there m)))

-- the settings
pub record ValidSettings (s : Settings) : Type 0 where
  pub some : 1 ≤ s.n
  pub n : s.n ≤ 255
  pub own : s.own < s.n
  pub supplier : s.supplier < s.n
  pub last : s.last < nothing_due
  pub q-some : 1 ≤ s.q
  pub q : s.q ≤ 512
  pub u-some : 1 ≤ s.u
  pub u : s.u ≤ 512
  pub hours : lead_times_valid s.hours ≡ true

module _ (s : Settings) where
  pub settings-facts : settings_valid s ≡ true → ValidSettings s
  unfolding settings_valid
  settings-facts e =
      record {
        some = leb-true 1 s.n (search (and_left, and_right) depth 9);
        n = leb-true s.n 255 (search (and_left, and_right) depth 9);
        own = ltb-true s.own s.n (search (and_left, and_right) depth 9);
        supplier = ltb-true s.supplier s.n (search (and_left, and_right) depth 9);
        last = ltb-true s.last nothing_due (search (and_left, and_right) depth 9);
        q-some = leb-true 1 s.q (search (and_left, and_right) depth 9);
        q = leb-true s.q 512 (search (and_left, and_right) depth 9);
        u-some = leb-true 1 s.u (search (and_left, and_right) depth 9);
        u = leb-true s.u 512 (search (and_left, and_right) depth 9);
        hours = search (and_left, and_right) depth 9;
      }

  pub facts-settings : ValidSettings s → settings_valid s ≡ true
  unfolding settings_valid
  facts-settings v = rw (
    le-leb 1 s.n v.some,
    le-leb s.n 255 v.n,
    lt-ltb s.own s.n v.own,
    lt-ltb s.supplier s.n
        v.supplier,
    lt-ltb s.last nothing_due v.last,
    le-leb 1 s.q v.q-some,
    le-leb s.q 512 v.q,
    le-leb 1 s.u
        v.u-some,
    le-leb s.u 512 v.u,
    v.hours,
  )

-- a stored message
pub record Storable (s : Settings) (cancel : Bool) (m : Message) : Type 0 where
  pub kind : kind_number m.kind ≤ 3
  pub form : well_formed (frame_if cancel m) ≡ true
  pub from : m.from < s.n
  pub to : m.to < s.n
  pub origin : origin_of m.kind < s.n
  pub hour : m.hour ≤ s.last

module _ (s : Settings) (cancel : Bool) (m : Message) where
  pub storable-facts : storable s cancel m ≡ true → Storable s cancel m
  unfolding storable
  storable-facts e =
      record {
        kind = leb-true (kind_number m.kind) 3 (search (and_left, and_right) depth 9);
        form = search (and_left, and_right) depth 9;
        from = ltb-true m.from s.n (search (and_left, and_right) depth 9);
        to = ltb-true m.to s.n (search (and_left, and_right) depth 9);
        origin = ltb-true (origin_of m.kind) s.n (search (and_left, and_right) depth 9);
        hour = leb-true m.hour s.last (search (and_left, and_right) depth 9);
      }

  pub facts-storable : Storable s cancel m → storable s cancel m ≡ true
  unfolding storable
  facts-storable v = rw (
    le-leb (kind_number m.kind) 3 v.kind,
    v.form,
    lt-ltb m.from s.n v.from,
    lt-ltb m.to s.n
        v.to,
    lt-ltb (origin_of m.kind) s.n v.origin,
    le-leb m.hour s.last v.hour,
  )

-- a queued one, and an outstanding one
pub record ValidEntry (s : Settings) (e : Entry) : Type 0 where
  pub message : Storable s (is_waiting e) e.message
  pub to : e.message.to ≡ s.own
  pub saved : (is_processed e || is_no_state e.before) ≡ true

pub record ValidSent (s : Settings) (x : Sent) : Type 0 where
  pub message : Storable s x.cancel x.message
  pub kind : kind_number x.message.kind ≤ 2
  pub from : x.message.from ≡ s.own

module _ (s : Settings) where
  pub entry-facts : (e : Entry) → entry_valid s e ≡ true → ValidEntry s e
  unfolding entry_valid
  entry-facts e h =
      record {
        message = storable-facts s (is_waiting e) e.message (search (and_left, and_right));
        to = eqb-true e.message.to s.own (search (and_left, and_right));
        saved = search (and_left, and_right);
      }

  pub facts-entry : (e : Entry) → ValidEntry s e → entry_valid s e ≡ true
  unfolding entry_valid
  facts-entry e v = rw (facts-storable s (is_waiting e) e.message v.message, eq-eqb e.message.to s.own v.to) v.saved

  pub sent-facts : (x : Sent) → sent_valid s x ≡ true → ValidSent s x
  unfolding sent_valid
  sent-facts x h =
      record {
        message = storable-facts s x.cancel x.message (search (and_left, and_right));
        kind = leb-true (kind_number x.message.kind) 2 (sym (lamp-kinds (kind_number x.message.kind)) ∙ search (and_left, and_right));
        from = eqb-true x.message.from s.own (search (and_left, and_right));
      }

  pub facts-sent : (x : Sent) → ValidSent s x → sent_valid s x ≡ true
  unfolding sent_valid
  facts-sent x v = rw (
    facts-storable s x.cancel x.message v.message,
    lamp-kinds (kind_number x.message.kind) ∙ le-leb (kind_number x.message.kind) 2 v.kind,
    eq-eqb
        x.message.from s.own v.from,
  )

-- e may stand before f in a queue: it is not later, not an unprocessed plain message before a processed one, and of equal
-- messages both are waiting cancels or neither is
pub record MayStand (e f : Entry) : Type 0 where
  pub order : later e.message f.message ≡ false
  pub marks : is_pending e ≡ true → is_processed f ≡ false
  pub apart : e.message ≡ f.message → is_waiting e ≡ is_waiting f

-- from neighbours to any two
not-meeting : (e f : Entry) → not (meet e f) ≡ true → e.message ≡ f.message → is_waiting e ≡ is_waiting f
not-meeting e f h p = by-case (is_waiting e) (is_waiting f) (rw (same-equal e.message f.message p) at h)
  where
    by-case : (a b : Bool) → not (true && cond a (not b) b) ≡ true → a ≡ b
    by-case true true k = refl
    by-case true false k = absurd (false≢true k)
    by-case false true k = absurd (false≢true k)
    by-case false false k = refl

meeting-not : (e f : Entry) → (e.message ≡ f.message → is_waiting e ≡ is_waiting f) → not (meet e f) ≡ true
meeting-not e f h = by-case (equal e.message f.message) refl (is_waiting e) (is_waiting f) h
  where
    by-case : (t : Bool) → equal e.message f.message ≡ t → (a b : Bool) → (e.message ≡ f.message → a ≡ b) → not (t && cond a (not b) b) ≡ true
    by-case true p true true k = refl
    by-case true p true false k = absurd (true≢false (k (equal-same e.message f.message p)))
    by-case true p false true k = absurd (false≢true (k (equal-same e.message f.message p)))
    by-case true p false false k = refl
    by-case false p a b k = refl

none-processed : (es : List Entry) → processed_first true es ≡ true → (f : Entry) → f ∈ es → is_processed f ≡ false
unfolding processed_first
none-processed [] h f m = absurd (Memᴰ.not-nil m)
none-processed (e ∷ es) h f m =
    ⊎_elim
    (λ (p : f ≡ e). ap is_processed p ∙ not-true (is_processed e) (and_left (not (is_processed e)) (processed_first true es) h))
    (λ n. none-processed es (and_right (not (is_processed e)) (processed_first true es) h) f n)
    (Memᴰ.cases_cons m)

unseen : (seen : Bool) (es : List Entry) → processed_first true es ≡ true → processed_first seen es ≡ true
unfolding processed_first
unseen seen [] h = refl
unseen seen (e ∷ es) h =
    let first = not-true (is_processed e) (and_left (not (is_processed e)) (processed_first true es) h) in
    let rest = unseen (seen || is_pending e) es (and_right (not (is_processed e)) (processed_first true es) h) in
    and_both (not (seen && is_processed e)) (processed_first (seen || is_pending e) es) (by-case seen first) rest
  where
    by-case : (t : Bool) → is_processed e ≡ false → not (t && is_processed e) ≡ true
    by-case true k = ap not k
    by-case false k = refl

seen-or-not : (seen : Bool) (es : List Entry) → processed_first seen es ≡ true → processed_first false es ≡ true
seen-or-not true es h = unseen false es h
seen-or-not false es h = h

pub first_of : {A : Type 0} {R : A → A → Type 0} {x : A} {xs : List A} → Ascending R (x ∷ xs) → (y : A) → y ∈ xs → R x y
first_of (more f a) = f

pub rest_of : {A : Type 0} {R : A → A → Type 0} {x : A} {xs : List A} → Ascending R (x ∷ xs) → Ascending R xs
rest_of (more f a) = a

-- an entry before the first may stand before all
stands-first : (e f : Entry) {es : List Entry} → later e.message f.message ≡ false → (e.message ≡ f.message → is_waiting e ≡ is_waiting f)
    → (is_pending e ≡ true → (g : Entry) → g ∈ (f ∷ es) → is_processed g ≡ false) → Ascending MayStand (f ∷ es) → (g : Entry) → g ∈ (f ∷ es) → MayStand e g
stands-first e f {es} order apart marks a g m =
    ⊎_elim
    (λ (p : g ≡ f). record {
      order = ap (λ (x : Entry). later e.message x.message) p ∙ order;
      marks = λ h. marks h g m;
      apart = λ h. apart (h ∙ ap (λ (x : Entry). x.message) p) ∙ ap is_waiting (sym p);
    })
    (λ (n : g ∈ es). let r = first_of a g n in record {
      order = not-later-transitive e.message f.message g.message order r.order;
      marks = λ h. marks h g m;
      apart = λ h.
          let k = neither-later e.message f.message order (subst (λ (x : Message). later f.message x ≡ false) (sym h) r.order) in
          apart k ∙ r.apart (sym k ∙ h);
    })
    (Memᴰ.cases_cons m)

pub queue-facts : (es : List Entry) → ordered es ≡ true → processed_first false es ≡ true → none_meet es ≡ true → Ascending MayStand es
unfolding ordered processed_first none_meet
queue-facts [] o p n = none
queue-facts (e ∷ []) o p n = more (λ g m. absurd (Memᴰ.not-nil m)) none
queue-facts (e ∷ f ∷ es) o p n =
    let order = not-true (later e.message f.message) (and_left (not (later e.message f.message)) (ordered (f ∷ es)) o) in
    let apart = not-meeting e f (and_left (not (meet e f)) (none_meet (f ∷ es)) n) in
    let marks : is_pending e ≡ true → (g : Entry) → g ∈ (f ∷ es) → is_processed g ≡ false = λ h. none-processed (f ∷ es) (subst (λ (t : Bool).
    processed_first t (f ∷ es) ≡ true) h p) in
    let rest = queue-facts (f ∷ es) (and_right (not (later e.message f.message)) (ordered (f ∷ es)) o) (seen-or-not (is_pending e) (f ∷
    es) p) (and_right (not (meet e f)) (none_meet (f ∷ es)) n) in
    more (stands-first e f order apart marks rest) rest

-- and back
facts-ordered : (es : List Entry) → Ascending MayStand es → ordered es ≡ true
unfolding ordered
facts-ordered [] a = refl
facts-ordered (e ∷ []) a = refl
facts-ordered (e ∷ f ∷ es) a = and_both (not (later e.message f.message)) (ordered (f ∷ es)) (ap not (first_of a f (here
    refl)).order) (facts-ordered (f ∷ es) (rest_of a))

facts-apart : (es : List Entry) → Ascending MayStand es → none_meet es ≡ true
unfolding none_meet
facts-apart [] a = refl
facts-apart (e ∷ []) a = refl
facts-apart (e ∷ f ∷ es) a = and_both (not (meet e f)) (none_meet (f ∷ es)) (meeting-not e f (first_of a f (here refl)).apart) (facts-apart
    (f ∷ es) (rest_of a))

facts-processed : (seen : Bool) (es : List Entry) → (seen ≡ true → (f : Entry) → f ∈ es → is_processed f ≡ false) → Ascending MayStand es →
    processed_first seen es ≡ true
unfolding processed_first
facts-processed seen [] h a = refl
facts-processed seen (e ∷ es) h a =
    and_both (not (seen && is_processed e)) (processed_first (seen || is_pending e) es)
    (by-case seen (λ k. h k e (here refl)))
    (facts-processed (seen || is_pending e) es (λ k f m. either seen (is_pending e) (λ l. h l f (there m)) (λ l. (first_of a f m).marks l) k) (rest_of a))
  where
    by-case : (t : Bool) → (t ≡ true → is_processed e ≡ false) → not (t && is_processed e) ≡ true
    by-case true k = ap not (k refl)
    by-case false k = refl

    either : {P : Type 0} (a b : Bool) → (a ≡ true → P) → (b ≡ true → P) → (a || b) ≡ true → P
    either true b p q k = p refl
    either false b p q k = q k

-- an entry is still to bring no more than it brings
pub still-less : (e : Entry) → still_brings e ≤ brings e
still-less e = by-case (is_pending e)
  where
    by-case : (b : Bool) → cond b (brings e) 0 ≤ brings e
    by-case true = omega arith
    by-case false = omega arith

-- each stock saved, with the Restocks from its message on
pub data Saved : List Entry → Type 0 where
  no_more : Saved []
  and-more : {e : Entry} {es : List Entry} → (is_processed e ≡ true → e.before.stock + tally brings (e ∷ es) ≤ most_stock) → Saved es → Saved (e ∷ es)

pub saved-facts : (es : List Entry) → saved_stocks_bounded es ≡ true → Saved es
unfolding saved_stocks_bounded
saved-facts [] h = no_more
saved-facts (e ∷ es) h =
    let first = not (is_processed e) || leb (e.before.stock + tally brings (e ∷ es)) most_stock in
    and-more (by-case (is_processed e) (and_left first (saved_stocks_bounded es) h)) (saved-facts es (and_right first (saved_stocks_bounded es) h))
  where
    by-case : (b : Bool) → (not b || leb (e.before.stock + tally brings (e ∷ es)) most_stock) ≡ true → b ≡ true → e.before.stock + tally brings
        (e ∷ es) ≤ most_stock
    by-case true k p = leb-true (e.before.stock + tally brings (e ∷ es)) most_stock k
    by-case false k p = absurd (false≢true p)

pub facts-saved : {es : List Entry} → Saved es → saved_stocks_bounded es ≡ true
unfolding saved_stocks_bounded
facts-saved no_more = refl
facts-saved (and-more {e} {es} f s) = and_both (not (is_processed e) || leb (e.before.stock + tally brings (e ∷ es)) most_stock) (saved_stocks_bounded es) (by-case (is_processed e) f) (facts-saved s)
  where
    by-case : (b : Bool) → (b ≡ true → e.before.stock + tally brings (e ∷ es) ≤ most_stock) → (not b || leb (e.before.stock + tally brings (e
        ∷ es)) most_stock) ≡ true
    by-case true k = le-leb (e.before.stock + tally brings (e ∷ es)) most_stock (k refl)
    by-case false k = refl

-- every stock, held and saved
pub record Stocks (state : State) (es : List Entry) : Type 0 where
  pub held : state.stock + tally still_brings es ≤ most_stock
  pub saved : Saved es

-- all of it
pub record Valid (g : Gateway) : Type 0 where
  pub settings : ValidSettings g.settings
  pub queued : length g.queue ≤ g.settings.q
  pub sent : length g.outstanding ≤ g.settings.u
  pub round : round_possible g.settings g.round ≡ true
  pub entries : (e : Entry) → e ∈ g.queue → ValidEntry g.settings e
  pub order : Ascending MayStand g.queue
  pub stocks : Stocks g.state g.queue
  pub outstanding : (x : Sent) → x ∈ g.outstanding → ValidSent g.settings x

module _ (g : Gateway) where
  pub valid-facts : valid g ≡ true → Valid g
  unfolding valid held_stock_bounded
  valid-facts h =
      record {
        settings = settings-facts g.settings (search (and_left, and_right) depth 11);
        queued = leb-true (length g.queue) g.settings.q (search (and_left, and_right) depth 11);
        sent = leb-true (length g.outstanding) g.settings.u (search (and_left, and_right) depth 11);
        round = search (and_left, and_right) depth 11;
        entries = λ e m. entry-facts g.settings e (every-each (entry_valid g.settings) g.queue (search (and_left, and_right) depth 11) e m);
        order = queue-facts g.queue (search (and_left, and_right) depth 11) (search (and_left, and_right) depth 11) (search (and_left, and_right) depth 11);
        stocks = record {
          held = leb-true (g.state.stock + tally still_brings g.queue) most_stock (search (and_left, and_right) depth 11);
          saved = saved-facts g.queue (search (and_left, and_right) depth 11);
        };
        outstanding = λ x m. sent-facts g.settings x (every-each (sent_valid g.settings) g.outstanding (search (and_left, and_right) depth 11) x m);
      }

  pub facts-valid : Valid g → valid g ≡ true
  unfolding valid held_stock_bounded
  facts-valid v = rw (
    facts-settings g.settings v.settings,
    le-leb (length g.queue) g.settings.q v.queued,
    le-leb (length
        g.outstanding) g.settings.u v.sent,
    v.round,
    each-every (entry_valid g.settings) g.queue (λ e m. facts-entry
        g.settings e (v.entries e m)),
    facts-ordered g.queue v.order,
    facts-processed false g.queue (λ k. absurd (false≢true k))
        v.order,
    facts-apart g.queue v.order,
    facts-saved v.stocks.saved,
    le-leb (g.state.stock + tally still_brings g.queue) most_stock v.stocks.held,
    each-every (sent_valid g.settings) g.outstanding (λ x m. facts-sent g.settings
        x (v.outstanding x m)),
  )
