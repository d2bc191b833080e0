-- Laws of event order, of sorted histories, and of equality of messages and events.
use mathlib.Core.Bool.{Bool, true, false, cond}
use mathlib.Core.List.{List, [], ◌∷◌, List-discrete}
use mathlib.Core.Path.{◌≡◌, refl, sym, ap, ap₂, subst, ◌∙◌}
use mathlib.Core.Logic.{◌≢◌}
use Prim.Native.Nat.{ℕ, ◌≤◌, ◌<◌}
use native.Mathlib.Omega.{arith}
use native.Mathlib.Decide.{ℕ_discrete}
use lib.Dec.{T, ltb, eqb, ltb→lt, lt→ltb, nltb→le, eqb→eq, eqb_refl}
use Rattle.lists.specs.Lists.{All, cons, matches, count}
use Rattle.lists.proofs.ListLaws.{matches-same, count-nil, count-cons, all-count}
use Rattle.event_steps.specs.Models.{first, KeyNotLater, ended, less, same, Model, hour, NotLater}
use Rattle.event_steps.specs.SingleQueue.{is_not_later}
use Rattle.event_steps.specs.Gateways.{Event, plain, cancel}

pub key-refl : (k : List ℕ) → KeyNotLater k k
key-refl [] = ended
key-refl (a ∷ k) = same refl (key-refl k)

pub key-trans : {j k l : List ℕ} → KeyNotLater j k → KeyNotLater k l → KeyNotLater j l
key-trans ended q = ended
key-trans (less {a = a} h) (less {b = c} k) = less {a = a} {b = c} (omega arith)
key-trans (less {a = a} h) (same {b = c} e q) = less {a = a} {b = c} (omega arith)
key-trans (same {a = a} e p) (less {b = c} k) = less {a = a} {b = c} (omega arith)
key-trans (same e p) (same f q) = same (e ∙ f) (key-trans p q)

pub key-antisym : {k l : List ℕ} → KeyNotLater k l → KeyNotLater l k → k ≡ l
key-antisym ended ended = refl
key-antisym (less h) (less k) = absurd (omega arith)
key-antisym (less h) (same e q) = absurd (omega arith)
key-antisym (same e p) (less k) = absurd (omega arith)
key-antisym (same {a = a} {k = k} e p) (same f q) = rw (e, key-antisym p q)

pub key-first : {k l : List ℕ} → KeyNotLater k l → first k ≤ first l
unfolding first
key-first ended = omega arith
key-first (less h) = omega arith
key-first (same e p) = omega arith

pub first_key : (k l : List ℕ) → first k < first l → KeyNotLater k l
unfolding first
first_key [] l h = ended
first_key (a ∷ k) [] h = absurd (omega arith)
first_key (a ∷ k) (b ∷ l) h = less h

-- What the test of key order says.
pub data Compared (k l : List ℕ) : Type 0 where
  sooner : KeyNotLater k l → is_not_later k l ≡ true → Compared k l
  later : KeyNotLater l k → is_not_later k l ≡ false → Compared k l

pub compared : (k l : List ℕ) → Compared k l
unfolding is_not_later
compared [] l = sooner ended refl
compared (a ∷ k) [] = later ended refl
compared (a ∷ k) (b ∷ l) = go (ltb a b) refl (eqb a b) refl (compared k l)
  where
    go : (x : Bool) → ltb a b ≡ x → (y : Bool) → eqb a b ≡ y → Compared k l → Compared (a ∷ k) (b ∷ l)
    go true e y f c = sooner (less (ltb→lt a b (rw e tt))) (rw e)
    go false e true f (sooner c d) = sooner (same (eqb→eq a b (rw f tt)) c) (rw (e, f) d)
    go false e true f (later c d) = later (same (sym (eqb→eq a b (rw f tt))) c) (rw (e, f) d)
    go false e false f c =
        let apart : a ≢ b = λ p. subst T f (subst (λ (x : ℕ). T (eqb a x)) p (eqb_refl a)) in
        later (less {a = b} {b = a} (omega (arith, nltb→le a b (rw e tt)))) (rw (e, f))

holds : (b : Bool) → T b → b ≡ true
holds true t = refl
holds false t = absurd t

pub not-later : {k l : List ℕ} → KeyNotLater k l → is_not_later k l ≡ true
unfolding is_not_later
not-later ended = refl
not-later (less {a = a} {b = b} h) = rw (holds (ltb a b) (lt→ltb a b h))
not-later (same {a = a} {b = b} {k = k} {l = l} e p) = go (ltb a b) refl (not-later p)
  where
    equal : eqb a b ≡ true
    equal = holds (eqb a b) (subst (λ (c : ℕ). T (eqb a c)) e (eqb_refl a))

    go : (x : Bool) → ltb a b ≡ x → is_not_later k l ≡ true → cond (ltb a b) true (cond (eqb a b) (is_not_later k l) false) ≡ true
    go true f q = rw f
    go false f q = rw (f, equal, q)

module _ (M : Model) where
  open M use {Message, key, key-injective}

  pub order-refl : (m : Message) → NotLater M m m
  order-refl m = key-refl (key m)

  pub order_trans : (l m n : Message) → NotLater M l m → NotLater M m n → NotLater M l n
  order_trans l m n p q = key-trans p q

  pub order-antisym : (m n : Message) → NotLater M m n → NotLater M n m → m ≡ n
  order-antisym m n p q = key-injective m n (key-antisym p q)

  pub hour-order : (m n : Message) → NotLater M m n → hour M m ≤ hour M n
  unfolding hour
  hour-order m n p = key-first p

  pub order-hour : (m n : Message) → hour M m < hour M n → NotLater M m n
  unfolding hour
  order-hour m n h = first_key (key m) (key n) h

  -- Equality of messages is decided by their keys, that of events by their messages.
  pub message-eq : Discrete Message
  message-eq m n = go (List-discrete ℕ_discrete (key m) (key n))
    where
      go : Dec (key m ≡ key n) → Dec (m ≡ n)
      go (yes e) = yes (key-injective m n e)
      go (no e) = no (λ p. e (ap key p))

  pub event-eq : Discrete (Event Message)
  event-eq (plain m) (plain n) = go (message-eq m n)
    where
      go : Dec (m ≡ n) → Dec (plain m ≡ plain n)
      go (yes e) = yes (ap plain e)
      go (no e) = no (λ p. e (cc))
  event-eq (plain m) (cancel n) = no (λ p. let z : ◌≡◌ {A = ℕ} 0 1 = cc in omega arith)
  event-eq (cancel m) (plain n) = no (λ p. let z : ◌≡◌ {A = ℕ} 0 1 = cc in omega arith)
  event-eq (cancel m) (cancel n) = go (message-eq m n)
    where
      go : Dec (m ≡ n) → Dec (cancel m ≡ cancel n)
      go (yes e) = yes (ap cancel e)
      go (no e) = no (λ p. e (cc))

  -- A sorted history: no event is later than one in front of it.
  pub data Sorted : List Message → Type 0 where
    empty : Sorted []
    newest : {m : Message} {h : List Message} → All (λ p. NotLater M p m) h → Sorted h → Sorted (m ∷ h)

  -- A sorted history is known by how often each message occurs.
  pub sorted-unique : {h k : List Message} → Sorted h → Sorted k → ((x : Message) → count message-eq x h ≡ count message-eq x k) → h ≡ k
  sorted-unique empty empty e = refl
  sorted-unique empty (newest {m = b} {h = k} p s) e =
      absurd (omega (arith, e b, count-nil message-eq b, count-cons message-eq b b k, matches-same message-eq b))
  sorted-unique (newest {m = b} {h = k} p s) empty e =
      absurd (omega (arith, e b, count-nil message-eq b, count-cons message-eq b b k, matches-same message-eq b))
  sorted-unique (newest {m = a} {h = h} p s) (newest {m = b} {h = k} q t) e =
      ap₂ ◌∷◌ same_head (sorted-unique s t tails)
    where
      same_head : a ≡ b
      same_head =
          order-antisym
          a
          b
          (all-count
          message-eq
          a
          (cons (order-refl b) q)
          (omega (arith, e a, count-cons message-eq a a h, matches-same message-eq a)))
          (all-count
          message-eq
          b
          (cons (order-refl a) p)
          (omega (arith, e b, count-cons message-eq b b k, matches-same message-eq b)))

      tails : (x : Message) → count message-eq x h ≡ count message-eq x k
      tails x =
          omega
          (arith, e x, count-cons message-eq x a h, count-cons message-eq x b k, ap (matches message-eq x) same_head)
