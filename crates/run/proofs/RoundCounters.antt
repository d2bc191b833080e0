-- The rounds as the run counts them, and as the theory does: kept by each step of a round.
use mathlib.Core.Path.{◌≡◌, refl, sym, ◌∙◌, ap}
use mathlib.Core.Logic.{◌≢◌}
use mathlib.Core.Bool.{Bool, true, false, cond, ◌&&◌, false≢true}
use mathlib.Core.List.{List}
use Prim.Native.Nat.{ℕ, suc, ◌+◌, ◌-◌, ◌≤◌, ◌<◌}
use native.Mathlib.Omega.{arith}
use lib.Dec.{eqb, ltb, leb}
use lib.ListN.{length}
use borrow.Author.Tests.{leb-true, leb-false, le-leb, lt-leb}
use Rattle.routing.specs.Arcs.{children}
use Rattle.lists.specs.Families.{change, put}
use Rattle.lists.proofs.BoolLaws.{and_left, and_right, and_both}
use Rattle.lists.proofs.FamilyLaws.{Changed, at, off, change?, change-at, change-off, Put, put?, put-off}
use Rattle.round_steps.specs.Arcs.{Graph, Arc}
use Rattle.round_steps.specs.RoundSteps.{idle, counting, stopped, finished, RoundFrame, raise, lower, begin, hear, stop, take_lvt, finish, close, take_update}
use Rattle.round_steps.specs.RoundSteps
use Rattle.run.specs.World.{Rounds, took_more, opens, closes, accepts_update}
use Rattle.run.specs.RoundsEnd.{ended}
use Rattle.run.proofs.ArrivalBits.{one_if, how_many, alike, none_in}
use Rattle.run.proofs.Standing.{lvt_in, lvts-after-start, lvts-elsewhere, lvts-here}

-- whether the round is open: gateway 0 has begun
abbrev pub is_open : ℕ → Bool
is_open s = ltb 0 s

-- the number of messages that a round took, after more
pub more-taken : (f : ℕ → ℕ) (g : ℕ → ℕ) (t c : ℕ) → ((k : ℕ) → f (suc k) ≡ g k) → (k : ℕ) → change (suc t) (f (suc t) + c) f (suc k) ≡ raise t c g k
unfolding raise
more-taken f g t c e k = go (change? t (g t + c) g k)
  where
    go : Changed t (g t + c) g k → change (suc t) (f (suc t) + c) f (suc k) ≡ change t (g t + c) g k
    go (at p d) =
        omega (arith, change-at (suc t) (f (suc t) + c) f (suc k) (omega arith), e t)
    go (off n d) =
        omega (arith, change-off (suc t) (f (suc t) + c) f (suc k) (omega arith), e k)

-- a number is within the next one just where it is within this one, or is the next
one_further : (t k : ℕ) → (suc k ≡ t → ⊥) → leb t k ≡ leb t (suc k)
one_further t k n = go (leb t k) refl
  where
    go : (b : Bool) → leb t k ≡ b → leb t k ≡ leb t (suc k)
    go true e = e ∙ sym (le-leb t (suc k) (omega (arith, leb-true t k e)))
    go false e = e ∙ sym (lt-leb t (suc k) (omega (arith, leb-false t k e)))

-- gateway 0 has accepted one more Lvt
abbrev pub one_more : Rounds → Rounds
one_more c = record { opened = c.opened; open? = c.open?; lvts = suc c.lvts; took = c.took; closed = c.closed; accepted = c.accepted }

-- Round t of the theory is round t + 1 of the run.
pub record Counted (G : Graph) (c : Rounds) (r : RoundSteps.Rounds) : Type 0 where
  pub opened : c.opened ≡ r.tag + one_if c.open?
  pub is_open_lem : c.open? ≡ is_open (r.status 0)
  pub lvts : c.open? ≡ true → c.lvts ≡ how_many (lvt_in G r.arrived 0) (G.to 0)
  pub took : (t : ℕ) → c.took (suc t) ≡ r.written t
  pub closed : (t : ℕ) → c.closed t ≡ (leb 1 t && leb t r.tag)
  pub accepted : (t j : ℕ) → 0 < j → c.accepted (suc t) j ≡ leb 1 (r.accepted t j)

module _ (G : Graph) (c : Rounds) (r : RoundSteps.Rounds) (h : Counted G c r) where
  open r use {status, arrived, tag, written}

  -- the open round's number
  pub open-number : c.open? ≡ true → c.opened ≡ suc tag
  open-number o = omega (arith, h.opened, ap one_if o)

  -- as many rounds have ended as the theory has closed
  pub ended-closed : (t : ℕ) → c.closed t ≡ (leb 1 t && leb t (ended c))
  ended-closed t = h.closed t ∙ ap (λ k. leb 1 t && leb t k) (sym (go c.open? refl))
    where
      go : (b : Bool) → c.open? ≡ b → cond b (c.opened - 1) c.opened ≡ tag
      go true o = omega (arith, open-number o)
      go false o = omega (arith, h.opened, ap one_if o)

  -- a closed round's number
  pub closed-number : (t : ℕ) → c.closed t ≡ true → (1 ≤ t) × (t ≤ tag)
  closed-number t e =
      let both = sym (h.closed t) ∙ e in
      (leb-true 1 t (and_left (leb 1 t) (leb t tag) both), leb-true t tag (and_right (leb 1 t) (leb t tag) both))

  -- messages that the open round took more
  more-in-open : (m : ℕ) → c.open? ≡ true → (t : ℕ) → (took_more c.opened m c).took (suc t) ≡ raise tag m written t
  more-in-open m o t = rw (open-number o) (more-taken c.took written tag m h.took t)

  -- gateway j takes the Start from i
  pub hear-counted : (i j : ℕ) (rest : List RoundFrame) → arrived i j ≡ 0 → Counted G c (hear i j rest r)
  unfolding hear
  hear-counted i j rest z =
      record {
        opened = h.opened;
        is_open_lem = h.is_open_lem;
        lvts =
            λ o. h.lvts o
            ∙ sym (alike (lvt_in G (put i j 1 arrived) 0) (lvt_in G arrived 0) (G.to 0) (λ x m. lvts-after-start G arrived i j z 0 x)).1;
        took = h.took;
        closed = h.closed;
        accepted = h.accepted;
      }

  -- gateway 0 begins
  pub open-counted : (v : ℕ) → status 0 ≡ idle → ((k : ℕ) → Arc G 0 k → arrived 0 k ≡ 0)
      → Counted G (took_more (opens c).opened (length (G.to 0)) (opens c)) (begin G 0 v r)
  unfolding begin
  open-counted v s z =
      let shut : c.open? ≡ false = h.is_open_lem ∙ ap is_open s in
      let number : c.opened ≡ tag = omega (arith, h.opened, ap one_if shut) in
      record {
        opened = omega arith;
        is_open_lem = sym (ap is_open (change-at 0 counting status 0 refl));
        lvts = λ o. sym (none_in (lvt_in G arrived 0) (G.to 0) (λ k a. ap (λ (x : ℕ). eqb x 2) (z k a))).1;
        took = λ t. rw number (more-taken c.took written tag (length (G.to 0)) h.took t);
        closed = h.closed;
        accepted = h.accepted;
      }

  -- another gateway begins
  pub begin-counted : (i v : ℕ) → i ≢ 0 → c.open? ≡ true → Counted G (took_more c.opened (length (G.to i)) c) (begin G i v r)
  unfolding begin
  begin-counted i v n o =
      record {
        opened = h.opened;
        is_open_lem = h.is_open_lem ∙ sym (ap is_open (change-off i counting status 0 n));
        lvts = h.lvts;
        took = more-in-open (length (G.to i)) o;
        closed = h.closed;
        accepted = h.accepted;
      }

  -- a gateway stops
  pub stop-counted : (i v : ℕ) → status i ≡ counting → Counted G c (stop i v r)
  unfolding stop
  stop-counted i v s =
      record {
        opened = h.opened;
        is_open_lem = go (change? i stopped status 0);
        lvts = h.lvts;
        took = h.took;
        closed = h.closed;
        accepted = h.accepted;
      }
    where
      go : Changed i stopped status 0 → c.open? ≡ is_open (change i stopped status 0)
      go (at p e) = h.is_open_lem ∙ ap is_open (sym (ap status p) ∙ s) ∙ sym (ap is_open e)
      go (off n e) = h.is_open_lem ∙ sym (ap is_open e)

  -- a gateway but 0 takes an Lvt
  pub lvt-counted : (j i t : ℕ) (rest : List RoundFrame) → i ≢ 0 → Counted G c (take_lvt j i t rest r)
  unfolding take_lvt
  lvt-counted j i t rest n =
      record {
        opened = h.opened;
        is_open_lem = h.is_open_lem;
        lvts =
            λ o. h.lvts o
            ∙ sym (alike (lvt_in G (put i j 2 arrived) 0) (lvt_in G arrived 0) (G.to 0) (λ x m. lvts-elsewhere G arrived i j 0 n x)).1;
        took = h.took;
        closed = h.closed;
        accepted = h.accepted;
      }

  -- gateway 0 takes an Lvt
  pub own-lvt-counted : (j t : ℕ) (rest : List RoundFrame) → Arc G 0 j → arrived 0 j ≡ 1
      → Counted G (one_more c) (take_lvt j 0 t rest r)
  unfolding take_lvt
  own-lvt-counted j t rest a z =
      record {
        opened = h.opened;
        is_open_lem = h.is_open_lem;
        lvts = λ o. omega (arith, h.lvts o, (lvts-here G arrived 0 j a z).1);
        took = h.took;
        closed = h.closed;
        accepted = h.accepted;
      }

  -- a gateway but 0 sends its Lvts
  pub finish-counted : (j : ℕ) → 0 < j → c.open? ≡ true → Counted G (took_more c.opened (length (G.from j)) c) (finish G j r)
  unfolding finish
  finish-counted j n o =
      record {
        opened = h.opened;
        is_open_lem = h.is_open_lem ∙ sym (ap is_open (change-off j finished status 0 (omega arith)));
        lvts = h.lvts;
        took = more-in-open (length (G.from j)) o;
        closed = h.closed;
        accepted = h.accepted;
      }

  -- the round is closed
  pub close-counted : c.open? ≡ true → Counted G (closes (took_more c.opened (length (children (suc G.last) 0)) c)) (close G r)
  unfolding close
  close-counted o =
      record {
        opened = omega (arith, open-number o);
        is_open_lem = refl;
        lvts = λ e. absurd (false≢true e);
        took = more-in-open (length (children (suc G.last) 0)) o;
        closed = λ t. is-closed t (change? c.opened true c.closed t);
        accepted =
            λ t j p. h.accepted t j p ∙ ap (leb 1) (sym (put-off tag 0 1 r.accepted t j (λ e. omega arith)));
      }
    where
      is-closed : (t : ℕ) → Changed c.opened true c.closed t → change c.opened true c.closed t ≡ (leb 1 t && leb t (suc tag))
      is-closed t (at p e) =
          let number = open-number o in
          e ∙ sym (and_both (leb 1 t) (leb t (suc tag)) (le-leb 1 t (omega arith)) (le-leb t (suc tag) (omega arith)))
      is-closed t (off p e) = e ∙ h.closed t ∙ ap (λ b. leb 1 t && b) (one_further t tag (λ d. p (open-number o ∙ d)))

  -- gateway j takes the Update of round t
  pub update-counted : (j t v : ℕ) (rest : List RoundFrame)
      → Counted G (accepts_update (suc t) j (took_more (suc t) (length (children (suc G.last) j)) c)) (take_update G j t v rest r)
  unfolding take_update put
  update-counted j t v rest =
      record {
        opened = h.opened;
        is_open_lem = h.is_open_lem;
        lvts = h.lvts;
        took = more-taken c.took written t (length (children (suc G.last) j)) h.took;
        closed = h.closed;
        accepted = λ u k p. is-accepted u k p (put? t j (suc (r.accepted t j)) r.accepted u k) (put? (suc t) j true c.accepted (suc u) k);
      }
    where
      is-accepted : (u k : ℕ) → 0 < k → Put t j (suc (r.accepted t j)) r.accepted u k → Put (suc t) j true c.accepted (suc u) k
          → put (suc t) j true c.accepted (suc u) k ≡ leb 1 (put t j (suc (r.accepted t j)) r.accepted u k)
      is-accepted u k p (at a b e) (at x y d) = d ∙ sym (le-leb 1 (put t j (suc (r.accepted t j)) r.accepted u k) (omega arith))
      is-accepted u k p (at a b e) (off x d) = absurd (x (omega arith) b)
      is-accepted u k p (off a e) (at x y d) = absurd (a (omega arith) y)
      is-accepted u k p (off a e) (off x d) = d ∙ h.accepted u k p ∙ ap (leb 1) (sym e)

  -- a gateway sends a message or cancel
  pub lower-counted : (i t : ℕ) → Counted G c (lower i t r)
  unfolding lower
  lower-counted i t =
      record { opened = h.opened; is_open_lem = h.is_open_lem; lvts = h.lvts; took = h.took; closed = h.closed; accepted = h.accepted }

  -- only the numbers taken matter
  pub same-counted : (d : Rounds) → d.opened ≡ c.opened → d.open? ≡ c.open? → d.lvts ≡ c.lvts
      → ((t : ℕ) → d.took (suc t) ≡ c.took (suc t)) → d.closed ≡ c.closed → d.accepted ≡ c.accepted → Counted G d r
  same-counted d p q l e k a =
      record {
        opened = rw (p, q) h.opened;
        is_open_lem = q ∙ h.is_open_lem;
        lvts = λ o. l ∙ h.lvts (sym q ∙ o);
        took = λ t. e t ∙ h.took t;
        closed = rw k h.closed;
        accepted = rw a h.accepted;
      }
