-- The calls are chains of elementary steps.
use mathlib.Core.Bool.{Bool, true, false, cond, ◌||◌}
use mathlib.Core.List.{List, [], ◌∷◌, ◌++◌, map}
use mathlib.Core.Path.{◌≡◌, refl, sym, ap, subst, ◌∙◌}
use Prim.Native.Nat.{ℕ, zero, suc, ◌≤◌}
use native.Mathlib.Omega.{arith}
use lib.Dec.{ltb, ltb→lt}
use Rattle.lists.specs.Lists.{All, nil, cons, Insert, here, there, any, without_first}
use Rattle.lists.proofs.ListLaws.{insert-last, inserts-back, all-taken, all_map, all_left}
use Rattle.lists.proofs.FamilyLaws.{change-at}
use Rattle.event_steps.specs.Models.{hour, NotLater, sent_by}
use Rattle.event_steps.specs.SingleQueue.{is_not_later, earliest, others}
use Rattle.event_steps.specs.Gateways.{Event, plain, cancel, message, Gateway, history, after}
use Rattle.event_steps.specs.EventSteps.{does, undoes, takes, takes_acknowledgment, commits, Taking, becomes_pending, meets_cancel, strikes_out, waits}
use Rattle.timewarp.specs.Worlds.{Setting, World, Step, event, Steps, none, then}
use Rattle.timewarp.proofs.ExampleCalls.{same, same_event, enqueue, becomes, do_message, do_earliest, work, undo_message, undo_later}
use Rattle.timewarp.proofs.ExampleCalls.{undo_back_to, accept, accept_met, accept_pending, accept_striking, accept_waiting, take_plain}
use Rattle.timewarp.proofs.ExampleCalls.{take_cancel, take_acknowledgment, oldest, newer_ones, commit_oldest, commit}
use Rattle.event_steps.proofs.OrderLaws.{Compared, sooner, later, compared, Sorted, empty, newest, order-refl, order_trans, order-antisym, not-later}
use Rattle.event_steps.proofs.QueueLaws.{first_taken, first-least}
use Rattle.event_steps.proofs.Histories.{bounds-events, acknowledgments-settle}
use Rattle.timewarp.proofs.Joined.{Good, good-steps}
use Rattle.timewarp.proofs.Theorem.{bounds}

-- Chains one after another.
pub steps-join : {S : Setting} {w v u : World S} → Steps S w v → Steps S v u → Steps S w u
steps-join s none = s
steps-join s (then t x) = then (steps-join s t) x

-- An element that stands in the first of two lists.
pub insert-append : {A : Type 0} {a : A} {l m : List A} (k : List A) → Insert a l m → Insert a (l ++ k) (m ++ k)
insert-append k here = here
insert-append k (there i) = there (insert-append k i)

-- What a test finds can be taken out.
without-taken : {A : Type 0} (a : A) (test : A → Bool) → ((b : A) → test b ≡ true → a ≡ b) → (l : List A) → any test l ≡ true → Insert a (without_first test l) l
unfolding any without_first
without-taken a test is [] h = absurd (let z : ◌≡◌ {A = ℕ} 0 1 = cc in omega arith)
without-taken a test is (b ∷ l) h = go (test b) refl (without-taken a test is l)
  where
    go : (x : Bool) → test b ≡ x → (any test l ≡ true → Insert a (without_first test l) l) → Insert a (cond (test b) l (b ∷ without_first test l)) (b ∷ l)
    go true e k = rw e (subst (λ y. Insert a l (y ∷ l)) (is b e) here)
    go false e k = rw e (there (k (rw e at h)))

-- What stands in a list is found.
has-inserted : {A : Type 0} {a : A} (test : A → Bool) → test a ≡ true → {l m : List A} → Insert a l m → any test m ≡ true
unfolding any
has-inserted test e here = rw e
has-inserted test e (there {b = b} {m = m} i) = go (test b) refl (has-inserted test e i)
  where
    go : (x : Bool) → test b ≡ x → any test m ≡ true → (test b || any test m) ≡ true
    go true f k = rw f
    go false f k = rw f k

module _ (S : Setting) where
  open S use {model}
  open model use {Message, key, from, to, last}

  -- The newer part of a sorted history is sorted.
  sorted_front : (l k : List Message) → Sorted model (l ++ k) → Sorted model l
  sorted_front [] k s = empty
  sorted_front (m ∷ l) k (newest a s) = newest (all_left l k a) (sorted_front l k s)

  same-is : (m n : Message) → same S m n ≡ true → m ≡ n
  unfolding same
  same-is m n e = go (compared (key m) (key n)) (compared (key n) (key m))
    where
      go : Compared (key m) (key n) → Compared (key n) (key m) → m ≡ n
      go (sooner p f) (sooner q d) = order-antisym model m n p q
      go (sooner p f) (later q d) = absurd (let z : ◌≡◌ {A = ℕ} 0 1 = cc in omega arith)
      go (later p f) c = absurd (let z : ◌≡◌ {A = ℕ} 0 1 = cc in omega arith)

  same_refl : (m : Message) → same S m m ≡ true
  unfolding same
  same_refl m = rw (not-later (order-refl model m))

  same_event-is : (e f : Event Message) → same_event S e f ≡ true → e ≡ f
  unfolding same_event
  same_event-is (plain m) (plain n) h = ap plain (same-is m n h)
  same_event-is (plain m) (cancel n) h = absurd (let z : ◌≡◌ {A = ℕ} 0 1 = cc in omega arith)
  same_event-is (cancel m) (plain n) h = absurd (let z : ◌≡◌ {A = ℕ} 0 1 = cc in omega arith)
  same_event-is (cancel m) (cancel n) h = ap cancel (same-is m n h)

  same_event-refl : (e : Event Message) → same_event S e e ≡ true
  unfolding same_event
  same_event-refl (plain m) = same_refl m
  same_event-refl (cancel m) = same_refl m

  -- An event under way is taken out by looking for it.
  taken_out : (e : Event Message) {rest l : List (Event Message)} → Insert e rest l → Insert e (without_first (same_event S e) l) l
  taken_out e i = without-taken e (same_event S e) (same_event-is e) _ (has-inserted (same_event S e) (same_event-refl e) i)

  enqueued : (m : Message) (l : List Message) → Insert m l (enqueue S m l)
  unfolding enqueue
  enqueued m [] = here
  enqueued m (n ∷ l) = go (is_not_later (key n) (key m)) refl (enqueued m l)
    where
      go : (x : Bool) → is_not_later (key n) (key m) ≡ x → Insert m l (enqueue S m l) → Insert m (n ∷ l) (cond (is_not_later (key n) (key m)) (n
          ∷ enqueue S m l) (m ∷ (n ∷ l)))
      go true e k = rw e (there k)
      go false e k = rw e here

  module _ (i : ℕ) (inside : i ≤ last) where
    do_earliest-chain : (l : List Message) (w : World S) → (w.events.gateways i).pending ≡ l → Steps S w (do_earliest S i l w)
    unfolding do_earliest do_message becomes
    do_earliest-chain [] w e = none
    do_earliest-chain (m ∷ l) w e =
        then
        none
        (event
        inside
        (does
        (earliest model m l)
        (subst (λ q. Insert (earliest model m l) (others model m l) q) (sym e) (first_taken model m l))
        (first-least model m l)
        (inserts-back _ _)
        (inserts-back _ _)))

    -- Work is a chain of steps.
    pub work-chain : (n : ℕ) (w : World S) → Steps S w (work S n i w)
    unfolding work
    work-chain zero w = none
    work-chain (suc n) w =
        steps-join (do_earliest-chain (w.events.gateways i).pending w refl) (work-chain n (do_earliest S i (w.events.gateways i).pending w))

    module _ (e : Event Message) (to-here : to (message e) ≡ i) where
      abbrev queue : World S → Gateway Message
      queue w = w.events.gateways i

      -- A world reached by undoing, with e still under way.
      record Undone (w v : World S) : Type 0 where
        chain : Steps S w v
        rest : List (Event Message)
        under-way : Insert e rest v.events.network.events

      undo-chain :
          (m : Message) (older : List Message) (w : World S) →
          (queue w).processed ≡ m ∷ older →
          {rest : List (Event Message)} →
          Insert e rest w.events.network.events →
          NotLater model (message e) m →
          Undone w (undo_message S i (queue w) m older w)
      unfolding undo_message becomes after
      undo-chain m older w p under no-later =
          record {
            chain = then none (event inside (undoes m e under to-here no-later p here (inserts-back _ _) (inserts-back _ _)));
            rest = _;
            under-way = insert-append _ under;
          }

      undone-processed : (m : Message) (older : List Message) (w : World S) → (queue (undo_message S i (queue w) m older w)).processed ≡ older
      unfolding undo_message becomes after
      undone-processed m older w = ap (λ g. g.processed) (change-at i _ w.events.gateways i refl)

      undone-pending : (m : Message) (older : List Message) (w : World S) → (queue (undo_message S i (queue w) m older w)).pending ≡ m ∷ (queue w).pending
      unfolding undo_message becomes after
      undone-pending m older w = ap (λ g. g.pending) (change-at i _ w.events.gateways i refl)

      both : {w v u : World S} → Undone w v → Undone v u → Undone w u
      both a b = record { chain = steps-join a.chain b.chain; rest = b.rest; under-way = b.under-way }

      still-under :
          (m : Message) (older : List Message) (w : World S) {rest : List (Event Message)} →
          Insert e rest w.events.network.events →
          Insert e (rest ++ map cancel (sent_by model i (older ++ (queue w).committed) m)) (undo_message S i (queue w) m older w).events.network.events
      unfolding undo_message becomes after
      still-under m older w under = insert-append _ under

      -- Undoing what is later leaves only what is not later.
      record NoneLater (w v : World S) : Type 0 where
        undone : Undone w v
        none-later : All (λ p. NotLater model p (message e)) (queue v).processed

      later-chain :
          (l : List Message) (w : World S) →
          (queue w).processed ≡ l →
          Sorted model l →
          {rest : List (Event Message)} →
          Insert e rest w.events.network.events →
          NoneLater w (undo_later S i (message e) l w)
      unfolding undo_later
      later-chain [] w p s under =
          record {
            undone = record { chain = none; rest = _; under-way = under };
            none-later = subst (All (λ p. NotLater model p (message e))) (sym p) nil;
          }
      later-chain (m ∷ older) w p (newest a s) under =
          go
          (compared (key m) (key (message e)))
          (later-chain older (undo_message S i (queue w) m older w) (undone-processed m older w) s (still-under m older w under))
        where
          go :
              Compared (key m) (key (message e)) →
              NoneLater (undo_message S i (queue w) m older w) (undo_later S i (message e) older (undo_message S i (queue w) m older w)) →
              NoneLater
              w
              (cond (is_not_later (key m) (key (message e))) w (undo_later S i (message e) older (undo_message S i (queue w) m older w)))
          go (sooner c f) k =
              rw f
              (record {
                undone = record { chain = none; rest = _; under-way = under };
                none-later =
                    subst
                    (All (λ p. NotLater model p (message e)))
                    (sym p)
                    (cons c (all_map (λ q b. order_trans model q m (message e) b c) a));
              })
          go (later c f) k =
              rw f (record { undone = both (undo-chain m older w p under c) k.undone; none-later = k.none-later })

      -- Undoing back to an equal message leaves it pending.
      record Back (w v : World S) : Type 0 where
        undone : Undone w v
        is-pending : any (same S (message e)) (queue v).pending ≡ true

      back-chain :
          (l : List Message) (w : World S) →
          (queue w).processed ≡ l →
          Sorted model l →
          any (same S (message e)) l ≡ true →
          {rest : List (Event Message)} →
          Insert e rest w.events.network.events →
          Back w (undo_back_to S i (message e) l w)
      unfolding undo_back_to any
      back-chain [] w p s h under = absurd (let z : ◌≡◌ {A = ℕ} 0 1 = cc in omega arith)
      back-chain (m ∷ older) w p (newest a s) h under =
          go
          (same S (message e) m)
          refl
          (λ k. back-chain older (undo_message S i (queue w) m older w) (undone-processed m older w) s k (still-under m older w under))
        where
          not-later : NotLater model (message e) m
          not-later =
              all-taken
              (without-taken (message e) (same S (message e)) (same-is (message e)) (m ∷ older) h)
              (cons (order-refl model m) a)

          go :
              (x : Bool) →
              same S (message e) m ≡ x →
              (any (same S (message e)) older ≡ true → Back (undo_message S i (queue w) m older w) (undo_back_to S i (message e) older
              (undo_message S i (queue w) m older w))) →
              Back
              w
              (cond (same S (message e) m) (undo_message S i (queue w) m older w) (undo_back_to S i (message e) older (undo_message S i (queue w) m older w)))
          go true f k =
              rw f
              (record {
                undone = undo-chain m older w p under not-later;
                is-pending = has-inserted (same S (message e)) f (subst (Insert m _) (sym (undone-pending m older w)) here);
              })
          go false f k =
              let r = k (rw f at h) in
              rw f (record { undone = both (undo-chain m older w p under not-later) r.undone; is-pending = r.is-pending })

      -- Taking e is a step.
      accept-step :
          (w : World S) (g : Gateway Message) →
          {rest : List (Event Message)} →
          Insert e rest w.events.network.events →
          Taking model (w.rounds.agreed i) (queue w) e g →
          Step S w (accept S i e g w)
      unfolding accept becomes
      accept-step w g under taking = event inside (takes e (taken_out e under) (insert-last _ _) to-here taking)

      -- In a good world no agreed time is above what is under way.
      not-below : (w : World S) → Good S w → {rest : List (Event Message)} → Insert e rest w.events.network.events → w.rounds.agreed
          i ≤ hour model (message e)
      not-below w k under = all-taken under (bounds-events model k.events-sound (bounds S k i inside).outstanding-from)

      processed-sorted : (w : World S) → Good S w → Sorted model (queue w).processed
      unfolding history
      processed-sorted w k = sorted_front (queue w).processed (queue w).committed (k.events-sound.ordered i).sorted

    -- Taking a plain message is a chain of steps.
    pub take_plain-chain :
        (m : Message) (w : World S) →
        Good S w →
        to m ≡ i →
        {rest : List (Event Message)} →
        Insert (plain m) rest w.events.network.events →
        Steps S w (take_plain S i m w)
    unfolding take_plain accept_met accept_pending message
    take_plain-chain m w k to-here under = go (any (same S m) (w.events.gateways i).waiting) refl
      where
        u : NoneLater (plain m) to-here w (undo_later S i m (w.events.gateways i).processed w)
        u = later-chain (plain m) to-here (w.events.gateways i).processed w refl (processed-sorted (plain m) to-here w k) under

        v : World S
        v = undo_later S i m (w.events.gateways i).processed w

        go : (x : Bool) → any (same S m) (w.events.gateways i).waiting ≡ x → Steps S w (take_plain S i m w)
        go true f =
            rw f
            (then none (accept-step (plain m) to-here w _ under (meets_cancel m (without-taken m (same S m) (same-is m) _ f))))
        go false f =
            rw f
            (then
            u.undone.chain
            (accept-step
            (plain m)
            to-here
            v
            _
            u.undone.under-way
            (becomes_pending m (not-below (plain m) to-here v (good-steps S k u.undone.chain) u.undone.under-way) u.none-later (enqueued m _))))

    -- Taking a cancel is a chain of steps.
    pub take_cancel-chain :
        (m : Message) (w : World S) →
        Good S w →
        to m ≡ i →
        {rest : List (Event Message)} →
        Insert (cancel m) rest w.events.network.events →
        Steps S w (take_cancel S i m w)
    unfolding take_cancel accept_striking accept_waiting message
    take_cancel-chain m w k to-here under =
        go (any (same S m) (w.events.gateways i).pending) refl (any (same S m) (w.events.gateways i).processed) refl
      where
        v : World S
        v = undo_back_to S i m (w.events.gateways i).processed w

        back : any (same S m) (w.events.gateways i).processed ≡ true → Back (cancel m) to-here w v
        back f = back-chain (cancel m) to-here (w.events.gateways i).processed w refl (processed-sorted (cancel m) to-here w k) f under

        strike : (u : World S) → {rest : List (Event Message)} → Insert (cancel m) rest u.events.network.events → any (same S m)
            (u.events.gateways i).pending ≡ true → Step S u (accept_striking S i m (u.events.gateways i) u)
        strike u under f = accept-step (cancel m) to-here u _ under (strikes_out m (without-taken m (same S m) (same-is m) _ f))

        go :
            (x : Bool) →
            any (same S m) (w.events.gateways i).pending ≡ x →
            (y : Bool) →
            any (same S m) (w.events.gateways i).processed ≡ y →
            Steps S w (take_cancel S i m w)
        go true f y d = rw f (then none (strike w under f))
        go false f true d = rw (f, d) (then (back d).undone.chain (strike v (back d).undone.under-way (back d).is-pending))
        go false f false d = rw (f, d) (then none (accept-step (cancel m) to-here w _ under (waits m here)))

    -- Taking an acknowledgment is a step.
    pub take_acknowledgment-chain :
        (e : Event Message) (w : World S) →
        Good S w →
        from (message e) ≡ i →
        {rest : List (Event Message)} →
        Insert e rest w.events.network.acknowledgments →
        Steps S w (take_acknowledgment S i e w)
    unfolding take_acknowledgment becomes
    take_acknowledgment-chain e w k to-here under =
        let found = all-taken under (acknowledgments-settle model k.events-sound) in
        let out = subst (λ (j : ℕ). Insert e found.0 (w.events.gateways j).outstanding) to-here found.1 in
        then none (event inside (takes_acknowledgment e (taken_out e under) to-here (taken_out e out)))

    oldest-last : (m : Message) (l : List Message) → m ∷ l ≡ newer_ones S m l ++ (oldest S m l ∷ [])
    unfolding newer_ones oldest
    oldest-last m [] = refl
    oldest-last m (n ∷ l) = ap (λ k. m ∷ k) (oldest-last n l)

    commit_oldest-chain : (l : List Message) (w : World S) → (w.events.gateways i).processed ≡ l → Steps S w (commit_oldest S i l w)
    unfolding commit_oldest becomes
    commit_oldest-chain [] w e = none
    commit_oldest-chain (m ∷ l) w e = go (ltb (hour model (oldest S m l)) (w.rounds.agreed i)) refl
      where
        go : (x : Bool) → ltb (hour model (oldest S m l)) (w.rounds.agreed i) ≡ x → Steps S w (commit_oldest S i (m ∷ l) w)
        go true f =
            rw f (then none (event inside (commits (oldest S m l) (e ∙ oldest-last m l) (ltb→lt _ _ (rw f tt)))))
        go false f = rw f none

    -- Commit is a step, or nothing.
    pub commit-chain : (w : World S) → Steps S w (commit S i w)
    unfolding commit
    commit-chain w = commit_oldest-chain (w.events.gateways i).processed w refl
